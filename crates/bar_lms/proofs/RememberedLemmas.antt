-- Chain values that are kept.
use Rattle.std.proofs.Common.{◌≡◌, ℕ, ◌+◌, ◌*◌, ◌≤◌, ◌<◌, ◌++◌, length, take, drop, List, None, sym, ap, ◌∙◌, slice_index_or}
use Rattle.std.proofs.lemmas.List.{drop_at, drop-take, length-take-le}
use Rattle.std.proofs.lemmas.List.Elements.{All-get_or}
use Rattle.std.specs.Prelude.{All}
use Rattle.bar_bytes.specs.Code.Room.{RoomFor}
use Rattle.bar_lms.specs.declared.chain_values.ChainValues.{ChainValues}
use Rattle.bar_lms.specs.declared.params.Ots.{Ots}
use Rattle.bar_lms.specs.declared.private.Private.{Private}
use Rattle.bar_lms.specs.Params.{chains}
use Rattle.bar_lms.specs.Signature.{signed_value}
use Rattle.bar_lms.specs.Code.Remembered.{chain_values, AreValuesOf}
use Rattle.bar_lms.proofs.Accepted.{length-joined, length-value}

-- the chain values of a key have one length
pub length-chain_values : (t : Private) (q : ℕ) (hash : List ℕ) → length (chain_values t q hash) ≡ 32 * chains t.params.ots
unfolding signed_value
length-chain_values t q hash = length-joined (signed_value t q hash) (chains t.params.ots) (λ i. length-value t q _ i)

-- bytes that were written at a place are read from there
pub read_back : (out next bytes : List ℕ) (at n : ℕ) → at ≤ length out → take (at + n) next ≡ take at out ++ bytes → take n (drop at next) ≡ bytes
read_back out next bytes at n room grown =
    sym (drop-take at n next) ∙ rw grown (drop_at (take at out) bytes at (length-take-le at out room))

-- what holds for each place holds for one of them
pub values_at : (ots : Ots) (places : List ChainValues) (i : ℕ) (v : ChainValues) → v ≡ slice_index_or places i v → i < length places
    → All (AreValuesOf ots) places → AreValuesOf ots v
values_at ots places i v is inside all = rw is (All-get_or (AreValuesOf ots) places i v inside all)

-- a place in which nothing is kept
pub none_kept : (ots : Ots) (v : ChainValues) → v.values ≡ record { size = 32 * chains ots; kept = None } → AreValuesOf ots v
none_kept ots v is = record {
  size = ap (λ (r : RoomFor). r.size) is;
  kept = λ bytes kept. absurd (let no : v.values.kept ≡ None = ap (λ (r : RoomFor). r.kept) is in cc (no, kept));
}

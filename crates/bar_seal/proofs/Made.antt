-- The places of a memo while they are made, the last first.
use Rattle.std.proofs.Common.{◌≡◌, ℕ, ◌+◌, ◌-◌, ◌≤◌, ◌<◌, false, List, [], ◌∷◌, length, take, Option, None, nat_eq, refl, sym, ap, ◌∙◌, subst, arith}
use Rattle.std.proofs.lemmas.Bool.Decides.{nat_tests}
use Rattle.std.proofs.lemmas.List.{take_all}
use Rattle.std.specs.List.{IsDistinct, AllByRecursion}
use Rattle.std.specs.Map.{keys_of, lookup_entry, remove_entry}
use Rattle.std.specs.Option.{option_map_or}
use Rattle.lru.specs.LruCache.{LruCache, put_entries}
use Rattle.std.specs.Prelude.{option_map, option_and_then}
use Rattle.bar_bytes.specs.Code.Room.{RoomFor}
use Rattle.bar_seal.specs.declared.checked.Checked.{Checked}
use Rattle.bar_seal.specs.Code.Memo.{most_key, most_datagram, pair_in, pairs_in}
use Rattle.bar_seal.specs.Code.Places.{AreAll, AreRoomy, AreFree, IsFilledFirst, IsRoomy}
use Rattle.bar_seal.proofs.Remembered.{Place}
use Rattle.bar_seal.proofs.Recalled.{free_pairs}

-- The places below a number, in which nothing is kept.
pub record AreMade (n : ℕ) (es : List Place) : Type 0 where
  pub count : length es ≡ n
  pub below : AllByRecursion (λ k. k < n) (keys_of es)
  pub apart : IsDistinct nat_eq (keys_of es)
  pub roomy : AreRoomy es
  pub free : AreFree es

pub made_none : AreMade 0 []
unfolding IsDistinct
made_none = record { count = refl; below = tt; apart = tt; roomy = tt; free = tt }

above : (n k : ℕ) → k < n → nat_eq n k ≡ false
above n k below = grind (arith, nat_tests)

all_above : (n : ℕ) (es : List Place) → AllByRecursion (λ k. k < n) (keys_of es) → AllByRecursion (λ k. nat_eq n k ≡ false) (keys_of es)
all_above n [] below = tt
all_above n (e ∷ es) below = (above n e.0 below.0, all_above n es below.1)

not_there : (n : ℕ) (es : List Place) → AllByRecursion (λ k. k < n) (keys_of es) → lookup_entry (nat_eq n) es ≡ None
not_there n [] below = refl
not_there n (e ∷ es) below = rw (above n e.0 below.0) (not_there n es below.1)

all_below : (n : ℕ) (es : List Place) → AllByRecursion (λ k. k < n) (keys_of es) → AllByRecursion (λ k. k < n + 1) (keys_of es)
all_below n [] below = tt
all_below n (e ∷ es) below = (omega (arith, below.0), all_below n es below.1)

pub made_more : (c : LruCache ℕ Checked) (n : ℕ) (w : Checked) → AreMade n c.entries → n < c.cap → IsRoomy w → pair_in w ≡ None
    → AreMade (n + 1) (put_entries nat_eq c n w)
unfolding IsDistinct
made_more c n w made room roomy free =
    let put : put_entries nat_eq c n w ≡ (n, w) ∷ c.entries =
    ap (λ (o : Option Place). option_map_or (λ e. (e.0, w) ∷ remove_entry (nat_eq n) c.entries) o ((n, w) ∷ take (c.cap - 1) c.entries)) (not_there n c.entries made.below)
    ∙ ap (λ (es : List Place). (n, w) ∷ es) (take_all (c.cap - 1) c.entries (omega (arith, made.count, room)))
    in
    subst (AreMade (n + 1)) (sym put) (record {
      count = omega (arith, made.count);
      below = (omega arith, all_below n c.entries made.below);
      apart = (all_above n c.entries made.below, made.apart);
      roomy = (roomy, made.roomy);
      free = (free, made.free);
    })

free_filled : (es : List Place) → AreFree es → IsFilledFirst es
free_filled [] free = tt
free_filled (e ∷ es) free = ((λ none. free.1), free_filled es free.1)

pub made_all : (c : LruCache ℕ Checked) (n : ℕ) → AreMade n c.entries → n ≡ c.cap → 1 ≤ n → AreAll c
made_all c n made is one = record {
  some = record { apart = made.apart; roomy = made.roomy; filled = free_filled c.entries made.free };
  count = made.count ∙ is;
  one = omega (arith, is, one);
}

pub made_pairs : (n : ℕ) (es : List Place) → AreMade n es → pairs_in es ≡ []
made_pairs n es made = free_pairs es made.free

-- a place that is just made
pub fresh_roomy : (w : Checked) → w.key ≡ record { size = most_key; kept = None } → w.datagram ≡ record { size = most_datagram; kept = None } → IsRoomy w
fresh_roomy w key datagram = record { key = ap (λ (r : RoomFor). r.size) key; datagram = ap (λ (r : RoomFor). r.size) datagram }

pub fresh_free : (w : Checked) → w.key ≡ record { size = most_key; kept = None } → pair_in w ≡ None
fresh_free w key = ap (λ (r : RoomFor). option_and_then (λ k. option_map (λ datagram. (k, datagram)) w.datagram.kept) r.kept) key

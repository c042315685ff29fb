-- A public key and its bytes.
use Rattle.std.proofs.Common.{◌≡◌, ℕ, ◌+◌, ◌<◌, ◌≤◌, ◌++◌, inl, inr, length, take, drop, List, get_or, refl, arith, ap, sym, ◌∙◌, length-drop}
use Rattle.std.proofs.lemmas.List.{append_assoc, take_at, drop_at, take-append-drop, drop-drop, length-take-le, get_or-take, get_or-drop, get_or_past, length-take}
use Rattle.std.proofs.lemmas.Bool.{cases_lt}
use Rattle.std.proofs.lemmas.Nat.{from_be_bytes-to_be_bytes_4, be_bytes_4}
use Rattle.std.specs.Int.{w32, to_be_bytes, from_be_bytes}
use Rattle.bar_lms.specs.Params.{lms_type, ots_type}
use Rattle.bar_lms.specs.Signature.{Public, IsPublic, key_bytes, number_at}
use Rattle.bar_lms.proofs.Accepted.{lms_fits, ots_fits}

-- 56 bytes in their four parts
in_parts : (bytes : List ℕ) → take 4 (drop 0 bytes) ++ take 4 (drop 4 bytes) ++ take 16 (drop 8 bytes) ++ drop 24 bytes ≡ bytes
in_parts bytes =
    let last : take 16 (drop 8 bytes) ++ drop 24 bytes ≡ drop 8 bytes =
    ap (λ (x : List ℕ). take 16 (drop 8 bytes) ++ x) (sym (drop-drop 16 8 bytes)) ∙ take-append-drop 16 (drop 8 bytes)
    in
    let middle : take 4 (drop 4 bytes) ++ drop 8 bytes ≡ drop 4 bytes =
    ap (λ (x : List ℕ). take 4 (drop 4 bytes) ++ x) (sym (drop-drop 4 4 bytes)) ∙ take-append-drop 4 (drop 4 bytes)
    in
    append_assoc (take 4 bytes ++ take 4 (drop 4 bytes)) (take 16 (drop 8 bytes)) (drop 24 bytes)
    ∙ (ap (λ (x : List ℕ). take 4 bytes ++ take 4 (drop 4 bytes) ++ x) last
    ∙ (append_assoc (take 4 bytes) (take 4 (drop 4 bytes)) (drop 8 bytes)
    ∙ (ap (λ (x : List ℕ). take 4 bytes ++ x) middle ∙ take-append-drop 4 bytes)))

part_fits : (bytes : List ℕ) (at : ℕ) → ((i : ℕ) → get_or bytes i 0 < 256) → (i : ℕ) → get_or (take 4 (drop at bytes)) i 0 < 256
part_fits bytes at fits i =
    elim (cases_lt i 4) [
      | inl below ↦ rw (get_or-take 4 (drop at bytes) i 0 below, get_or-drop at bytes i 0) (fits (at + i))
      | inr past ↦ rw (get_or_past (take 4 (drop at bytes)) i 0 (omega (arith, length-take {A = ℕ}))) (omega arith)
    ]

-- four bytes are the encoding of their number
number_bytes : (bytes : List ℕ) (at n : ℕ) → at + 4 ≤ length bytes → ((i : ℕ) → get_or bytes i 0 < 256) → number_at bytes at ≡ n → take 4 (drop at bytes) ≡ to_be_bytes w32 n
number_bytes bytes at n room fits is =
    sym (be_bytes_4 (take 4 (drop at bytes)) n (length-take-le 4 (drop at bytes) (omega (arith, length-drop {A = ℕ}))) (part_fits bytes at fits) (sym is))

pub read_spells : (bytes : List ℕ) (k : Public) → length bytes ≡ 56 → ((i : ℕ) → get_or bytes i 0 < 256) → number_at bytes 0 ≡ lms_type k.params.height → number_at bytes 4 ≡ ots_type k.params.ots
    → k.ident ≡ take 16 (drop 8 bytes) → k.root ≡ drop 24 bytes → bytes ≡ key_bytes k
read_spells bytes k long fits lms ots ident root =
    sym (in_parts bytes) ∙ rw (number_bytes bytes 0 _ (omega arith) fits lms, number_bytes bytes 4 _ (omega arith) fits ots, ← ident, ← root) refl

pub record Spelled (bytes : List ℕ) (k : Public) : Type 0 where
  pub lms : number_at bytes 0 ≡ lms_type k.params.height
  pub ots : number_at bytes 4 ≡ ots_type k.params.ots
  pub ident : take 16 (drop 8 bytes) ≡ k.ident
  pub root : drop 24 bytes ≡ k.root

pub spelled : (bytes : List ℕ) (k : Public) → IsPublic k → bytes ≡ key_bytes k → Spelled bytes k
spelled bytes k is spells =
    let a = to_be_bytes w32 (lms_type k.params.height) in
    let b = to_be_bytes w32 (ots_type k.params.ots) in
    let whole : bytes ≡ a ++ (b ++ (k.ident ++ k.root)) = spells in
    record {
      lms = ap (from_be_bytes w32) (ap (take 4) whole) ∙ from_be_bytes-to_be_bytes_4 (lms_type k.params.height) (lms_fits k.params.height);
      ots = ap (from_be_bytes w32) (ap (λ (x : List ℕ). take 4 (drop 4 x)) whole) ∙ from_be_bytes-to_be_bytes_4 (ots_type k.params.ots) (ots_fits k.params.ots);
      ident = ap (λ (x : List ℕ). take 16 (drop 8 x)) whole ∙ take_at k.ident k.root 16 is.ident;
      root = ap (drop 24) whole ∙ drop_at (a ++ b ++ k.ident) k.root 24 (omega (arith, is.ident));
    }

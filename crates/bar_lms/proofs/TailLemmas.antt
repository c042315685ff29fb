-- The bytes after the heads in the steps of chains.
use Rattle.std.proofs.Common.{◌≡◌, ℕ, ◌+◌, ◌-◌, ◌%◌, ◌≤◌, ◌++◌, ◌∷◌, Bool, true, false, length, take, drop, List, refl, arith, ap, sym, ◌∙◌, slice_index, if◌then◌else◌}
use Rattle.std.proofs.Math.Seq.{get_or-append_right, take-append-add}
use Rattle.std.proofs.lemmas.List.{append_assoc, drop-drop, drop_at}
use Rattle.std.specs.Int.{w16, w32, to_be_bytes}
use Rattle.bar_lms.specs.Chains.{place}

-- the bytes that the first step of a chain hashes
pub starts_so : (ident : List ℕ) (q i number : ℕ) (value tail given : List ℕ) → tail ≡ to_be_bytes w16 i ++ number ∷ given → given ≡ value
    → (ident ++ to_be_bytes w32 q) ++ tail ≡ place ident q i ++ number ∷ value
unfolding place
starts_so ident q i number value tail given is same =
    rw (is, same) (sym (append_assoc (ident ++ to_be_bytes w32 q) (to_be_bytes w16 i) (number ∷ value)))

-- a choice of two after a head
pub behind_if : (b : Bool) (head s t : List ℕ) → head ++ (if b then s else t) ≡ (if b then head ++ s else head ++ t)
behind_if true head s t = refl
behind_if false head s t = refl

-- the next step
pub behind_goes : (b : Bool) (head t hash : List ℕ) → length head ≡ 20
    → head ++ (if b then take 2 t ++ (slice_index t 2 + 1) % 256 ∷ hash else t)
    ≡ (if b then take 22 (head ++ t) ++ (slice_index (head ++ t) 22 + 1) % 256 ∷ hash else head ++ t)
behind_goes false head t hash long = refl
behind_goes true head t hash long =
    let two : length head + 2 ≡ 22 = omega (arith, long) in
    let front : take 22 (head ++ t) ≡ head ++ take 2 t = rw two at (take-append-add head t 2) in
    let place : 22 - length head ≡ 2 = omega (arith, long) in
    let byte : slice_index (head ++ t) 22 ≡ slice_index t 2 =
    get_or-append_right head t 22 0 (omega (arith, long)) ∙ ap (λ k. slice_index t k) place
    in
    rw (front, byte) (sym (append_assoc head (take 2 t) ((slice_index t 2 + 1) % 256 ∷ hash)))

-- the value
pub behind_value : (head t : List ℕ) → length head ≡ 20 → drop 3 t ≡ drop 23 (head ++ t)
behind_value head t long = sym (ap (drop 3) (drop_at head t 20 long)) ∙ drop-drop 3 20 (head ++ t)

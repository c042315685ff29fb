-- Putting bytes into a room, piece by piece.
use Rattle.std.proofs.Common.{◌≡◌, ◌∙◌, ℕ, ◌+◌, ◌≤◌, ◌==◌, ◌++◌, Bool, true, false, List, [], ◌∷◌, length, Option, Some, None, refl, sym, ap, subst, arith, append_assoc, length-append}
use Rattle.std.specs.Prelude.{option_map, IfSome, if◌then◌else◌}
use Rattle.std.proofs.lemmas.List.{append-nil}
use Rattle.std.proofs.lemmas.Bool.{eq-eqb}
use Rattle.bar_bytes.specs.Bytes.{u16_bytes}
use Rattle.std.specs.Borrow.{Bor}
use Rattle.bar_wire.specs.Evidence.{evidence_bytes, other}
use Rattle.bar_wire.specs.Grammar.{entry, AreDatagramsInRange}
use Rattle.bar_wire.proofs.Lists.{entry_length}

-- one room has this content, and the others are unchanged
abbrev pub IsPut : (ℕ → Option (List ℕ)) → (ℕ → Option (List ℕ)) → ℕ → Option (List ℕ) → Type 0
IsPut old new number now = (n : ℕ) → new n ≡ (if n == number then now else old n)

pub put_there : (old new : ℕ → Option (List ℕ)) (number : ℕ) (now : Option (List ℕ)) → IsPut old new number now → new number ≡ now
put_there old new number now put =
    put number ∙ ap (λ (b : Bool). if b then now else old number) (eq-eqb number number refl)

last_stays : (b : Bool) (first second before : Option (List ℕ)) → (if b then second else if b then first else before) ≡ (if b then second else before)
last_stays true first second before = refl
last_stays false first second before = refl

-- if two contents are put into one room, the second one remains
pub put_again : (old mid new : ℕ → Option (List ℕ)) (number : ℕ) (first second : Option (List ℕ)) → IsPut old mid number first → IsPut mid new number second
    → IsPut old new number second
put_again old mid new number first second one two n =
    two n ∙ ap (λ (o : Option (List ℕ)). if n == number then second else o) (one n) ∙ last_stays (n == number) first second (old n)

pub put_behind : (old mid new : ℕ → Option (List ℕ)) (number : ℕ) (held more : List ℕ) → IsPut old mid number (Some held)
    → IsPut mid new number (option_map (λ kept. kept ++ more) (mid number)) → IsPut old new number (Some (held ++ more))
put_behind old mid new number held more one two n =
    put_again old mid new number _ _ one two n
    ∙ ap (λ (o : Option (List ℕ)). if n == number then option_map (λ kept. kept ++ more) o else old n) (put_there old mid number _ one)

added_twice : (o : Option (List ℕ)) (x y : List ℕ) → option_map (λ held. held ++ y) (option_map (λ held. held ++ x) o) ≡ option_map (λ held. held ++ (x ++ y)) o
added_twice None x y = refl
added_twice (Some held) x y = ap Some (append_assoc held x y)

-- a length and a datagram are appended to what a room keeps
pub entry_put : (old mid new : ℕ → Option (List ℕ)) (number : ℕ) (len datagram : List ℕ) → len ≡ u16_bytes (length datagram)
    → IsPut old mid number (option_map (λ held. held ++ len) (old number)) → IsPut mid new number (option_map (λ held. held ++ datagram) (mid number))
    → IsPut old new number (option_map (λ held. held ++ entry datagram) (old number))
entry_put old mid new number len datagram is one two n =
    put_again old mid new number _ _ one two n
    ∙ ap (λ (o : Option (List ℕ)). if n == number then option_map (λ held. held ++ datagram) o else old n) (put_there old mid number _ one)
    ∙ ap (λ (o : Option (List ℕ)). if n == number then o else old n) (added_twice (old number) len datagram)
    ∙ ap (λ (x : List ℕ). if n == number then option_map (λ held. held ++ (x ++ datagram)) (old number) else old n) is

-- there is room after what is kept
pub leaves_room : (o : Option (List ℕ)) (held : List ℕ) (n size : ℕ) → o ≡ Some held → length held + n ≤ size
    → IfSome o (λ kept. length kept + n ≤ size)
leaves_room o held n size is fits = subst (λ (o : Option (List ℕ)). IfSome o (λ kept. length kept + n ≤ size)) (sym is) fits

-- ---- evidence as its pieces

pub one_spelled : (one : List ℕ) → (1 ∷ []) ++ entry one ≡ evidence_bytes (one ∷ [])
one_spelled one = ap (λ (x : List ℕ). 1 ∷ x) (sym (append-nil (entry one ++ []) ∙ append-nil (entry one)))

pub two_spelled : (one two : List ℕ) → ((2 ∷ []) ++ entry one) ++ entry two ≡ evidence_bytes (one ∷ two ∷ [])
two_spelled one two =
    ap (λ (x : List ℕ). 2 ∷ x)
    (sym (append-nil (entry one ++ (entry two ++ [])) ∙ ap (λ (x : List ℕ). entry one ++ x) (append-nil (entry two))))

pub one_long : (one : List ℕ) → length (evidence_bytes (one ∷ [])) ≡ 3 + length one
one_long one = sym (ap length (one_spelled one)) ∙ omega (arith, entry_length one)

pub two_long : (one two : List ℕ) → length (evidence_bytes (one ∷ two ∷ [])) ≡ 5 + length one + length two
two_long one two =
    sym (ap length (two_spelled one two))
    ∙ omega (arith, entry_length one, entry_length two, length-append ((2 ∷ []) ++ entry one) (entry two))

-- ---- one or two datagrams

-- the evidence is put into the room, if it fits
abbrev pub KeepsWhatFits : (ℕ → Option (List ℕ)) → (ℕ → Option (List ℕ)) → ℕ → ℕ → List (List ℕ) → Type 0
KeepsWhatFits old new number size evidence =
    AreDatagramsInRange evidence → length (evidence_bytes evidence) ≤ size → IsPut old new number (Some (evidence_bytes evidence))

pub keeps_one : (old new : ℕ → Option (List ℕ)) (number size : ℕ) (one : List ℕ) (o : Option (Bor (List ℕ))) → o ≡ None
    → (length one ≤ 65535 → 3 + length one ≤ size → IsPut old new number (Some (evidence_bytes (one ∷ []))))
    → KeepsWhatFits old new number size (one ∷ other o)
keeps_one old new number size one o is keeps =
    subst (λ (o : Option (Bor (List ℕ))). KeepsWhatFits old new number size (one ∷ other o)) (sym is)
    (λ range fits. keeps (omega (arith, range.2.0.1)) (omega (arith, fits, one_long one)))

pub keeps_two : (old new : ℕ → Option (List ℕ)) (number size : ℕ) (one : List ℕ) (two : Bor (List ℕ)) (o : Option (Bor (List ℕ))) → o ≡ Some two
    → (length one ≤ 65535 → length two.now ≤ 65535 → 5 + length one + length two.now ≤ size
    → IsPut old new number (Some (evidence_bytes (one ∷ two.now ∷ []))))
    → KeepsWhatFits old new number size (one ∷ other o)
keeps_two old new number size one two o is keeps =
    subst (λ (o : Option (Bor (List ℕ))). KeepsWhatFits old new number size (one ∷ other o)) (sym is)
    (λ range fits. keeps (omega (arith, range.2.0.1)) (omega (arith, range.2.1.0.1)) (omega (arith, fits, two_long one two.now)))

pub long_with_one : (one : List ℕ) (o : Option (Bor (List ℕ))) → o ≡ None → length (evidence_bytes (one ∷ other o)) ≡ 3 + length one
long_with_one one o is = ap (λ (o : Option (Bor (List ℕ))). length (evidence_bytes (one ∷ other o))) is ∙ one_long one

pub long_with_two : (one : List ℕ) (two : Bor (List ℕ)) (o : Option (Bor (List ℕ))) → o ≡ Some two
    → length (evidence_bytes (one ∷ other o)) ≡ 5 + length one + length two.now
long_with_two one two o is = ap (λ (o : Option (Bor (List ℕ))). length (evidence_bytes (one ∷ other o))) is ∙ two_long one two.now

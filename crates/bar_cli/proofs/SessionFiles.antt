-- The names of a session's files differ.
use Rattle.std.proofs.Common.{◌≡◌, ◌≢◌, ◌⊎◌, ◌≤◌, ◌<◌, ◌+◌, ◌/◌, ◌%◌, ◌==◌, ◌∙◌, ◌∷◌, ◌++◌, [], ℕ, zero, suc, Bool, true, false, List, codes, get_or, nat_lt, if◌then◌else◌, append_assoc, refl, sym, ap, subst, inl, inr, arith}
use Rattle.std.proofs.lemmas.Bool.Decides.{nat_tests}
use Rattle.std.proofs.lemmas.List.{append_cancel_left}
use Rattle.std.specs.Fmt.{decimal, digit_glyph, digits, digits_onto}
use Rattle.bar_node.specs.Stops.{IsApart, IsFront}
use Rattle.bar_cli.specs.SessionFiles.{AreUnlike, PeersHaveOwnNames}

-- ---- texts neither of which is a prefix of the other

one-front : (a b x y : List ℕ) → a ++ x ≡ b ++ y → IsFront a b ⊎ IsFront b a
one-front [] b x y e = inl (record { rest = b; is = refl })
one-front (c ∷ a) [] x y e = inr (record { rest = c ∷ a; is = refl })
one-front (c ∷ a) (d ∷ b) x y e =
    let head : c ≡ d = cc in
    let tail : a ++ x ≡ b ++ y = cc in
    elim (one-front a b x y tail) [
      | inl f ↦ inl (record { rest = f.rest; is = ap (λ v. v ∷ b) (sym head) ∙ ap (λ v. c ∷ v) f.is })
      | inr f ↦ inr (record { rest = f.rest; is = ap (λ v. v ∷ a) head ∙ ap (λ v. d ∷ v) f.is })
    ]

unlike : (a b x y z : List ℕ) → AreUnlike a b → a ++ x ≡ (b ++ y) ++ z → ⊥
unlike a b x y z differ e = elim (one-front a b x (y ++ z) (e ∙ append_assoc b y z)) [ inl f ↦ differ.first f | inr f ↦ differ.second f ]

-- ---- a number begins with a digit

to-below : (a b : ℕ) → a < b → nat_lt a b ≡ true
to-below a b h = grind (arith, nat_tests)

glyph-small : (d : ℕ) → d < 10 → digit_glyph false d ≤ 57
glyph-small d h = subst (λ (b : Bool). (if b then 48 + d else 87 + d) ≤ 57) (sym (to-below d 10 h)) (omega (arith, h))

rest-small : (n : ℕ) → n % 10 < 10
rest-small n = omega arith

onto-first : (fuel n : ℕ) (acc : List ℕ) → get_or acc 0 0 ≤ 57 → get_or (digits_onto fuel 10 false n acc) 0 0 ≤ 57
onto-first zero n acc h = h
onto-first (suc k) n acc h =
    let digit = digit_glyph false (n % 10) in
    let small = glyph-small (n % 10) (rest-small n) in
    by-test (n / 10 == 0) small (onto-first k (n / 10) (digit ∷ acc) small)
  where
    by-test : (b : Bool) → digit_glyph false (n % 10) ≤ 57 →
        get_or (digits_onto k 10 false (n / 10) (digit_glyph false (n % 10) ∷ acc)) 0 0 ≤ 57 →
        get_or
        (if b then digit_glyph false (n % 10) ∷ acc else digits_onto k 10 false (n / 10) (digit_glyph false (n % 10) ∷ acc))
        0 0 ≤ 57
    by-test true small more = small
    by-test false small more = more

decimal-first : (n : ℕ) → get_or (decimal n) 0 0 ≤ 57
unfolding digits
decimal-first n = onto-first 64 n [] (omega arith)

no-number : (word : List ℕ) (n : ℕ) → 58 ≤ get_or word 0 0 → word ≡ decimal n → ⊥
no-number word n high e =
    let low : get_or word 0 0 ≤ 57 = subst (λ (w : List ℕ). get_or w 0 0 ≤ 57) (sym e) (decimal-first n) in
    omega (arith, high, low)

-- ---- a peer's files

-- a result file that isn't one of the files of what was found
apart : (found word : List ℕ) → 58 ≤ get_or word 0 0 → word ≢ codes "table" → IsApart (found ++ (codes "." ++ word)) found
apart found word high differs = record {
  table = λ e. differs (append_cancel_left (codes ".") word (codes "table") (append_cancel_left found (codes "." ++ word) (codes ".table") e));
  evidence = λ party e. no-number word party high
      (append_cancel_left (codes ".") word (decimal party) (append_cancel_left found (codes "." ++ word) (codes "." ++ decimal party) e));
}

letter : (k : ℕ) (one other : List ℕ) → (get_or one k 0 ≡ get_or other k 0 → ⊥) → one ≡ other → ⊥
letter k one other differs e = differs (ap (λ (word : List ℕ). get_or word k 0) e)

pub own-names : PeersHaveOwnNames
own-names names begin_ms peer differ =
    let number : List ℕ = codes "." ++ decimal peer in
    let found : List ℕ = names.results ++ number in
    record {
      apart = record {
        differ = λ e. letter 1 (codes ".played") (codes ".recording") (λ h. omega (arith, h))
            (append_cancel_left found (codes ".played") (codes ".recording") e);
        played_apart = apart found (codes "played") (omega arith) (letter 0 (codes "played") (codes "table") (λ h. omega (arith, h)));
        recording_apart =
            apart found (codes "recording") (omega arith) (letter 0 (codes "recording") (codes "table") (λ h. omega (arith, h)));
      };
      not_played = unlike names.keys names.results number number (codes ".played") differ;
      not_recording = unlike names.keys names.results number number (codes ".recording") differ;
      not_found = record {
        table = unlike names.keys names.results number number (codes ".table") differ;
        evidence = λ party. unlike names.keys names.results number number (codes "." ++ decimal party) differ;
      };
    }

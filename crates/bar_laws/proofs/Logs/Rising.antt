-- The updates of successive rounds, in order.
use Rattle.bar_window.specs.Updates.{is_before, is_rising, is_inside, updates_of}
use Rattle.bar_window.specs.declared.update.UpdateId.{UpdateId}
use Rattle.std.proofs.Common.{◌≡◌, ℕ, zero, suc, ◌+◌, ◌*◌, ◌<◌, Bool, true, List, [], ◌∷◌, ◌++◌, take, refl, sym, ap, ◌∙◌, subst, arith}
use Rattle.std.specs.Prelude.{flat_map, map}
use Rattle.std.specs.List.{list_all, range_with_len}
use Rattle.std.proofs.lemmas.Bool.{and_parts, and_from, or_left, or_right, lt-ltb}
use Rattle.std.proofs.lemmas.List.{append_assoc}
use Rattle.std.proofs.lemmas.List.Folds.{list_any-append, list_all-append}
use Rattle.bar_laws.proofs.Logs.Valid.{all-take, inside_refl}
use Rattle.bar_bytes.proofs.Tests.{eqb_refl}

-- ---- rising lists

pub rising-take : (k : ℕ) (us : List UpdateId) → is_rising us ≡ true → is_rising (take k us) ≡ true
rising-take zero us e = refl
rising-take (suc k) [] e = refl
rising-take (suc k) (u ∷ us) e = let p = and_parts _ _ e in and_from _ _ (all-take (is_before u) k us p.0) (rising-take k us p.1)

rising-append : (us vs : List UpdateId) → is_rising us ≡ true → is_rising vs ≡ true → list_all (λ u. list_all (is_before u) vs) us ≡ true → is_rising (us ++ vs) ≡ true
rising-append [] vs e f g = f
rising-append (u ∷ us) vs e f g =
    let p = and_parts _ _ e in
    let q = and_parts _ _ g in
    and_from _ _ (list_all-append (is_before u) us vs ∙ and_from _ _ p.0 q.0) (rising-append us vs p.1 f q.1)

-- ---- one round

-- the updates of a round from an index on
row_of : ℕ → List ℕ → List UpdateId
row_of round is = map (λ i. record { round = round; index = i }) is

row-later : (round i c k : ℕ) → i < c → list_all (is_before (record { round = round; index = i })) (row_of round (range_with_len c k)) ≡ true
unfolding row_of
row-later round i c zero h = refl
row-later round i c (suc k) h = and_from _ _ (or_right _ _ (and_from _ _ (eqb_refl round) (lt-ltb i c h))) (row-later round i (c + 1) k (omega (arith, h)))

row-rises : (round c k : ℕ) → is_rising (row_of round (range_with_len c k)) ≡ true
unfolding row_of
row-rises round c zero = refl
row-rises round c (suc k) = and_from _ _ (row-later round c (c + 1) k (omega arith)) (row-rises round (c + 1) k)

-- a test of the round alone
row-all : (p : UpdateId → Bool) (round : ℕ) (is : List ℕ) → ((i : ℕ) → p (record { round = round; index = i }) ≡ true) → list_all p (row_of round is) ≡ true
unfolding row_of
row-all p round [] h = refl
row-all p round (i ∷ is) h = and_from _ _ (h i) (row-all p round is h)

-- ---- successive rounds

-- the updates of so many rounds, from this one on
unfoldable pub run_of : ℕ → ℕ → ℕ → List UpdateId
run_of words a n = flat_map (updates_of words) (range_with_len a n)

run-later : (words : ℕ) (u : UpdateId) (a n : ℕ) → u.round < a → list_all (is_before u) (run_of words a n) ≡ true
unfolding run_of row_of
run-later words u a zero h = refl
run-later words u a (suc n) h =
    list_all-append (is_before u) (updates_of words a) (run_of words (a + 1) n)
    ∙ and_from _ _ (row-all (is_before u) a (range_with_len 0 (64 * words)) (λ i. or_left _ _ (lt-ltb u.round a h))) (run-later words u (a + 1) n (omega (arith, h)))

pub run-rises : (words a n : ℕ) → is_rising (run_of words a n) ≡ true
unfolding run_of row_of
run-rises words a zero = refl
run-rises words a (suc n) =
    rising-append (updates_of words a) (run_of words (a + 1) n) (row-rises a 0 (64 * words)) (run-rises words (a + 1) n)
    (row-all (λ u. list_all (is_before u) (run_of words (a + 1) n)) a (range_with_len 0 (64 * words)) (λ i. run-later words (record { round = a; index = i }) (a + 1) n (omega arith)))

run-join : (words a n k : ℕ) → run_of words a (n + k) ≡ run_of words a n ++ run_of words (a + n) k
unfolding run_of
run-join words a zero k = let e : a + 0 ≡ a = omega arith in let f : 0 + k ≡ k = omega arith in rw (e, f) refl
run-join words a (suc n) k =
    let e : (a + 1) + n ≡ a + suc n = omega arith in
    let more : suc n + k ≡ suc (n + k) = omega arith in
    ap (run_of words a) more
    ∙ ap (λ us. updates_of words a ++ us) (run-join words (a + 1) n k ∙ rw e refl)
    ∙ sym (append_assoc (updates_of words a) (run_of words (a + 1) n) (run_of words (a + suc n) k))

-- ---- ranges within ranges

inside-left : (us vs ws : List UpdateId) → is_inside us vs ≡ true → is_inside us (vs ++ ws) ≡ true
inside-left [] vs ws e = refl
inside-left (u ∷ us) vs ws e = let p = and_parts _ _ e in and_from _ _ (list_any-append _ vs ws ∙ or_left _ _ p.0) (inside-left us vs ws p.1)

inside-right : (us vs ws : List UpdateId) → is_inside us ws ≡ true → is_inside us (vs ++ ws) ≡ true
inside-right [] vs ws e = refl
inside-right (u ∷ us) vs ws e = let p = and_parts _ _ e in and_from _ _ (list_any-append _ vs ws ∙ or_right _ _ p.0) (inside-right us vs ws p.1)

pub run-inside : (words a n before after : ℕ) → is_inside (run_of words (a + before) n) (run_of words a (before + (n + after))) ≡ true
run-inside words a n before after =
    let whole : run_of words a (before + (n + after)) ≡ run_of words a before ++ (run_of words (a + before) n ++ run_of words ((a + before) + n) after) =
    run-join words a before (n + after) ∙ ap (λ us. run_of words a before ++ us) (run-join words (a + before) n after) in
    subst (λ us. is_inside (run_of words (a + before) n) us ≡ true) (sym whole)
    (inside-right (run_of words (a + before) n) (run_of words a before) (run_of words (a + before) n ++ run_of words ((a + before) + n) after)
    (inside-left (run_of words (a + before) n) (run_of words (a + before) n) (run_of words ((a + before) + n) after) (inside_refl (run_of words (a + before) n))))

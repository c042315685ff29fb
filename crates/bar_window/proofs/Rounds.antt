-- The updates of consecutive rounds, by their places.
use Rattle.std.proofs.Common.{◌≡◌, ℕ, zero, suc, ◌+◌, ◌-◌, ◌*◌, ◌/◌, ◌%◌, ◌<◌, ◌≤◌, Bool, true, false, cond, List, [], ◌∷◌, ◌++◌, map, refl, sym, ap, ◌∙◌, inl, inr, ◌⊎◌, arith}
use Rattle.std.specs.List.{filter, flat_map, list_all, range_with_len}
use Rattle.std.proofs.Math.Nat.{suc-mul, mul_comm}
use Rattle.std.proofs.lemmas.Nat.{div-mul-add, mod-mul-add, mul-add-lt, div-add-mod', mod_below}
use Rattle.std.proofs.lemmas.Bool.{cases_lt}
use Rattle.std.proofs.lemmas.List.{append-nil, map-append}
use Rattle.std.proofs.lemmas.List.FromFn.{map-range_with_len_more}
use Rattle.std.proofs.lemmas.Grind.{flat_map-append}
use Rattle.bar_window.specs.Places.{update_at}
use Rattle.bar_window.specs.Updates.{updates_of, window_of, first_round, is_before, is_rising}
use Rattle.bar_window.proofs.Ranges.{range_more}
use Rattle.bar_window.proofs.Sets.{before_from}

-- ---- in order

later_place : (m a k : ℕ) → 0 < m → a < k → (a / m < k / m) ⊎ ((a / m ≡ k / m) × (a % m < k % m))
later_place m a k some lt =
    elim (cases_lt (a / m) (k / m)) [
      | inl row ↦ inl row
      | inr le ↦ elim (cases_lt (k / m) (a / m)) [
        | inl row ↦ absurd (omega (arith, mul-add-lt (k / m) m (k % m) (a / m) row (mod_below k m some), div-add-mod' k m, div-add-mod' a m, lt))
        | inr ge ↦
            let row : a / m ≡ k / m = omega (arith, le, ge) in
            let same : (a / m) * m ≡ (k / m) * m = ap (λ n. n * m) row in
            inr (row, omega (arith, same, div-add-mod' k m, div-add-mod' a m, lt))
      ]
    ]

pub place_before : (base m a k : ℕ) → 0 < m → a < k → is_before (update_at base m a) (update_at base m k) ≡ true
place_before base m a k some lt = before_from (update_at base m a) (update_at base m k) (elim (later_place m a k some lt) [
  | inl row ↦ inl (omega (arith, row))
  | inr h ↦ inr (ap (λ n. base + n) h.0, h.1)
])

all_later : (base m a : ℕ) (p : ℕ → Bool) (b n : ℕ) → 0 < m → a < b → list_all (is_before (update_at base m a)) (map (update_at base m) (filter p (range_with_len b n))) ≡ true
all_later base m a p b zero some lt = refl
all_later base m a p b (suc n) some lt =
    let rest : list_all (is_before (update_at base m a)) (map (update_at base m) (filter p (range_with_len (b + 1) n))) ≡ true = all_later base m a p (b + 1) n some (omega (arith, lt)) in
    elim (p b) as (λ t. list_all (is_before (update_at base m a)) (map (update_at base m) (cond t (b ∷ filter p (range_with_len (b + 1) n)) (filter p (range_with_len (b + 1) n)))) ≡ true) [
      | true ↦ rw (place_before base m a b some lt, rest) refl
      | false ↦ rest
    ]

-- the updates at increasing places are in increasing order
pub rising_places : (base m : ℕ) (p : ℕ → Bool) (a n : ℕ) → 0 < m → is_rising (map (update_at base m) (filter p (range_with_len a n))) ≡ true
rising_places base m p a zero some = refl
rising_places base m p a (suc n) some =
    let rest : is_rising (map (update_at base m) (filter p (range_with_len (a + 1) n))) ≡ true = rising_places base m p (a + 1) n some in
    elim (p a) as (λ t. is_rising (map (update_at base m) (cond t (a ∷ filter p (range_with_len (a + 1) n)) (filter p (range_with_len (a + 1) n)))) ≡ true) [
      | true ↦ rw (all_later base m a p (a + 1) n some (omega arith), rest) refl
      | false ↦ rest
    ]

-- ---- round after round

pub range_join : (a n k : ℕ) → range_with_len a (n + k) ≡ range_with_len a n ++ range_with_len (a + n) k
range_join a zero k = let e : a + 0 ≡ a = omega arith in let f : 0 + k ≡ k = omega arith in rw (e, f) refl
range_join a (suc n) k =
    let e : (a + 1) + n ≡ a + suc n = omega arith in
    let more : suc n + k ≡ suc (n + k) = omega arith in
    ap (range_with_len a) more ∙ ap (λ (xs : List ℕ). a ∷ xs) (range_join (a + 1) n k ∙ rw e refl)

one_round : (base m n k : ℕ) → k ≤ m → map (update_at base m) (range_with_len (n * m) k) ≡ map (λ i. record { round = base + n; index = i }) (range_with_len 0 k)
one_round base m n zero le = refl
one_round base m n (suc k) le =
    let e : suc k ≡ k + 1 = omega arith in
    let row : (n * m + k) / m ≡ n = div-mul-add n m k (omega (arith, le)) in
    let column : (n * m + k) % m ≡ k = mod-mul-add n m k (omega (arith, le)) in
    let here : update_at base m (n * m + k) ≡ record { round = base + n; index = k } = λ t. record { round = base + row t; index = column t } in
    ap (λ c. map (update_at base m) (range_with_len (n * m) c)) e
    ∙ map-range_with_len_more (update_at base m) (n * m) k (n * m + k) refl
    ∙ (λ t. one_round base m n k (omega (arith, le)) t ++ here t ∷ [])
    ∙ sym (map-range_with_len_more (λ i. record { round = base + n; index = i }) 0 k k (omega arith))
    ∙ ap (λ c. map (λ i. record { round = base + n; index = i }) (range_with_len 0 c)) (sym e)

pub rounds_at : (words base n : ℕ) → flat_map (updates_of words) (range_with_len base n) ≡ map (update_at base (64 * words)) (range_with_len 0 (n * (64 * words)))
rounds_at words base zero = let none : 0 * (64 * words) ≡ 0 = omega arith in rw none refl
rounds_at words base (suc n) =
    let m = 64 * words in
    let e : suc n ≡ n + 1 = omega arith in
    let from_none : 0 + n * m ≡ n * m = omega arith in
    let left : flat_map (updates_of words) (range_with_len base (n + 1)) ≡ flat_map (updates_of words) (range_with_len base n) ++ (updates_of words (base + n) ++ []) = ap (flat_map (updates_of words)) (range_more base n) ∙ flat_map-append (updates_of words) (range_with_len base n) ((base + n) ∷ []) in
    let right : map (update_at base m) (range_with_len 0 (n * m + m)) ≡ map (update_at base m) (range_with_len 0 (n * m)) ++ map (update_at base m) (range_with_len (n * m) m) = ap (map (update_at base m)) (range_join 0 (n * m) m ∙ ap (λ c. range_with_len 0 (n * m) ++ range_with_len c m) from_none) ∙ map-append (update_at base m) (range_with_len 0 (n * m)) (range_with_len (n * m) m) in
    ap (λ c. flat_map (updates_of words) (range_with_len base c)) e
    ∙ left
    ∙ (λ t. rounds_at words base n t ++ (append-nil (updates_of words (base + n)) ∙ sym (one_round base m n m (omega arith))) t)
    ∙ sym right
    ∙ ap (λ c. map (update_at base m) (range_with_len 0 c)) (sym (suc-mul n m))

-- the updates of the window of a round, by their places
pub window_places : (words life round used : ℕ) → first_round life round + used ≡ round + 1 → window_of words life round ≡ map (update_at (first_round life round) (64 * words)) (range_with_len 0 (64 * words * used))
window_places words life round used h =
    let e : (round + 1) - first_round life round ≡ used = omega (arith, h) in
    ap (λ n. flat_map (updates_of words) (range_with_len (first_round life round) n)) e
    ∙ rounds_at words (first_round life round) used
    ∙ ap (λ n. map (update_at (first_round life round) (64 * words)) (range_with_len 0 n)) (mul_comm used (64 * words))

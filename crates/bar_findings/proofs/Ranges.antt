-- The partial progress of a loop over a range of numbers.
use Rattle.std.proofs.Common.{◌≡◌, ℕ, ◌+◌, ◌-◌, ◌<◌, List, ◌++◌, ap, ◌∙◌, append-nil, arith}
use Rattle.std.proofs.lemmas.Grind.{flat_map-append}
use Rattle.std.specs.List.{flat_map, range_with_len}
use Rattle.bar_window.proofs.Rounds.{range_join}

-- one more number
pub one-more : {A : Type 0} (f : ℕ → List A) (k : ℕ) →
    flat_map f (range_with_len 1 (k + 1)) ≡ flat_map f (range_with_len 1 k) ++ f (k + 1)
one-more f k =
    let e : 1 + k ≡ k + 1 = omega arith in
    ap (flat_map f) (range_join 1 k 1)
    ∙ flat_map-append f (range_with_len 1 k) (range_with_len (1 + k) 1)
    ∙ ap (λ xs. flat_map f (range_with_len 1 k) ++ xs) (append-nil (f (1 + k)) ∙ ap f e)

-- the numbers so far, the next one, and the rest
pub split-at : {A : Type 0} (f : ℕ → List A) (k n : ℕ) → k < n →
    flat_map f (range_with_len 1 n) ≡ (flat_map f (range_with_len 1 k) ++ f (k + 1)) ++ flat_map f (range_with_len (1 + (k + 1)) (n - (k + 1)))
split-at f k n h =
    let all : n ≡ (k + 1) + (n - (k + 1)) = omega arith in
    ap (λ m. flat_map f (range_with_len 1 m)) all
    ∙ ap (flat_map f) (range_join 1 (k + 1) (n - (k + 1)))
    ∙ flat_map-append f (range_with_len 1 (k + 1)) (range_with_len (1 + (k + 1)) (n - (k + 1)))
    ∙ ap (λ xs. xs ++ flat_map f (range_with_len (1 + (k + 1)) (n - (k + 1)))) (one-more f k)

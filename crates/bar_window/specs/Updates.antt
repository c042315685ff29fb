-- Sets of updates, as lists in strictly increasing order: by round, then by index.
use Rattle.std.specs.Prelude.{ℕ, ◌+◌, ◌-◌, ◌*◌, ◌==◌, ◌&&◌, ◌||◌, max, not, Bool, true, false, List, [], ◌∷◌, filter, flat_map, map, nat_le, nat_lt, IsTrue, Contains}
use Rattle.std.specs.List.{list_any, list_all, range_with_len}
use Rattle.bar_window.specs.declared.update.UpdateId.{UpdateId}

abbrev pub same_update : UpdateId → UpdateId → Bool
same_update u v = (u.round == v.round) && (u.index == v.index)

-- whether one update precedes another
abbrev pub is_before : UpdateId → UpdateId → Bool
is_before u v = nat_lt u.round v.round || ((u.round == v.round) && nat_lt u.index v.index)

-- whether each update precedes all that follow it
abbrev pub is_rising : List UpdateId → Bool
is_rising [] = true
is_rising (u ∷ us) = list_all (is_before u) us && is_rising us

abbrev pub has_update : List UpdateId → UpdateId → Bool
has_update us u = list_any (same_update u) us

-- the updates of a round that a window may name, if it has `words` words of 64 flags for each round
abbrev pub updates_of : ℕ → ℕ → List UpdateId
updates_of words round = map (λ i. record { round = round; index = i }) (range_with_len 0 (64 * words))

-- the updates that it may name from one round to another
abbrev pub updates_from : ℕ → ℕ → ℕ → List UpdateId
updates_from words first last = flat_map (updates_of words) (range_with_len first ((last + 1) - first))

-- the first round whose updates are alive in a round, if updates live for `life` rounds
abbrev pub first_round : ℕ → ℕ → ℕ
first_round life round = max 1 ((round + 1) - life)

-- the updates that the window of a round may name
abbrev pub window_of : ℕ → ℕ → ℕ → List UpdateId
window_of words life round = updates_from words (first_round life round) round

-- the updates of the first set that the second lacks
abbrev pub minus : List UpdateId → List UpdateId → List UpdateId
minus us vs = filter (λ u. not (has_update vs u)) us

-- the updates of the first set that the second has too
abbrev pub both : List UpdateId → List UpdateId → List UpdateId
both us vs = filter (has_update vs) us

abbrev pub is_inside : List UpdateId → List UpdateId → Bool
is_inside us vs = list_all (has_update vs) us

-- whether each update is of one of these rounds
abbrev pub is_of_rounds : ℕ → ℕ → List UpdateId → Bool
is_of_rounds first last us = list_all (λ u. nat_le first u.round && nat_le u.round last) us

abbrev pub same_updates : List UpdateId → List UpdateId → Bool
same_updates [] [] = true
same_updates (u ∷ us) (v ∷ vs) = same_update u v && same_updates us vs
same_updates [] (v ∷ vs) = false
same_updates (u ∷ us) [] = false

-- whether a list is a set of updates of the window of a round
abbrev pub is_set_of : ℕ → ℕ → ℕ → List UpdateId → Bool
is_set_of words life round us = is_inside us (window_of words life round) && is_rising us

-- The list is a set of updates of the window of a round.
pub record IsSetOf (words life round : ℕ) (us : List UpdateId) : Type 0 where
  pub inside : (u : UpdateId) → Contains us u → Contains (window_of words life round) u
  pub rises : IsTrue (is_rising us)

-- The contents that are played, from a store.
use Rattle.std.specs.Prelude.{◌≡◌, ℕ, List, [], ◌∷◌, Option, Some, None}
use Rattle.std.specs.List.{flat_map, range_with_len}
use Rattle.std.specs.Option.{option_to_list}
use Rattle.bar_rules.specs.Peer.Ticks.{content_of}
use Rattle.bar_store.specs.declared.store.Store.{Store}
use Rattle.bar_store.specs.Code.Held.{block_in}

-- the content of an update, if it is held
abbrev pub content_in : Store → ℕ → ℕ → List (List ℕ)
content_in s round index = flat_map content_of (option_to_list (block_in s (record { round = round; index = index })))

-- the contents of `per_round` updates of a round, in order
abbrev pub contents_in : Store → ℕ → ℕ → List (List ℕ)
contents_in s round per_round = flat_map (content_in s round) (range_with_len 0 per_round)

-- the first content that is left is given out, and the others are left; if none is left, none is given out
abbrev pub PlaysFirst : Option (List ℕ) → List (List ℕ) → List (List ℕ) → Type 0
PlaysFirst None old new = (old ≡ []) × (new ≡ [])
PlaysFirst (Some content) old new = old ≡ content ∷ new

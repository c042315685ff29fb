-- What a contract sees of a table of the code: its lists, and how many rounds and digests a round it has room for.
use Rattle.std.specs.Prelude.{◌≡◌, ℕ, ◌*◌, ◌≤◌, ◌<◌, List, length, take, drop, Option, Some, None, slice_index_or}
use Rattle.std.specs.List.{range_with_len, filter_map}
use Rattle.bar_terms.specs.Table.{Lists}

pub record TableWithRoom : Type 0 where
  pub lists : Lists
  pub rounds : ℕ
  pub per_round : ℕ

-- the list from an index on, if it has a count
abbrev pub list_from : Option ℕ → List (List ℕ) → ℕ → Option (List (List ℕ))
list_from None digests start = None
list_from (Some count) digests start = Some (take count (drop start digests))

-- the list of a round, if each round has room for `per_round` digests, from round 0 on
abbrev pub round_list : List (Option ℕ) → List (List ℕ) → ℕ → ℕ → Option (List (List ℕ))
round_list counts digests per_round round = list_from (slice_index_or counts round None) digests (round * per_round)

abbrev pub named_list : ℕ → Option (List (List ℕ)) → Option (ℕ × List (List ℕ))
named_list round None = None
named_list round (Some list) = Some (round, list)

-- the lists of all rounds, in order
abbrev pub lists_of : List (Option ℕ) → List (List ℕ) → ℕ → Lists
lists_of counts digests per_round =
    filter_map (λ round. named_list round (round_list counts digests per_round round)) (range_with_len 0 (length counts))

-- There is a round 0 and room for the digests of each round, and no list is longer than its room.
pub record HasDigestRooms (counts : List (Option ℕ)) (digests : List (List ℕ)) (per_round : ℕ) : Type 0 where
  pub some : 0 < length counts
  pub room : length digests ≡ length counts * per_round
  pub short : (round count : ℕ) → slice_index_or counts round None ≡ Some count → count ≤ per_round

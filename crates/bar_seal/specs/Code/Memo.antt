-- The memo of checked datagrams: pairs of a key and a datagram that was accepted under it, the last used first.
use Rattle.std.specs.Prelude.{ℕ, ◌-◌, Bool, true, false, ◌&&◌, ◌≡◌, length, drop, List, [], ◌∷◌, take, Option, Some, option_map, option_and_then, if◌then◌else◌}
use Rattle.std.specs.List.{filter_map, list_any}
use Rattle.std.specs.Option.{option_map_or}
use Rattle.std.specs.Str.{bytes_eq}
use Rattle.bar_seal.specs.declared.checked.Checked.{Checked}

-- the most bytes of a key and of a datagram that are kept
abbrev pub most_key : ℕ
most_key = 64

abbrev pub most_datagram : ℕ
most_datagram = 30720

-- a key and a datagram
abbrev pub Pair : Type 0
Pair = List ℕ × List ℕ

abbrev pub same_pair : Pair → Pair → Bool
same_pair p q = bytes_eq q.0 p.0 && bytes_eq q.1 p.1

-- the pair that a place keeps
abbrev pub pair_in : Checked → Option Pair
pair_in c = option_and_then (λ key. option_map (λ datagram. (key, datagram)) c.datagram.kept) c.key.kept

abbrev pub keeps : Pair → Checked → Bool
keeps p c = option_map_or (same_pair p) (pair_in c) false

-- a place that keeps a pair
abbrev pub checked_pair : List ℕ → List ℕ → Checked
checked_pair key datagram = record {
  key = record { size = most_key; kept = Some key };
  datagram = record { size = most_datagram; kept = Some datagram };
}

-- the pairs that all places keep, in their order
abbrev pub pairs_in : List (ℕ × Checked) → List Pair
pairs_in = filter_map (λ e. pair_in e.1)

-- a number of places, and the pairs that are in them
pub record Memo : Type 0 where
  pub places : ℕ
  pub pairs : List Pair

abbrev pub has_pair : Pair → List Pair → Bool
has_pair p = list_any (same_pair p)

-- the pairs except this one
abbrev pub but : Pair → List Pair → List Pair
but p [] = []
but p (q ∷ qs) = if same_pair p q then qs else q ∷ but p qs

-- a pair first, and then the others in their order, as far as there are places
abbrev pub with_pair : Pair → Memo → Memo
with_pair p m = record { places = m.places; pairs = take m.places (p ∷ but p m.pairs) }

-- A datagram is accepted under a key: its signature is its last `size` bytes, and its message the bytes before.
abbrev pub IsAccepted : (List ℕ → List ℕ → List ℕ → Bool) → ℕ → Pair → Type 0
IsAccepted accepts size p = accepts p.0 (take (length p.1 - size) p.1) (drop (length p.1 - size) p.1) ≡ true

-- Each remembered pair is accepted.
abbrev pub AreAccepted : (List ℕ → List ℕ → List ℕ → Bool) → ℕ → List Pair → Type 0
AreAccepted accepts size ps = (p : Pair) → has_pair p ps ≡ true → IsAccepted accepts size p

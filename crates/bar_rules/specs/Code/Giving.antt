-- How a party gives out what it sends.
use Rattle.std.specs.Prelude.{◌≡◌, ℕ, ◌≤◌, List, [], ◌∷◌, Option, Some, None, length, take}
use Rattle.bar_wire.specs.Datagram.{Datagram}
use Rattle.bar_rules.specs.Member.{Session}
use Rattle.bar_rules.specs.Values.{datagram_bytes}

-- the first bytes of a buffer, as many as given, encode the datagram
abbrev pub IsGiven : Session → Datagram → Option ℕ → List ℕ → Type 0
IsGiven s d None buf = ⊥
IsGiven s d (Some n) buf = (take n buf ≡ datagram_bytes s d) × (n ≤ length buf)

-- If something is left to send, the first datagram is given out, as its receiver and its length in a buffer, and the rest is left. If
-- nothing is left, nothing is given out.
abbrev pub GivesNext : Session → List (ℕ × Datagram) → Option (ℕ × ℕ) → List ℕ → (List (ℕ × Datagram) → Type 0) → Type 0
GivesNext s sends None buf Left = (sends ≡ []) × Left []
GivesNext s sends (Some given) buf Left =
    (d : Datagram) × (rest : List (ℕ × Datagram)) × (sends ≡ (given.0, d) ∷ rest) × IsGiven s d (Some given.1) buf × Left rest

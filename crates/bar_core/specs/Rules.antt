-- The rules of a core, a peer or a broadcaster: what it does at each input, depending on the inputs taken before.
use Rattle.std.specs.Prelude.{ℕ, List, Option}
use Rattle.bar_wire.specs.Inputs.{Input}

-- a receiver, and the bytes of a datagram
abbrev pub Send : Type 0
Send = ℕ × List ℕ

pub record Rules : Type 0 where
  -- the last tick that it takes
  pub last : ℕ
  -- the datagrams that an input sends, and the contents that it plays
  pub sends : List Input → Input → List Send
  pub contents : List Input → Input → List (List ℕ)
  -- the manifest of a round and the evidence against a party that it keeps after some inputs
  pub manifest : List Input → ℕ → Option (List ℕ)
  pub evidence : List Input → ℕ → Option (List ℕ)
  -- the numbers of rounds and peers of its session
  pub rounds : ℕ
  pub peers : ℕ

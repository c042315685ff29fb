-- Runs: the outcome of one input and of a list of inputs, for any step and kind of state.
use Rattle.std.specs.Prelude.{ℕ, ◌+◌, List, [], ◌∷◌, ◌++◌, map}
use Rattle.std.specs.List.{flat_map, concat}
use Rattle.bar_wire.specs.Datagram.{Datagram}
use Rattle.bar_wire.specs.Inputs.{Input}

-- the state after an input, the datagrams that are sent, each with its receiver, and the contents that are played
pub record Outcome (S : Type 0) : Type 0 where
  pub state : S
  pub sends : List (ℕ × Datagram)
  pub contents : List (List ℕ)

-- nothing is sent or played yet
abbrev pub begun : {S : Type 0} → S → Outcome S
begun s = record { state = s; sends = []; contents = [] }

-- one more datagram is sent
abbrev pub sending : {S : Type 0} → Outcome S → ℕ → Datagram → Outcome S
sending out to d = record { state = out.state; sends = out.sends ++ (to, d) ∷ []; contents = out.contents }

-- ---- over a list of inputs, given a step

abbrev pub state_after : {S : Type 0} → (S → Input → Outcome S) → S → List Input → S
state_after step s [] = s
state_after step s (input ∷ inputs) = state_after step (step s input).state inputs

-- the contents that each input plays
abbrev pub contents_from : {S : Type 0} → (S → Input → Outcome S) → S → List Input → List (List (List ℕ))
contents_from step s [] = []
contents_from step s (input ∷ inputs) = (step s input).contents ∷ contents_from step (step s input).state inputs

-- the bytes that all of them play
abbrev pub played_from : {S : Type 0} → (S → Input → Outcome S) → S → List Input → List ℕ
played_from step s inputs = flat_map concat (contents_from step s inputs)

-- the datagrams that are sent, each with its input's number and its receiver
abbrev pub sends_from : {S : Type 0} → (S → Input → Outcome S) → S → ℕ → List Input → List (ℕ × ℕ × Datagram)
sends_from step s number [] = []
sends_from step s number (input ∷ inputs) =
    map (λ send. (number, send.0, send.1)) (step s input).sends ++ sends_from step (step s input).state (number + 1) inputs

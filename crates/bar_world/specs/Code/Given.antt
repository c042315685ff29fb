-- The input that a move gives.
use Rattle.std.specs.Prelude.{◌≡◌, ℕ}
use Rattle.bar_wire.specs.Inputs.{Input}
use Rattle.bar_rules.specs.World.World.{Setup, World, Move, happens, takes}
use Rattle.bar_laws.specs.OwnRuns.{input_at, given_to}

-- A move gives a party this input, and gives no input to any other.
pub record Gives (setup : Setup) (w : World) (m : Move) (party : ℕ) (input : Input) : Type 0 where
  pub next : happens setup w m ≡ takes setup w party input
  pub inputs : (q : ℕ) → input_at w q m ≡ given_to q party input

-- How a core takes an input.
use Rattle.std.specs.Prelude.{◌≡◌, ℕ, List, ◌∷◌, [], ◌++◌}
use Rattle.std.specs.List.{concat}
use Rattle.bar_wire.specs.Inputs.{Input}
use Rattle.bar_core.specs.Code.Face.{Face, IsIdle}
use Rattle.bar_core.specs.Rules.{Rules, Send}

-- A core took an input and gave out all of it. What it sends is appended to the packets, and what it plays to what was played.
pub record Fed (was now : List Input → Type 0) (old new : Face) (input : Input) (packets further : List Send)
    (played more : List ℕ) : Type 0 where
  pub rules : new.rules ≡ old.rules
  pub idle : IsIdle new
  pub stands : (before : List Input) → was before → now (before ++ input ∷ [])
  pub packets_are : (before : List Input) → was before → further ≡ packets ++ old.rules.sends before input
  pub played_is : (before : List Input) → was before → more ≡ played ++ concat (old.rules.contents before input)

-- A core with these rules took these inputs.
pub record IsCoreOf (rules : Rules) (inputs : List Input) (stands : List Input → Type 0) (face : Face) : Type 0 where
  pub rules_are : face.rules ≡ rules
  pub took : stands inputs

-- A core with these rules took no input yet, and has nothing to give out.
pub record IsNewCore (rules : Rules) (stands : List Input → Type 0) (face : Face) : Type 0 where
  pub idle : IsIdle face
  pub core : IsCoreOf rules [] stands face

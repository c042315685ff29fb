-- The visible state of a core, and the effect of each of its calls.
use Rattle.std.specs.Prelude.{◌≡◌, ◌≤◌, ℕ, List, [], ◌∷◌, ◌++◌, length, take, Option, Some, None}
use Rattle.bar_wire.specs.Inputs.{Input}
use Rattle.bar_core.specs.Rules.{Rules, Send}

-- its rules, its time, and what it has still to give out for the last input
pub record Face : Type 0 where
  pub rules : Rules
  -- the number of ticks taken
  pub ticks : ℕ
  -- the contents still to be given out
  pub plays : List (List ℕ)
  -- an upper bound on the datagrams still to be given out
  pub left : ℕ

-- everything was given out
pub record IsIdle (face : Face) : Type 0 where
  pub plays : face.plays ≡ []
  pub left : face.left ≡ 0

-- an input was taken, and what it sends and plays is to be given out
pub record Steps (was now : List Input → Type 0) (owes : List Input → List Send → Type 0) (old new : Face) (input : Input) : Type 0 where
  pub rules : new.rules ≡ old.rules
  pub stands : (before : List Input) → was before → now (before ++ input ∷ [])
  pub plays : (before : List Input) → was before → new.plays ≡ old.rules.contents before input
  pub sends : (before : List Input) → was before → owes (before ++ input ∷ []) (old.rules.sends before input)

-- no input was taken
pub record Keeps (was now : List Input → Type 0) (old new : Face) : Type 0 where
  pub rules : new.rules ≡ old.rules
  pub stands : (before : List Input) → was before → now before

-- the first of these contents is at the start of the buffer, and the others are left; or none was left
abbrev pub GivesContent : List ℕ → Option ℕ → List (List ℕ) → List (List ℕ) → Type 0
GivesContent buf None old new = (old ≡ []) × (new ≡ [])
GivesContent buf (Some len) old new = (old ≡ take len buf ∷ new) × (len ≤ length buf)

-- the first of these datagrams is at the start of the buffer, with its receiver, and the others are left; or none was left
abbrev pub GivesFirst : List ℕ → Option (ℕ × ℕ) → List Send → (List Send → Type 0) → Type 0
GivesFirst buf None sends Left = (sends ≡ []) × Left []
GivesFirst buf (Some given) sends Left = (others : List Send) × (sends ≡ (given.0, take given.1 buf) ∷ others) × Left others

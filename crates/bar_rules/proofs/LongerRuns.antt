-- Runs over one list of inputs and then another.
use Rattle.bar_rules.specs.Runs.{Outcome, state_after}
use Rattle.bar_wire.specs.Inputs.{Input}
use Rattle.std.proofs.Common.{◌≡◌, List, [], ◌∷◌, ◌++◌, refl}

pub state_after_both : {S : Type 0} (step : S → Input → Outcome S) (s : S) (xs ys : List Input) → state_after step s (xs ++ ys) ≡ state_after step (state_after step s xs) ys
state_after_both step s [] ys = refl
state_after_both step s (x ∷ xs) ys = state_after_both step (step s x).state xs ys

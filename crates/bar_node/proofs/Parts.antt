-- Plans of two parts.
use Rattle.std.proofs.Common.{List, ◌++◌, Result, Ok, Err}
use Rattle.bar_outside.specs.declared.fault.Fault.{Fault}
use Rattle.bar_outside.specs.Plan.{Outside, Action}
use Rattle.bar_outside.specs.Code.Follows.{Follows}
use Rattle.bar_outside.proofs.Following.{followed, stopped, handed}

module _ (a b : List Action) (old new : Outside) where
  pub first-stopped : {S T : Type 0} (fault : Fault) → Follows {T = S} a old new (Err fault) → Follows {T = T} (a ++ b) old new (Err fault)
  first-stopped fault f = handed (a ++ b) old new fault (stopped a b old new fault f)

  pub then-second : {S T : Type 0} (mid : Outside) (y : S) (r : Result T Fault) → Follows a old mid (Ok y) → Follows b mid new r →
      Follows (a ++ b) old new r
  then-second mid y r f g = followed a b old mid new y f r g

use Rattle.std.specs.Prelude.{All}
use Rattle.bar_lms.specs.Code.Remembered.{AreValuesOf}
use Rattle.bar_lms.proofs.remembered.Remembered.make.Given as goal

abbrev pub invariant-places : goal.invariant-places
invariant-places l = All (AreValuesOf l.ots) l.all.items

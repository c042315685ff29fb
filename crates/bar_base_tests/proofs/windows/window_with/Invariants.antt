use Rattle.std.proofs.Common.{◌≡◌, false}
use Rattle.bar_window.specs.Code.Window.{IsWindowOf}
use Rattle.bar_base_tests.proofs.windows.window_with.Given as goal

abbrev pub invariant-loop-round : goal.invariant-loop-round
invariant-loop-round g l = IsWindowOf 4 6 l.window × (l.window.wide ≡ false)

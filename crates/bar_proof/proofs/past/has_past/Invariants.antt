use Rattle.std.proofs.Common.{◌≡◌, ℕ, ◌<◌, ◌≤◌, false}
use Rattle.bar_window.specs.Updates.{has_update}
use Rattle.bar_window.specs.Code.Window.{members}
use Rattle.bar_proof.proofs.past.has_past.Given as goal

abbrev pub invariant-loop-index : goal.invariant-loop-index
invariant-loop-index l = (i : ℕ) → l.count ≤ i → i < l.index → has_update (members l.window) (record { round = l.round; index = i }) ≡ false

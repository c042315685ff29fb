use Rattle.bar_progress.proofs.PushTalking.{pushes-are-completed}
use Rattle.bar_progress.proofs.pushes.pushes_are_completed.Goals as goal

pub returns : goal.returns
returns c = pushes-are-completed c.promises_are_equally_long.ensures.equal

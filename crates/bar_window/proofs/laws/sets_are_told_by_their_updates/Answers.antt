use Rattle.bar_window.proofs.Sets.{same_sets}
use Rattle.bar_window.proofs.laws.sets_are_told_by_their_updates.Goals as goal

pub returns : goal.returns
returns c = same_sets

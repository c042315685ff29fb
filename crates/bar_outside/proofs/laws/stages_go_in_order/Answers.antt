use Rattle.bar_outside.proofs.Stages.{ends_there, goes_in_order, says_its_line, shows_there}
use Rattle.bar_outside.proofs.laws.stages_go_in_order.Goals as goal

pub returns : goal.returns
returns c = record { goes = goes_in_order; line = says_its_line; ends = ends_there; shows = shows_there }

use Rattle.bar_record.proofs.PacingLemmas.{in_range}
use Rattle.bar_record.proofs.laws.pacing_keeps_the_range.Goals as goal

pub returns : goal.returns
returns c = in_range

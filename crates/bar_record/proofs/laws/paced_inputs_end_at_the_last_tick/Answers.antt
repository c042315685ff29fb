use Rattle.bar_record.proofs.PacingLemmas.{few_ticks}
use Rattle.bar_record.proofs.laws.paced_inputs_end_at_the_last_tick.Goals as goal

pub returns : goal.returns
returns c = few_ticks

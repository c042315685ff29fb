use Rattle.bar_record.proofs.PacingLemmas.{few_inputs}
use Rattle.bar_record.proofs.laws.paced_inputs_are_few.Goals as goal

pub returns : goal.returns
returns c = few_inputs

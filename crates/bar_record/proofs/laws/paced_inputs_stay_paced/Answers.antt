use Rattle.bar_record.proofs.PacingLemmas.{paced_again}
use Rattle.bar_record.proofs.laws.paced_inputs_stay_paced.Goals as goal

pub returns : goal.returns
returns c = paced_again

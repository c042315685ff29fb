use Rattle.bar_record.proofs.PacingLemmas.{taken_whole}
use Rattle.bar_record.proofs.laws.recordings_are_taken_whole.Goals as goal

pub returns : goal.returns
returns c = taken_whole

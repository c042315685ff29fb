use Rattle.bar_record.proofs.ReadBackLemmas.{recording_back}
use Rattle.bar_record.proofs.laws.recordings_read_back.Goals as goal

pub returns : goal.returns
returns c = recording_back

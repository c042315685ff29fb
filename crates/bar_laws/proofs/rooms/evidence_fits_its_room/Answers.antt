use Rattle.bar_laws.proofs.Fitting.{evidence-fits-room}
use Rattle.bar_laws.proofs.rooms.evidence_fits_its_room.Goals as goal

pub returns : goal.returns
returns c = evidence-fits-room

use Rattle.bar_wire.proofs.EvidenceReads.{only_evidence}
use Rattle.bar_wire.proofs.evidence.split_evidence.Goals as goal

pub returns-clause-only : goal.returns-clause-only
returns-clause-only c = λ ds of. only_evidence c.args.bytes.now c.read_evidence.result ds c.read_evidence.ensures of

use Rattle.std.proofs.Common.{ap, ◌∙◌}
use Rattle.std.specs.Prelude.{option_map}
use Rattle.bar_wire.specs.Evidence.{datagrams_of}
use Rattle.bar_proof.proofs.EvidenceLemmas.{evidence-read}
use Rattle.bar_proof.proofs.evidence.read_evidence.Goals as goal

pub returns : goal.returns
returns c =
    ap (option_map datagrams_of) c.ok.ensures.value
    ∙ evidence-read c.args.bytes.now c.split_evidence.result c.split_evidence.ensures.found c.split_evidence.ensures.only

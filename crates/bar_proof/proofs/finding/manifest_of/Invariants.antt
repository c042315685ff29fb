use Rattle.bar_proof.specs.ProofFile.{is_of_round}
use Rattle.bar_proof.proofs.ManifestFinding.{RemainsOf}
use Rattle.bar_proof.proofs.finding.manifest_of.Given as goal

abbrev pub invariant-entries : goal.invariant-entries
invariant-entries l = RemainsOf (is_of_round l.session l.round) l.table l.rest l.counter

use Rattle.std.proofs.Common.{◌≡◌, ◌+◌, ◌*◌, ◌≤◌}
use Rattle.std.specs.Prelude.{slice_index}
use Rattle.bar_proof.proofs.ManifestReading.{IsReadTo}
use Rattle.bar_proof.proofs.reading.read_manifests.Given as goal

abbrev pub invariant-entries : goal.invariant-entries
invariant-entries g l = record {
  read : IsReadTo l.session l.bytes l.counter l.last l.rest l.table.lists;
  end : l.end ≡ slice_index l.bytes 5;
  rounds : l.table.rounds ≡ l.session.shape.rounds;
  per_round : l.table.per_round ≡ l.session.shape.per_round;
  last : l.last ≤ l.session.shape.rounds;
  cost : l.steps ≤ l.initial.steps + l.last * g.V.Verifier.most_steps l.verifier;
}

use Rattle.std.proofs.Common.{◌≡◌, ◌+◌, ◌*◌, ◌≤◌}
use Rattle.bar_judge.proofs.TableReading.{IsReadTo}
use Rattle.bar_judge.proofs.reading.read_table.Given as goal

abbrev pub invariant-entries : goal.invariant-entries
invariant-entries g l = record {
  read : IsReadTo l.session l.bytes l.counter l.last l.rest l.table.lists;
  rounds : l.table.rounds ≡ l.session.shape.rounds;
  per_round : l.table.per_round ≡ l.session.shape.per_round;
  last : l.last ≤ l.session.shape.rounds;
  cost : l.steps ≤ l.initial.steps + l.last * g.V.Verifier.most_steps l.verifier;
}

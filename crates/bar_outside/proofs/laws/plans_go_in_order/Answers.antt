use Rattle.bar_outside.proofs.Stages.{ends_there, names_first, reads_first, shows_there}
use Rattle.bar_outside.proofs.laws.plans_go_in_order.Goals as goal

pub returns : goal.returns
returns c = record {
  went = λ plan old new status ends told. record { carried = ends.carried told; part = ends.part told };
  reads = reads_first;
  ends = ends_there;
  shows = shows_there;
  names = names_first;
}

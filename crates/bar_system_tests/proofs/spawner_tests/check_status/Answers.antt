use Rattle.bar_outside.proofs.OpenLemmas.{new-running}
use Rattle.bar_system_tests.proofs.spawner_tests.check_status.Goals as goal

pub wait-requires : goal.wait-requires
wait-requires g c =
    let added = rw c.in-Ok.is at c.start.ensures.added in
    let new_child = rw c.in-Ok.is at c.start.ensures.new_child in
    rw added (new-running _ _ _ new_child)

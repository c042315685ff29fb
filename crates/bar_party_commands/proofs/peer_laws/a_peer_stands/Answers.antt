use Rattle.bar_party_commands.specs.PeerPlan.{peer_stages}
use Rattle.bar_party_commands.proofs.PeerRows.{outcome}
use Rattle.bar_party_commands.proofs.PeerRuns.{peer-stands}
use Rattle.bar_party_commands.proofs.peer_laws.a_peer_stands.Goals as goal

pub returns : goal.returns
returns c = λ names old new status run told.
    peer-stands c.accepted_secrets_are_held.ensures c.paced_inputs_are_few.ensures names run.given old new run.heard told
    (run.reached told) (run.asked told) c.a_part_of_a_peer_kept.ensures status
    (outcome names run.given old new status told
    (c.stages_go_in_order.ensures.goes (peer_stages names run.given) old new status run.ends told))

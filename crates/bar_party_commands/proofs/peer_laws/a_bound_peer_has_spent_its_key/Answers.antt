use Rattle.bar_party_commands.specs.PeerPlan.{peer_stages}
use Rattle.bar_party_commands.proofs.PeerBound.{bound-or_not}
use Rattle.bar_party_commands.proofs.PeerRows.{outcome}
use Rattle.bar_party_commands.proofs.peer_laws.a_bound_peer_has_spent_its_key.Goals as goal

pub returns : goal.returns
returns c = λ names old new status run told.
    bound-or_not c.accepted_secrets_are_held.ensures names run.given old new told status
    (outcome names run.given old new status told
    (c.stages_go_in_order.ensures.goes (peer_stages names run.given) old new status run.ends told))

use Rattle.bar_party_commands.specs.PeerPlan.{peer_stages}
use Rattle.bar_party_commands.proofs.PeerRows.{others-untouched, outcome}
use Rattle.bar_party_commands.proofs.peer_laws.only_its_files_are_changed_by_a_peer.Goals as goal

pub returns : goal.returns
returns c = λ names path old new status run told none.
    others-untouched names run.given path old new status told none
    (outcome names run.given old new status told
    (c.stages_go_in_order.ensures.goes (peer_stages names run.given) old new status run.ends told))

use Rattle.bar_party_commands.specs.PeerPlan.{peer_stages}
use Rattle.bar_party_commands.proofs.PeerRows.{outcome}
use Rattle.bar_party_commands.proofs.PeerRuns.{peer-done}
use Rattle.bar_party_commands.proofs.peer_laws.a_peer_is_done.Goals as goal

pub returns : goal.returns
returns c = λ names old new run told.
    let rules = c.rules_give_the_run.ensures in
    peer-done c.accepted_secrets_are_held.ensures c.paced_inputs_are_few.ensures names run.given old new run.heard told
    (run.reached told) (run.asked told) c.accepted_sessions_are_in_range.ensures
    rules.sends rules.contents c.a_whole_peer_kept.ensures c.a_whole_run_sent.ensures c.a_run_finds.ensures
    (outcome names run.given old new 0 told
    (c.stages_go_in_order.ensures.goes (peer_stages names run.given) old new 0 run.ends told))

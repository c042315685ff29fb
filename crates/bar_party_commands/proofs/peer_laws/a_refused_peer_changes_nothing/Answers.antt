use Rattle.std.proofs.Common.{arith, refl}
use Rattle.bar_party_commands.specs.PeerPlan.{peer_stages}
use Rattle.bar_party_commands.proofs.PeerRows.{outcome, refused, stopped-key, stopped-session}
use Rattle.bar_party_commands.proofs.peer_laws.a_refused_peer_changes_nothing.Goals as goal

pub returns-clause-session : goal.returns-clause-session
returns-clause-session c = λ names old new run told.
    refused names run.given old new 4 refl (λ e. absurd (omega arith)) (λ e. absurd (omega arith))
    (outcome names run.given old new 4 told (c.stages_go_in_order.ensures.goes (peer_stages names run.given) old new 4 run.ends told))

pub returns-clause-key : goal.returns-clause-key
returns-clause-key c = λ names old new run told.
    refused names run.given old new 5 refl (λ e. absurd (omega arith)) (λ e. absurd (omega arith))
    (outcome names run.given old new 5 told (c.stages_go_in_order.ensures.goes (peer_stages names run.given) old new 5 run.ends told))

pub returns-clause-no_session : goal.returns-clause-no_session
returns-clause-no_session c = λ names old new status run told.
    stopped-session names run.given old new status
    (c.stages_go_in_order.ensures.goes (peer_stages names run.given) old new status run.ends told)

pub returns-clause-no_key : goal.returns-clause-no_key
returns-clause-no_key c = λ names old new status run told.
    stopped-key names run.given old new status
    (c.stages_go_in_order.ensures.goes (peer_stages names run.given) old new status run.ends told)

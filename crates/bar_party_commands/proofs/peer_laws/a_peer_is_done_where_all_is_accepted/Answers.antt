use Rattle.std.proofs.Common.{◌≡◌, ◌⊎◌, subst}
use Rattle.bar_node.specs.Runs.{is_ended}
use Rattle.bar_party_commands.specs.PeerPlan.{rules_by}
use Rattle.bar_party_commands.proofs.Endings.{done-or-memory}
use Rattle.bar_party_commands.proofs.PeerRows.{accepted-status}
use Rattle.bar_party_commands.proofs.peer_laws.a_peer_is_done_where_all_is_accepted.Goals as goal

pub returns-clause-reliable : goal.returns-clause-reliable
returns-clause-reliable c = λ names s k old new status run reliable told a.
    done-or-memory (is_ended (rules_by s k) run.given) status (run.answers reliable)
    (subst (λ final. (status ≡ final) ⊎ (status ≡ 70)) (accepted-status names run.given old.files.content s k a) (run.ends.complete reliable told))

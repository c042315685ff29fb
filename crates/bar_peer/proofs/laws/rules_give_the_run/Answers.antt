use Rattle.std.proofs.Common.{[], refl}
use Rattle.bar_core.proofs.Stepwise.{contents-stepwise, sends-stepwise}
use Rattle.bar_rules.specs.Peer.Run.{log_after, step}
use Rattle.bar_rules.specs.Runs.{contents_from, sends_from}
use Rattle.bar_rules.specs.Values.{datagram_bytes}
use Rattle.bar_peer.specs.Core.{peer_rules}
use Rattle.bar_peer.proofs.Stepping.Inputs.{log-more}
use Rattle.bar_peer.proofs.laws.rules_give_the_run.Goals as goal

pub returns-clause-sends : goal.returns-clause-sends
returns-clause-sends c me inputs =
    sends-stepwise (peer_rules me) (log_after me []) (λ log input. (step me log input).state) (log-more me [])
    (λ log input. (step me log input).sends)
    (λ send. (send.0, datagram_bytes me.session send.1))
    (λ n send. (n, send.0, send.1))
    (λ sent. (sent.1, datagram_bytes me.session sent.2))
    (sends_from (step me))
    (λ before input. refl)
    (λ n send. refl)
    (λ log n. refl)
    (λ log n input inputs. refl)
    []
    1
    inputs

pub returns-clause-contents : goal.returns-clause-contents
returns-clause-contents c me inputs =
    contents-stepwise (peer_rules me) (log_after me []) (λ log input. (step me log input).state) (log-more me [])
    (λ log input. (step me log input).contents)
    (contents_from (step me))
    (λ before input. refl)
    (λ log. refl)
    (λ log input inputs. refl)
    []
    inputs

use Rattle.bar_node.proofs.SentOver.{sent-part}
use Rattle.bar_node.proofs.Doing.{beside}
use Rattle.bar_node.proofs.Stopping.{part-run}
use Rattle.bar_node.proofs.laws.a_stopped_run_sent.Goals as goal

pub returns : goal.returns
returns g c = λ recording played found r core files files_new wire wire_new fault ran.
    sent-part recording played found r ran.given (beside files wire) (beside files_new wire_new)
    (part-run recording played found r (g.C.Core.stands core) files files_new wire wire_new fault ran)

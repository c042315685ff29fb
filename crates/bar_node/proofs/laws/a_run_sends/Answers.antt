use Rattle.bar_node.proofs.SentOver.{sent-whole}
use Rattle.bar_node.proofs.Doing.{beside}
use Rattle.bar_node.proofs.Stopping.{whole-run}
use Rattle.bar_node.proofs.laws.a_run_sends.Goals as goal

pub returns : goal.returns
returns g c = λ recording played found r core files files_new wire wire_new summary ran.
    sent-whole recording played found r ran.given (beside files wire) (beside files_new wire_new)
    (whole-run recording played found r (g.C.Core.stands core) files files_new wire wire_new summary ran)

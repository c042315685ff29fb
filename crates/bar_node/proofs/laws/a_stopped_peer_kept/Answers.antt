use Rattle.std.proofs.Common.{Some}
use Rattle.bar_node.proofs.PeerFiles.{peer-part}
use Rattle.bar_node.proofs.Doing.{beside}
use Rattle.bar_node.proofs.Stopping.{part-run}
use Rattle.bar_node.proofs.laws.a_stopped_peer_kept.Goals as goal

pub returns : goal.returns
returns g c = λ recording played found r core files files_new wire wire_new fault ran.
    peer-part recording played found r ran.given (beside files wire) (beside files_new wire_new)
    (part-run (Some recording) (Some played) found r (g.C.Core.stands core) files files_new wire wire_new fault ran)

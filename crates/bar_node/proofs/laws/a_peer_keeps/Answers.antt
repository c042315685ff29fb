use Rattle.std.proofs.Common.{Some}
use Rattle.bar_node.proofs.PeerFiles.{peer-whole}
use Rattle.bar_node.proofs.Doing.{beside}
use Rattle.bar_node.proofs.Stopping.{whole-run}
use Rattle.bar_node.proofs.laws.a_peer_keeps.Goals as goal

pub returns : goal.returns
returns g c = λ recording played found r core files files_new wire wire_new summary ran.
    peer-whole recording played found r ran.given (beside files wire) (beside files_new wire_new)
    (whole-run (Some recording) (Some played) found r (g.C.Core.stands core) files files_new wire wire_new summary ran) ran.ended

use Rattle.bar_node.proofs.PeerFiles.{peer-whole}
use Rattle.bar_node.proofs.laws.a_whole_peer_kept.Goals as goal

pub returns : goal.returns
returns c = peer-whole

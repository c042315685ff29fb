use Rattle.bar_node.proofs.PeerFiles.{peer-part}
use Rattle.bar_node.proofs.laws.a_part_of_a_peer_kept.Goals as goal

pub returns : goal.returns
returns c = peer-part

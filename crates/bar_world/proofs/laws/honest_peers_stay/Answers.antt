use Rattle.bar_world.proofs.Fair.{honest-peers-stay}
use Rattle.bar_world.proofs.laws.honest_peers_stay.Goals as goal

pub returns : goal.returns
returns c = honest-peers-stay c.nobody_is_evicted.ensures c.parties_run_alone.ensures.peers c.parties_run_alone.ensures.broadcaster

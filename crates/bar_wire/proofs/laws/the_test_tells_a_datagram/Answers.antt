use Rattle.bar_wire.specs.Ranges.{datagram_decided}
use Rattle.bar_wire.proofs.laws.the_test_tells_a_datagram.Goals as goal

pub returns : goal.returns
returns c = λ s d. (datagram_decided s d).tells

use Rattle.bar_wire.proofs.Told.{only_told, is_told}
use Rattle.bar_wire.proofs.laws.the_datagram_is_spelled.Goals as goal

pub returns : goal.returns
returns c = λ s d bytes. (only_told s d bytes, is_told s d bytes)

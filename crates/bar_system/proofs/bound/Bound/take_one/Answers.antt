use Rattle.std.proofs.Common.{[], ◌∷◌, take, refl}
use Rattle.bar_system.proofs.bound.Bound.take_one.Goals as goal

-- The socket gave the datagram that is dropped.
pub returns-else-takes-clause-gives : goal.returns-else-takes-clause-gives
returns-else-takes-clause-gives g c = (take c.in-Ok.len c.receive.new.buf ∷ [], (refl, rw c.in-Ok.is at c.receive.ensures.gave))

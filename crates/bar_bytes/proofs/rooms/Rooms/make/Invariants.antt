use Rattle.bar_bytes.proofs.EmptyRooms.{AreEmpty}
use Rattle.bar_bytes.proofs.rooms.Rooms.make.Given as goal

abbrev pub invariant-loop : goal.invariant-loop
invariant-loop l = AreEmpty l.size l.rooms.items l.counter

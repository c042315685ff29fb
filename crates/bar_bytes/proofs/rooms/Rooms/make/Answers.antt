use Rattle.bar_bytes.proofs.EmptyRooms.{empty_none, empty_more, all_sized, none_kept}
use Rattle.bar_bytes.proofs.rooms.Rooms.make.Goals as goal

pub loop-init : goal.loop-init
loop-init c = rw c.new-rooms.ensures.items (empty_none c.args.size)

pub loop-preserved : goal.loop-preserved
loop-preserved c = rw c.in_ok-push.ensures.items (empty_more c.args.size c.loop.rooms.items c.loop.counter c.in_ok-room.room c.loop.invariant c.in_ok-room.ensures)

pub invariant_of-result : goal.invariant_of-result
invariant_of-result c = record { sized = all_sized c.args.size c.loop.rooms.items c.loop.counter c.loop.invariant }

pub returns-clause-empty : goal.returns-clause-empty
returns-clause-empty c round = none_kept c.args.size c.loop.rooms.items c.loop.counter round c.loop.invariant

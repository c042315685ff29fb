use Rattle.std.proofs.Common.{arith}
use Rattle.bar_store.specs.Code.Held.{block_in}
use Rattle.bar_store.proofs.Ring.{IsInTime, after_hold, rooms_after, room_inside}
use Rattle.bar_store.proofs.store.Store.hold.Goals as goal

time : (c : goal.After-self-1) → IsInTime c.args.self.now.life c.args.self.now.per_round c.args.self.now.round c.args.id
time c = record { index = c.requires.index; near = c.requires.near; fresh = omega (arith, c.requires.alive) }

pub index_mut-requires : goal.index_mut-requires
index_mut-requires c =
    let s = c.args.self.now in
    omega (arith, c.room-room.ensures, room_inside s.life s.per_round c.args.id (c.requires.index), s.rooms_fit.count, s.rooms.ok)

pub invariant_of-self-clause-rooms_fit : goal.invariant_of-self-clause-rooms_fit
invariant_of-self-clause-rooms_fit c =
    let s = c.args.self.now in
    rw c.room-room.ensures (rooms_after s.life s.per_round s.round s.rooms.items c.args.id c.args.block.now s.rooms_fit (time c))

pub returns-clause-held : goal.returns-clause-held
unfolding block_in
returns-clause-held c u =
    let s = c.args.self.now in
    rw c.room-room.ensures (after_hold s.life s.per_round s.round s.rooms.items c.args.id c.args.block.now s.rooms_fit (record { index = c.requires.index; near = c.requires.near; fresh = omega (arith, c.requires.alive) }) c.requires.new u)

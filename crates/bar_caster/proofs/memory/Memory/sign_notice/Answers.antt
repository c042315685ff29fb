-- The notice of this round names the evicted peers, and is the first of its round.
use Rattle.std.proofs.Common.{◌≡◌, ◌≤◌, ℕ, List, length, ap, arith}
use Rattle.std.proofs.lemmas.List.{length-take}
use Rattle.bar_session.proofs.Levels.{session_short}
use Rattle.bar_caster.specs.declared.memory.Memory.{Memory}
use Rattle.bar_caster.proofs.memory.Memory.sign_notice.Goals as goal

-- at most as many parties as there are peers, which are at most 200
few : (m : Memory) (parties : List ℕ) → parties ≡ m.evictions.list.items
    → (length parties ≤ m.session.shape.peers) × (m.session.shape.peers ≤ 200)
few m parties is =
    let within : length m.evictions.list.items ≤ m.evictions.peers = m.evictions.few in
    let peers : m.evictions.peers ≡ m.session.shape.peers = m.evicted_peers in
    (omega (arith, within, peers, ap length is), m.is_broadcaster.session.shape.peers_high)

pub write_parties-len-requires : goal.write_parties-len-requires
write_parties-len-requires g c =
    let short = few c.args.self.now c.evicted-evicted.result.now c.evicted-evicted.ensures in
    omega (arith, short.0, short.1)

pub overflow_cast-count : goal.overflow_cast-count
overflow_cast-count g c =
    let short = few c.args.self.now c.evicted-evicted.result.now c.evicted-evicted.ensures in
    omega (arith, short.0, short.1)

pub slice_bounds-parties-end : goal.slice_bounds-parties-end
slice_bounds-parties-end g c =
    let short = few c.args.self.now c.evicted-evicted.result.now c.evicted-evicted.ensures in
    omega (arith, short.0, short.1, c.write_parties-len.ensures.end, c.write_parties-len.auto.out)

pub slice_bounds-write_evictions-end : goal.slice_bounds-write_evictions-end
slice_bounds-write_evictions-end g c =
    let short = few c.args.self.now c.evicted-evicted.result.now c.evicted-evicted.ensures in
    omega (
      arith,
      short.0,
      short.1,
      c.write_parties-len.ensures.end,
      c.write_parties-len.auto.out,
      length-take c.write_parties-len.result c.write_parties-len.new.out,
    )

pub write_evictions-len-requires-clause-whole : goal.write_evictions-len-requires-clause-whole
write_evictions-len-requires-clause-whole g c =
    let short = few c.args.self.now c.evicted-evicted.result.now c.evicted-evicted.ensures in
    omega (
      arith,
      short.0,
      short.1,
      c.write_parties-len.ensures.end,
      c.write_parties-len.auto.out,
      length-take c.write_parties-len.result c.write_parties-len.new.out,
    )

pub sign_behind-len-requires-clause-room : goal.sign_behind-len-requires-clause-room
sign_behind-len-requires-clause-room g c =
    let m = c.args.self.now in
    let short = few m c.evicted-evicted.result.now c.evicted-evicted.ensures in
    omega (
      arith,
      short.0,
      short.1,
      c.write_evictions-len.ensures.end,
      c.write_evictions-len.auto.out,
      c.requires.room,
      c.requires.signs.length_is,
      m.is_broadcaster.session.signatures,
      session_short m.session m.is_broadcaster.session,
    )

pub keep-requires : goal.keep-requires
keep-requires g c =
    let m = c.args.self.now in
    let short = few m c.evicted-evicted.result.now c.evicted-evicted.ensures in
    omega (
      arith,
      short.0,
      c.write_evictions-len.ensures.end,
      c.sign_behind-len.ensures.end,
      c.requires.signs.length_is,
      m.notice_size,
      length-take c.sign_behind-len.result c.sign_behind-len.new.buf,
    )

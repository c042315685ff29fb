use Rattle.std.proofs.Common.{◌≡◌, ◌∙◌, ◌*◌, ◌≤◌, ◌∷◌, true, false, length, ap, arith, sym}
use Rattle.std.specs.Prelude.{◌==◌}
use Rattle.std.proofs.lemmas.Bool.{ne_eqb}
use Rattle.bar_wire.specs.declared.shape.Shape.{Shape}
use Rattle.bar_session.specs.Time.{round_after, slot_after}
use Rattle.bar_rules.specs.Member.{Session}
use Rattle.bar_rules.specs.Peer.Log.{Log, Ticked}
use Rattle.bar_caster.specs.Code.Memory.{member_of, stream_of}
use Rattle.bar_caster.specs.Code.StandsFor.{log_of}
use Rattle.bar_caster.specs.Code.Ticking.{says_again}
use Rattle.bar_caster.proofs.Ticked.{again-stands, blocks-stand, first-passed, from-none, idle-stands, manifest-stands, past-stands, said-again}
use Rattle.bar_caster.proofs.Ticked.{said-before, signs-so, stands-so}
use Rattle.bar_caster.proofs.caster.Caster.go_on.Goals as goal

pub returns-then-says_again-clause-stands : goal.returns-then-says_again-clause-stands
returns-then-says_again-clause-stands g c inputs stood =
    let m = c.args.self.now.memory in
    let n = c.tick.new.self in
    let same = c.tick.ensures.same in
    let t = c.tick.ensures.tells inputs stood in
    let log : Log = log_of m inputs in
    let many : n.session.shape.peers ≡ m.session.shape.peers = ap (λ (s : Session). s.shape.peers) same.session in
    let none : length c.args.self.now.orders.list.items ≡ 0 = ap length c.requires.empty in
    let signs = signs-so m n log same (c.signs_once_a_round.ensures (member_of m) (stream_of m) m.is_broadcaster inputs) in
    let again : says_again n.session n.ticks ≡ true = sym c.says_again.ensures ∙ c.if-says_again.true in
    stands-so m _ _ (Ticked ∷ log) (record { session = same.session; secrets = same.secrets; stream = same.stream })
    (again-stands _ _ (Ticked ∷ log)
    (record { time = t.time; table = t.table; manifests = t.manifests; notice = t.notice; evictions = t.evictions })
    again
    (said-before (member_of n) (stream_of n) log signs (ap (says_again n.session) t.time ∙ again))
    (from-none c.args.self.now.orders.list.items _ c.send_to_all.new.orders.list.items
    (c.send_to_all.ensures.sent (Ticked ∷ log)
    (record { time = t.time; table = t.table; manifests = t.manifests; notice = t.notice; evictions = t.evictions })
    (omega (arith, many, none, c.args.self.now.room)))
    c.requires.empty))

pub returns-then-round-shape-clause-stands : goal.returns-then-round-shape-clause-stands
returns-then-round-shape-clause-stands g c inputs stood =
    let m = c.args.self.now.memory in
    let n = c.tick.new.self in
    let same = c.tick.ensures.same in
    let t = c.tick.ensures.tells inputs stood in
    let rounds : c.shape.result.rounds ≡ n.session.shape.rounds = ap (λ (s : Shape). s.rounds) c.shape.ensures.value in
    stands-so m _ _ (Ticked ∷ log_of m inputs) (record { session = same.session; secrets = same.secrets; stream = same.stream })
    (past-stands _ _ (Ticked ∷ log_of m inputs)
    (record { time = t.time; table = t.table; manifests = t.manifests; notice = t.notice; evictions = t.evictions })
    (sym c.says_again.ensures ∙ c.if-says_again.false)
    (omega (arith, c.if-round-shape.true, rounds, c.round.ensures))
    c.requires.empty)

pub returns-in-1-clause-stands : goal.returns-in-1-clause-stands
returns-in-1-clause-stands g c inputs stood =
    let m = c.args.self.now.memory in
    let n = c.tick.new.self in
    let same = c.tick.ensures.same in
    let t = c.tick.ensures.tells inputs stood in
    let at : Log = Ticked ∷ log_of m inputs in
    let rounds : c.shape.result.rounds ≡ n.session.shape.rounds = ap (λ (s : Shape). s.rounds) c.shape.ensures.value in
    let many : n.session.shape.per_round * n.session.shape.peers ≡ m.session.shape.per_round * m.session.shape.peers =
    ap (λ (s : Session). s.shape.per_round * s.shape.peers) same.session in
    let none : length c.args.self.now.orders.list.items ≡ 0 = ap length c.requires.empty in
    stands-so m _ _ at (record { session = same.session; secrets = same.secrets; stream = same.stream })
    (blocks-stand _ _ at
    (record { time = t.time; table = t.table; manifests = t.manifests; notice = t.notice; evictions = t.evictions })
    (rw c.slot_after.ensures at c.in-1.is)
    (omega (arith, c.if-round-shape.false, rounds, c.round.ensures))
    (from-none c.args.self.now.orders.list.items _ c.send_blocks.new.orders.list.items
    (c.send_blocks.ensures.sent at
    (record { time = t.time; table = t.table; manifests = t.manifests; notice = t.notice; evictions = t.evictions })
    (omega (arith, many, none, c.args.self.now.room)))
    c.requires.empty))

pub returns-in-4-clause-stands : goal.returns-in-4-clause-stands
returns-in-4-clause-stands g c inputs stood =
    let m = c.args.self.now.memory in
    let n = c.tick.new.self in
    let same = c.tick.ensures.same in
    let t = c.tick.ensures.tells inputs stood in
    let log : Log = log_of m inputs in
    let rounds : c.shape.result.rounds ≡ n.session.shape.rounds = ap (λ (s : Shape). s.rounds) c.shape.ensures.value in
    let many : n.session.shape.peers ≡ m.session.shape.peers = ap (λ (s : Session). s.shape.peers) same.session in
    let none : length c.args.self.now.orders.list.items ≡ 0 = ap length c.requires.empty in
    let signs = signs-so m n log same (c.signs_once_a_round.ensures (member_of m) (stream_of m) m.is_broadcaster inputs) in
    let high : round_after n.ticks ≤ n.session.shape.rounds = omega (arith, c.if-round-shape.false, rounds, c.round.ensures) in
    let at : slot_after n.ticks ≡ 4 = sym c.slot_after.ensures ∙ c.in-4.is in
    stands-so m _ _ (Ticked ∷ log) (record { session = same.session; secrets = same.secrets; stream = same.stream })
    (manifest-stands _ _ (Ticked ∷ log)
    (record { time = t.time; table = t.table; manifests = t.manifests; notice = t.notice; evictions = t.evictions })
    (said-again (member_of n) (stream_of n) log signs (omega (arith, t.time, at)) (omega (arith, t.time, high)))
    at
    high
    (from-none c.args.self.now.orders.list.items _ c.send_to_all-in-4.new.orders.list.items
    (c.send_to_all-in-4.ensures.sent (Ticked ∷ log)
    (record { time = t.time; table = t.table; manifests = t.manifests; notice = t.notice; evictions = t.evictions })
    (omega (arith, many, none, c.args.self.now.room)))
    c.requires.empty))

pub returns-in_default-clause-stands : goal.returns-in_default-clause-stands
returns-in_default-clause-stands g c inputs stood =
    let m = c.args.self.now.memory in
    let n = c.tick.new.self in
    let same = c.tick.ensures.same in
    let t = c.tick.ensures.tells inputs stood in
    let ticks = c.tick.ensures.ticks in
    let rounds : c.shape.result.rounds ≡ n.session.shape.rounds = ap (λ (s : Shape). s.rounds) c.shape.ensures.value in
    let high : round_after n.ticks ≤ n.session.shape.rounds = omega (arith, c.if-round-shape.false, rounds, c.round.ensures) in
    let first : (slot_after n.ticks == 1) ≡ false = ne_eqb (slot_after n.ticks) 1 (grind arith) in
    let fourth : (slot_after n.ticks == 4) ≡ false = ne_eqb (slot_after n.ticks) 4 (grind arith) in
    let fifth : (slot_after n.ticks == 5) ≡ false = ne_eqb (slot_after n.ticks) 5 (grind arith) in
    let zeroth : (slot_after n.ticks == 0) ≡ false =
    ap (λ ticks. slot_after ticks == 0) ticks
    ∙ first-passed m.session m.ticks c.requires.begins
    (omega (arith, high, ticks, ap (λ (s : Session). s.shape.rounds) same.session)) in
    stands-so m _ _ (Ticked ∷ log_of m inputs) (record { session = same.session; secrets = same.secrets; stream = same.stream })
    (idle-stands _ _ (Ticked ∷ log_of m inputs)
    (record { time = t.time; table = t.table; manifests = t.manifests; notice = t.notice; evictions = t.evictions })
    (sym c.says_again.ensures ∙ c.if-says_again.false)
    high
    zeroth
    first
    fourth
    fifth
    c.requires.empty)

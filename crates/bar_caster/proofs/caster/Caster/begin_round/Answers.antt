use Rattle.std.proofs.Common.{◌≡◌, ◌∙◌, ◌+◌, ◌≤◌, ◌∷◌, true, false, [], length, sym, ap, arith}
use Rattle.std.specs.Prelude.{◌==◌}
use Rattle.std.proofs.lemmas.Bool.Decides.{nat_tests}
use Rattle.std.proofs.lemmas.List.{nil_from_length}
use Rattle.bar_session.specs.Time.{round_after, slot_after}
use Rattle.bar_rules.specs.Member.{Session}
use Rattle.bar_rules.specs.Peer.Log.{Log, Said, ticks}
use Rattle.bar_caster.specs.Code.Memory.{member_of, stream_of}
use Rattle.bar_caster.specs.Code.StandsFor.{log_of}
use Rattle.bar_caster.specs.Code.Ticking.{begun_round, notice_now}
use Rattle.bar_caster.proofs.Ticked.{alone-stands, both-stand, from-none, notice-unsaid, round-begins}
use Rattle.bar_caster.proofs.caster.Caster.begin_round.Goals as goal

pub returns-then-is_empty-clause-stands : goal.returns-then-is_empty-clause-stands
returns-then-is_empty-clause-stands g c inputs stood =
    let m = c.args.self.now.memory in
    let n = c.begin_round.new.self in
    let same = c.begin_round.ensures.same in
    let log : Log = log_of m inputs in
    let with_manifest : Log = begun_round (member_of m) (stream_of m) log in
    let t = c.begin_round.ensures.tells inputs stood in
    let signs = c.signs_once_a_round.ensures (member_of m) (stream_of m) m.is_broadcaster inputs in
    let begins = round-begins m.session m.ticks c.requires.begins in
    let many : n.session.shape.peers ≡ m.session.shape.peers = ap (λ (s : Session). s.shape.peers) same.session in
    let none : length c.args.self.now.orders.list.items ≡ 0 = ap length c.requires.empty in
    let tested : (length c.evicted.result.now == 0) ≡ true = sym c.is_empty.ensures ∙ c.if-is_empty.true in
    let empty : n.evictions.list.items ≡ [] =
    sym c.evicted.ensures ∙ nil_from_length c.evicted.result.now (grind (arith, nat_tests, tested)) in
    alone-stands m _ _ log (record { session = same.session; secrets = same.secrets; stream = same.stream }) signs
    (ap (λ ticks. slot_after (ticks + 1)) stood.time ∙ begins.0)
    (omega (arith, stood.time, begins.1))
    (record { time = t.time; table = t.table; manifests = t.manifests; notice = t.notice; evictions = t.evictions })
    empty
    (from-none c.args.self.now.orders.list.items _ c.send_to_all.new.orders.list.items
    (c.send_to_all.ensures.sent with_manifest t (omega (arith, many, none, c.args.self.now.room)))
    c.requires.empty)

pub returns-clause-stands : goal.returns-clause-stands
returns-clause-stands g c inputs stood =
    let m = c.args.self.now.memory in
    let n = c.begin_round.new.self in
    let same = c.begin_round.ensures.same in
    let later = c.sign_notice.ensures.same in
    let log : Log = log_of m inputs in
    let with_manifest : Log = begun_round (member_of m) (stream_of m) log in
    let t = c.begin_round.ensures.tells inputs stood in
    let signs = c.signs_once_a_round.ensures (member_of m) (stream_of m) m.is_broadcaster inputs in
    let begins = round-begins m.session m.ticks c.requires.begins in
    let many : n.session.shape.peers ≡ m.session.shape.peers = ap (λ (s : Session). s.shape.peers) same.session in
    let as-many : c.sign_notice.new.self.session.shape.peers ≡ n.session.shape.peers = ap (λ (s : Session). s.shape.peers) later.session in
    let none : length c.args.self.now.orders.list.items ≡ 0 = ap length c.requires.empty in
    let some : (length n.evictions.list.items == 0) ≡ false =
    ap (λ list. length list == 0) (sym c.evicted.ensures) ∙ sym c.is_empty.ensures ∙ c.if-is_empty.false in
    let first : slot_after (ticks log + 1) ≡ 0 = ap (λ ticks. slot_after (ticks + 1)) stood.time ∙ begins.0 in
    let high : round_after (ticks log + 1) ≤ m.session.shape.rounds = omega (arith, stood.time, begins.1) in
    let tells = c.sign_notice.ensures.tells with_manifest
    (record { time = t.time; table = t.table; manifests = t.manifests; notice = t.notice; evictions = t.evictions })
    (notice-unsaid (member_of m) (stream_of m) log signs first high) in
    both-stand m n _ _ c.send_to_all.new.orders.list.items log same
    (record { session = later.session; secrets = later.secrets; stream = later.stream })
    signs
    first
    high
    t
    some
    tells
    (from-none c.args.self.now.orders.list.items _ c.send_to_all.new.orders.list.items
    (c.send_to_all.ensures.sent with_manifest t (omega (arith, many, none, c.args.self.now.room)))
    c.requires.empty)
    (c.send_to_all-2.ensures.sent (Said (notice_now (member_of n) with_manifest) ∷ with_manifest) tells
    (omega (arith, many, as-many, none, c.send_to_all.ensures.few, c.send_to_all.ensures.room.room, c.args.self.now.room)))

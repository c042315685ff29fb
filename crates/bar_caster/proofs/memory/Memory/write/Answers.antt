-- What was said in this round is kept as signed.
use Rattle.std.proofs.Common.{◌≡◌, ◌<◌, ◌≤◌, ◌∙◌, ℕ, ◌-◌, List, Some, None, length, sym, ap, arith}
use Rattle.std.specs.Prelude.{option_copied, option_map}
use Rattle.std.specs.Borrow.{Bor}
use Rattle.bar_bytes.specs.Code.Rooms.{kept_in}
use Rattle.bar_wire.specs.Datagram.{Datagram}
use Rattle.bar_wire.specs.Limits.{largest_datagram}
use Rattle.bar_wire.specs.declared.kind.Kind.TheVariants as kinds
use Rattle.bar_session.specs.Time.{round_after}
use Rattle.bar_rules.specs.Member.{Session}
use Rattle.bar_rules.specs.Peer.Log.{round_now}
use Rattle.bar_rules.specs.Values.{datagram_bytes}
use Rattle.bar_caster.specs.Code.Memory.{member_of, said_of, stream_of}
use Rattle.bar_caster.specs.Code.Orders.{datagram_now}
use Rattle.bar_caster.proofs.memory.Memory.write.Goals as goal
use Rattle.bar_caster.proofs.memory.Memory.write.Goals.{in-Manifest+in_ok-bytes-in-Manifest, in-ManifestBefore+in_ok-bytes-in-ManifestBefore, in-Evictions+in_ok-bytes-in-Evictions}

too_long : (s : Session) (d : Datagram) (bytes kept : Bor (List ℕ)) (buf : List ℕ) → bytes ≡ kept → Some kept.now ≡ Some (datagram_bytes s d)
    → length (datagram_bytes s d) ≤ largest_datagram → largest_datagram ≤ length buf → length buf < length bytes.now → ⊥
too_long s d bytes kept buf same both short room long =
    let is : kept.now ≡ datagram_bytes s d = cc in
    omega (arith, ap (λ (b : Bor (List ℕ)). length b.now) same, ap length is, short, room, long)

pub returns-in-Block : goal.returns-in-Block
returns-in-Block c = λ log d tells now short.
    let m = c.args.self.now in
    c.write_block.ensures log d tells ((λ i. datagram_now (member_of m) (stream_of m) log c.args.order.peer (sym c.in-Block.is i)) ∙ now)

pub returns-in_err-bytes-in-Evictions : goal.returns-in_err-bytes-in-Evictions
returns-in_err-bytes-in-Evictions c = λ log d tells now short.
    let m = c.args.self.now in
    let kept = tells.notice d ((λ i. datagram_now (member_of m) (stream_of m) log c.args.order.peer (sym c.in-Evictions.is i)) ∙ now) in
    let none : None ≡ Some (datagram_bytes m.session d) = sym (ap option_copied c.in_err-bytes-in-Evictions.was) ∙ c.kept.ensures ∙ kept in
    absurd (cc)

pub returns-then-bytes-buf : goal.returns-then-bytes-buf
returns-then-bytes-buf c = λ log d tells now short.
    let m = c.args.self.now in
    let round : c.round-round.result ≡ round_now log = c.round-round.ensures ∙ sym (ap round_after tells.time) in
    elim c.match-order.branch [
      | in-Manifest+in_ok-bytes-in-Manifest w ↦
          let here : said_of kinds.Manifest (round_now log) log ≡ Some d =
          (λ i. datagram_now (member_of m) (stream_of m) log c.args.order.peer (sym w.in-Manifest.is i)) ∙ now in
          let both : Some w.in_ok-bytes-in-Manifest.bytes.now ≡ Some (datagram_bytes m.session d) =
          sym (ap option_copied w.in_ok-bytes-in-Manifest.was) ∙ w.get.ensures ∙ ap (kept_in m.manifests) round ∙ tells.manifests (round_now log)
          ∙ ap (option_map (datagram_bytes m.session)) here in
          too_long m.session d c.match-order.bytes w.in_ok-bytes-in-Manifest.bytes c.args.buf.now w.bytes-is both short c.requires.room
          c.if-bytes-buf.true
      | in-ManifestBefore+in_ok-bytes-in-ManifestBefore w ↦
          let here : said_of kinds.Manifest (round_now log - 1) log ≡ Some d =
          (λ i. datagram_now (member_of m) (stream_of m) log c.args.order.peer (sym w.in-ManifestBefore.is i)) ∙ now in
          let both : Some w.in_ok-bytes-in-ManifestBefore.bytes.now ≡ Some (datagram_bytes m.session d) =
          sym (ap option_copied w.in_ok-bytes-in-ManifestBefore.was) ∙ w.get-in-ManifestBefore.ensures
          ∙ ap (kept_in m.manifests) (w.saturating_sub.ensures ∙ ap (λ n. n - 1) round)
          ∙ tells.manifests (round_now log - 1)
          ∙ ap (option_map (datagram_bytes m.session)) here in
          too_long m.session d c.match-order.bytes w.in_ok-bytes-in-ManifestBefore.bytes c.args.buf.now w.bytes-is both short c.requires.room
          c.if-bytes-buf.true
      | in-Evictions+in_ok-bytes-in-Evictions w ↦
          let here : said_of kinds.Evict (round_now log) log ≡ Some d =
          (λ i. datagram_now (member_of m) (stream_of m) log c.args.order.peer (sym w.in-Evictions.is i)) ∙ now in
          let both : Some w.in_ok-bytes-in-Evictions.bytes.now ≡ Some (datagram_bytes m.session d) =
          sym (ap option_copied w.in_ok-bytes-in-Evictions.was) ∙ w.kept.ensures ∙ tells.notice d here in
          too_long m.session d c.match-order.bytes w.in_ok-bytes-in-Evictions.bytes c.args.buf.now w.bytes-is both short c.requires.room
          c.if-bytes-buf.true
    ]

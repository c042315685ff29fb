-- The round that begins gets its list and its manifest, and nothing of it was said before.
use Rattle.std.proofs.Common.{◌≡◌, ◌∙◌, ℕ, ◌+◌, ◌-◌, ◌*◌, ◌/◌, ◌<◌, ◌∷◌, true, List, None, length, take, is_some, refl, sym, ap, arith}
use Rattle.std.specs.List.{concat}
use Rattle.std.proofs.lemmas.Bool.{OnTrue_at}
use Rattle.std.proofs.lemmas.List.{length-take}
use Rattle.bar_terms.specs.Table.{digests_of}
use Rattle.bar_wire.specs.Datagram.{Manifest}
use Rattle.bar_rules.specs.Broadcaster.Stream.{manifest_list}
use Rattle.bar_rules.specs.Peer.Log.{Log, Said, Ticked, round_now, ticks}
use Rattle.bar_rules.specs.Values.{datagram_bytes}
use Rattle.bar_laws.specs.Broadcasting.{SignsOnce, manifest_of}
use Rattle.bar_caster.specs.Code.Memory.{member_of, stream_of}
use Rattle.bar_caster.specs.Code.StandsFor.{log_of}
use Rattle.bar_caster.specs.Code.Ticking.{begins_round}
use Rattle.bar_caster.proofs.Begun.{manifest_back, manifest_few, manifests_begun, notice_begun, signed_bytes, table_joins}
use Rattle.bar_caster.proofs.Grown.{next_round, no_list_yet, same_evictions}
use Rattle.bar_caster.proofs.memory.Memory.begin_round.Goals as goal

pub extend-requires-clause-few : goal.extend-requires-clause-few
extend-requires-clause-few g c =
    let m = c.args.self.now in
    let same = sym m.same_rounds in
    omega (
      arith,
      m.same_rounds,
      m.table_lists,
      c.from.ensures,
      c.write_digests-count.ensures.count m.session same,
      manifest_few m.session (stream_of m) c.round-round.result,
      length-take (32 * c.from.result) c.write_digests-count.new.out,
    )

pub keep-requires-clause-fits : goal.keep-requires-clause-fits
keep-requires-clause-fits g c =
    let m = c.args.self.now in
    let same = sym m.same_rounds in
    omega (
      arith,
      m.manifest_size,
      c.write_digests-count.ensures.count m.session same,
      manifest_few m.session (stream_of m) c.round-round.result,
      c.write_manifest-len.ensures.end,
      c.sign_behind-len.ensures.end,
      c.requires.signs.length_is,
      length-take c.sign_behind-len.result c.sign_behind-len.new.buf,
    )

pub returns-clause-tells : goal.returns-clause-tells
returns-clause-tells g c = λ inputs h.
    let m = c.args.self.now in
    let me = member_of m in
    let stream : List ℕ = stream_of m in
    let log : Log = log_of m inputs in
    let signs : SignsOnce me stream log = c.signs_once_a_round.ensures me stream m.is_broadcaster inputs in
    let begins : begins_round m.session (ticks log) ≡ true = ap (begins_round m.session) h.time ∙ c.requires.begins in
    let round : ℕ = c.round-round.result in
    let now : round ≡ round_now (Ticked ∷ log) = c.round-round.ensures ∙ (λ i. (sym h.time i + 1 + 7) / 8) in
    let next : round_now (Ticked ∷ log) ≡ round_now log + 1 = next_round m.session log begins in
    let later : round_now log < round = omega (arith, now, next) in
    let list : List (List ℕ) = manifest_list m.session stream round in
    let bytes : List ℕ = take (32 * c.from.result) c.write_digests-count.new.out in
    let many : c.write_digests-count.result ≡ length list = c.write_digests-count.ensures.count m.session (sym m.same_rounds) in
    let joined : bytes ≡ concat list =
    (λ i. take (32 * c.from.ensures i) c.write_digests-count.new.out)
    ∙ c.write_digests-count.ensures.digests m.session (sym m.same_rounds)
    in
    let back = manifest_back m.session stream round bytes joined in
    let none : digests_of m.table.lists round ≡ None = h.table round ∙ no_list_yet me stream log round later in
    let extended : c.extend.result ≡ true = c.extend.ensures.new.1 (ap is_some none) in
    let written : take c.sign_behind-len.result c.sign_behind-len.new.buf ≡ datagram_bytes m.session (manifest_of me stream round) =
    signed_bytes me (g.S.Scheme.signed c.args.scheme.now) (2 * (round - 1)) (Manifest round list) _ _ c.requires.signs.signs
    (c.write_manifest-len.ensures.written list many joined) c.sign_behind-len.ensures.signed
    in
    record {
      time = omega (arith, h.time);
      table = λ r.
          OnTrue_at extended c.extend.ensures.has r
          ∙ table_joins me stream log begins m.table.lists round bytes now back h.table r;
      manifests = λ r. c.keep.ensures.kept r ∙ manifests_begun m stream log signs round _ now later written h.manifests r;
      notice = notice_begun m stream log signs h.notice;
      evictions = same_evictions m.session m.evictions (Said (manifest_of me stream (round_now (Ticked ∷ log)))) (Ticked ∷ log) (λ q. refl)
          (same_evictions m.session m.evictions Ticked log (λ q. refl) h.evictions);
    }

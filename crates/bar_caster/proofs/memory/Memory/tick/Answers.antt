-- If a round begins now, nothing of it was said before.
use Rattle.std.proofs.Common.{◌≡◌, ◌∙◌, ◌+◌, false, sym, ap, refl, option_map}
use Rattle.bar_wire.specs.declared.kind.Kind.TheVariants as kinds
use Rattle.bar_rules.specs.Peer.Log.{Log, Ticked, has_kind_and_round, ticks}
use Rattle.bar_rules.specs.Values.{datagram_bytes}
use Rattle.bar_caster.specs.Code.Memory.{member_of, stream_of}
use Rattle.bar_caster.specs.Code.StandsFor.{log_of}
use Rattle.bar_caster.specs.Code.Ticking.{begins_round}
use Rattle.bar_caster.proofs.Grown.{same_said, same_evictions, table_ticked}
use Rattle.bar_caster.proofs.Begun.{notice_ticked}
use Rattle.bar_caster.proofs.memory.Memory.tick.Goals as goal

pub returns-clause-tells : goal.returns-clause-tells
returns-clause-tells c = λ inputs h.
    let m = c.args.self.now in
    let me = member_of m in
    let log : Log = log_of m inputs in
    let begins : begins_round m.session (ticks log) ≡ false = ap (begins_round m.session) h.time ∙ c.requires.begins in
    record {
      time = ap (λ n. n + 1) h.time;
      table = λ round. h.table round ∙ sym (table_ticked me (stream_of m) log begins round);
      manifests = λ round. h.manifests round
          ∙ ap (option_map (datagram_bytes m.session)) (sym (same_said (has_kind_and_round kinds.Manifest round) Ticked log refl));
      notice = notice_ticked m (stream_of m) log (c.signs_once_a_round.ensures me (stream_of m) m.is_broadcaster inputs) h.notice;
      evictions = same_evictions m.session m.evictions Ticked log (λ q. refl) h.evictions;
    }

-- A broadcaster as a core: its rules over its log, and the public view of it.
use Rattle.std.specs.Prelude.{◌≡◌, ℕ, List, [], length, map, option_map}
use Rattle.bar_core.specs.Code.Face.{Face}
use Rattle.bar_core.specs.Rules.{Rules, Send}
use Rattle.bar_core.specs.Code.Orders.{left_in}
use Rattle.bar_wire.specs.Datagram.{Datagram}
use Rattle.bar_wire.specs.Evidence.{evidence_bytes}
use Rattle.bar_wire.specs.declared.kind.Kind.TheVariants.{Manifest}
use Rattle.bar_rules.specs.Broadcaster.Sending.{caster_log_after, caster_step}
use Rattle.bar_session.specs.Time.{last_tick}
use Rattle.bar_rules.specs.Member.{Member}
use Rattle.bar_rules.specs.Peer.Log.{kept}
use Rattle.bar_rules.specs.Values.{datagram_bytes}
use Rattle.bar_caster.specs.declared.memory.Memory.{Memory}
use Rattle.bar_caster.specs.Code.Memory.{member_of, said_of, stream_of}
use Rattle.bar_caster.specs.Code.Orders.{Orders}
use Rattle.bar_caster.specs.Code.StandsFor.{Inputs, AreLeft}

abbrev pub caster_rules : Member → List ℕ → Rules
caster_rules me stream =
    record {
      last = last_tick me.session;
      sends =
          λ before input.
          map (λ send. (send.0, datagram_bytes me.session send.1)) (caster_step me stream (caster_log_after me stream before) input).sends;
      contents = λ before input. [];
      manifest = λ taken round. option_map (datagram_bytes me.session) (said_of Manifest round (caster_log_after me stream taken));
      evidence = λ taken party. option_map evidence_bytes (kept (caster_log_after me stream taken) party);
      rounds = me.session.shape.rounds;
      peers = me.session.shape.peers;
    }

-- the public view of a broadcaster with these orders
abbrev pub face_of : Memory → Orders → Face
face_of m o = record { rules = caster_rules (member_of m) (stream_of m); ticks = m.ticks; plays = []; left = length (left_in o) }

-- These are the bytes of the datagrams that are still to be given out.
pub record Owes (m : Memory) (o : Orders) (inputs : Inputs) (sends : List Send) : Type 0 where
  pub datagrams : List (ℕ × Datagram)
  pub owed : AreLeft m o inputs datagrams
  pub are : sends ≡ map (λ send. (send.0, datagram_bytes m.session send.1)) datagrams

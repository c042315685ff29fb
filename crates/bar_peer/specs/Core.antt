-- A peer as a core: the rules of a member over its log, and the public view of it.
use Rattle.std.specs.Prelude.{◌≡◌, ℕ, List, [], length, map, option_map}
use Rattle.bar_core.specs.Code.Face.{Face}
use Rattle.bar_core.specs.Rules.{Rules, Send}
use Rattle.bar_core.specs.Code.Orders.{left_in}
use Rattle.bar_wire.specs.Datagram.{Datagram}
use Rattle.bar_wire.specs.Evidence.{evidence_bytes}
use Rattle.bar_session.specs.Time.{last_tick}
use Rattle.bar_rules.specs.Member.{Member}
use Rattle.bar_rules.specs.Peer.Knowledge.{known}
use Rattle.bar_rules.specs.Peer.Run.{log_after, step}
use Rattle.bar_rules.specs.Values.{datagram_bytes}
use Rattle.bar_peer.specs.declared.memory.Memory.{Memory}
use Rattle.bar_peer.specs.declared.playing.Playing.{Playing}
use Rattle.bar_peer.specs.Code.Memory.{member_of}
use Rattle.bar_peer.specs.Code.Orders.{Orders}
use Rattle.bar_peer.specs.Code.StandsFor.{Inputs, AreLeft, contents_left}

abbrev pub peer_rules : Member → Rules
peer_rules me =
    record {
      last = last_tick me.session;
      sends =
          λ before input. map (λ send. (send.0, datagram_bytes me.session send.1)) (step me (log_after me [] before) input).sends;
      contents = λ before input. (step me (log_after me [] before) input).contents;
      manifest = λ taken round. option_map (datagram_bytes me.session) ((known me (log_after me [] taken)).manifest round);
      evidence = λ taken party. option_map evidence_bytes ((known me (log_after me [] taken)).evidence party);
      rounds = me.session.shape.rounds;
      peers = me.session.shape.peers;
    }

-- the public view of a peer with these orders and contents to be given out
abbrev pub face_of : Memory → Orders → Playing → Face
face_of m o playing =
    record { rules = peer_rules (member_of m.who); ticks = m.ticks; plays = contents_left m.store playing; left = length (left_in o) }

-- These are the bytes of the datagrams that are still to be given out.
pub record Owes (m : Memory) (o : Orders) (inputs : Inputs) (sends : List Send) : Type 0 where
  pub datagrams : List (ℕ × Datagram)
  pub owed : AreLeft m o inputs datagrams
  pub are : sends ≡ map (λ send. (send.0, datagram_bytes m.who.session send.1)) datagrams

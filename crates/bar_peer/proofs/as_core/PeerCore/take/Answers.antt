-- The sent bytes are those of the datagrams that the rules send, for the same member.
use Rattle.std.proofs.Common.{[], map, sym, ap}
use Rattle.bar_rules.specs.Peer.Run.{log_after, step}
use Rattle.bar_rules.specs.Values.{datagram_bytes}
use Rattle.bar_wire.specs.Inputs.{plain_input}
use Rattle.bar_peer.specs.Core.{peer_rules}
use Rattle.bar_peer.specs.Code.Memory.{member_of}
use Rattle.bar_peer.specs.declared.credentials.Credentials.{Credentials}
use Rattle.bar_peer.proofs.as_core.PeerCore.take.Goals as goal

pub returns : goal.returns
returns g c =
    let me = member_of c.args.self.now.memory.who in
    record {
      rules = ap (λ (who : Credentials). peer_rules (member_of who)) c.take_uncounted.ensures.who;
      stands = c.take_uncounted.ensures.stands;
      plays = c.take_uncounted.ensures.contents;
      sends = λ before stands. record {
        datagrams = (step me (log_after me [] before) (plain_input c.args.input)).sends;
        owed = c.take_uncounted.ensures.sends before stands;
        are =
            ap (λ (who : Credentials). map (λ send. (send.0, datagram_bytes who.session send.1)) (step me (log_after me [] before) (plain_input c.args.input)).sends)
            (sym c.take_uncounted.ensures.who);
      };
    }

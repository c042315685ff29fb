use Rattle.std.proofs.Common.{◌≡◌, ◌++◌, ◌∷◌, ◌∙◌, [], length, length-append, append_assoc, sym, ap, arith, rules}
use Rattle.bar_rules.specs.Members.{member_by}
use Rattle.bar_peer.specs.Core.{peer_rules, face_of}
use Rattle.bar_peer.specs.Code.StandsFor.{StandsFor}
use Rattle.bar_world.specs.Code.Cores.{IsNewCore}
use Rattle.bar_world.proofs.Started.{next-at, started-more}
use Rattle.bar_world.proofs.making.start_peers.Goals as goal

pub start_peer-requires-clause-key : goal.start_peer-requires-clause-key
start_peer-requires-clause-key c =
    c.requires.keys (length c.loop-key.yielded) c.in-Some.key
    (next-at c.args.keys.items c.loop-key.yielded _ _ c.in-Some.key c.loop-key.invariant.split c.in-Some.ensures.steps.0)

pub loop-key-preserved : goal.loop-key-preserved
loop-key-preserved c =
    let at = c.loop-key in
    let key = c.in-Some.key in
    let peer = c.in_ok-start_peer.field-0 in
    let grown : c.push.new.self.items ≡ at.peers.items ++ peer ∷ [] = search rules in
    let long : length at.peers.items ≡ length at.yielded = at.invariant.count in
    record {
      split = at.invariant.split ∙ ap (λ rest. at.yielded ++ rest) c.in-Some.ensures.steps.0 ∙ sym (append_assoc at.yielded (key ∷ []) _);
      count =
          omega (arith, long, ap length grown, length-append at.peers.items (peer ∷ []), length-append at.yielded (key ∷ []));
      peers =
          started-more at.peers.items c.push.new.self.items peer
          (λ peer key. IsNewCore (peer_rules (member_by c.args.session.now key.secrets)) (StandsFor peer.memory)
          (face_of peer.memory peer.orders peer.playing))
          c.args.keys.items (length at.yielded) key grown long
          (next-at c.args.keys.items at.yielded _ _ key at.invariant.split c.in-Some.ensures.steps.0)
          c.in_ok-start_peer.ensures at.invariant.peers;
    }

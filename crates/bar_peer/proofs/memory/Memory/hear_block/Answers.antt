use Rattle.std.proofs.Common.{◌≡◌, ◌≤◌, ◌+◌, ◌∙◌, true, sym, ap, subst, arith}
use Rattle.bar_window.specs.declared.update.UpdateId.{UpdateId}
use Rattle.bar_wire.specs.Datagram.{Datagram, Body, Block}
use Rattle.bar_wire.specs.Code.Views.{datagram, plain}
use Rattle.bar_session.specs.Time.{round_after}
use Rattle.bar_rules.specs.Member.{Member}
use Rattle.bar_rules.specs.Peer.Admission.{is_row_met}
use Rattle.bar_rules.specs.Peer.Knowledge.{this_round, learned}
use Rattle.bar_store.specs.Code.Holds.{Holds}
use Rattle.bar_peer.specs.Code.Memory.{member_of}
use Rattle.bar_peer.proofs.Hearing.Keys.{admitted_row}
use Rattle.bar_peer.proofs.Hearing.FromBroadcaster.{by_body, same_recalled, block_near}
use Rattle.bar_peer.proofs.memory.Memory.hear_block.Goals as goal

pub returns-then-round-now-clause-learns : goal.returns-then-round-now-clause-learns
returns-then-round-now-clause-learns c k h sound now is =
    let me : Member = member_of c.args.self.now.who in
    let v = c.args.arrival.now.view in
    let d : Datagram = datagram me.session.shape v in
    let w = c.in-Block in
    let id : UpdateId = record { round = w.round; index = w.index } in
    let body : d.message.body ≡ Block id w.block.now = ap plain w.is in
    let row = subst (λ (b : Body). is_row_met me k v.from v.to b ≡ true) body (admitted_row me k d now.admitted) in
    let new = c.add_block.ensures.row me k v.from v.to h.store ∙ row in
    let store : Holds me (learned me d k d.message.body) c.add_block.new.self = c.add_block.ensures.learns new me k d h.store body in
    by_body me k d (Block id w.block.now) _ body (record {
      time = h.time;
      store = subst (λ (b : Body). Holds me (learned me d k b) c.add_block.new.self) body store;
      ledger = same_recalled me k c.args.self.now.ledger _ _ _ _ h.ledger;
      manifests = h.manifests;
      evictions = h.evictions;
      announced = h.announced;
      evidence = h.evidence;
    })

pub returns-else-round-now-clause-learns : goal.returns-else-round-now-clause-learns
returns-else-round-now-clause-learns c k h sound now is =
    let me : Member = member_of c.args.self.now.who in
    let v = c.args.arrival.now.view in
    let d : Datagram = datagram me.session.shape v in
    let w = c.in-Block in
    let id : UpdateId = record { round = w.round; index = w.index } in
    let body : d.message.body ≡ Block id w.block.now = ap plain w.is in
    let row = subst (λ (b : Body). is_row_met me k v.from v.to b ≡ true) body (admitted_row me k d now.admitted) in
    let near : w.round ≤ this_round k + 1 = block_near me k v.from v.to id w.block.now sound row in
    let round : c.round-now.result ≡ this_round k = c.round-now.ensures ∙ ap round_after (sym h.time) in
    absurd (omega (arith, near, round, c.if-round-now.false))

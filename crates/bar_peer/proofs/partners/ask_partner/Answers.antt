use Rattle.std.proofs.Common.{◌≡◌, ◌∙◌, true, false, List, [], ◌∷◌, ◌++◌, sym, ap, subst, arith}
use Rattle.std.specs.Prelude.{if◌then◌else◌}
use Rattle.bar_window.specs.declared.exchange.Exchange.{Exchange}
use Rattle.bar_session.specs.Time.{round_after}
use Rattle.bar_rules.specs.Member.{Member}
use Rattle.bar_rules.specs.Peer.Exchanges.{request_kind}
use Rattle.bar_rules.specs.Peer.Knowledge.{known, this_round}
use Rattle.bar_rules.specs.Peer.Orders.{Order, Ask}
use Rattle.bar_rules.specs.Peer.Rules.{IsObedient}
use Rattle.bar_rules.specs.Peer.Run.{Out, perform, perform_all}
use Rattle.bar_rules.specs.Peer.Ticks.{asking_partner}
use Rattle.bar_rules.specs.Secrets.{partner_of, seed_of}
use Rattle.bar_laws.proofs.Logs.{role-initiator}
use Rattle.bar_peer.specs.declared.order.Order.TheVariants as queued
use Rattle.bar_peer.specs.Code.Memory.{member_of}
use Rattle.bar_peer.specs.Code.Sending.{IsTimely, IsCarriedOut, HasOutcome}
use Rattle.bar_peer.specs.Code.Ticking.{is_unasked}
use Rattle.bar_peer.proofs.Ticking.Partner.{partner_is, none_asked, one_asked, asks_timely, carried_stands}
use Rattle.bar_peer.proofs.Orders.Growth.{grows}
use Rattle.bar_peer.proofs.partners.ask_partner.Goals as goal

pub returns-then-is_unasked-clause-stands : goal.returns-then-is_unasked-clause-stands
returns-then-is_unasked-clause-stands c = λ out before same obedient h room.
    let m = c.args.memory.now in
    let me : Member = member_of m.who in
    let to : c.partner-to.result ≡ partner_of me.session (seed_of me (round_after m.ticks)) c.args.kind me.party =
    partner_is m.who c.shape-shape.result c.round-round.result (round_after m.ticks) c.args.kind c.seed-seed.result c.partner-to.result
    c.shape-shape.ensures.value
    c.round-round.ensures
    c.seed-seed.ensures.value
    c.partner-to.ensures.value
    in
    let unasked : is_unasked me before c.partner-to.result ≡ true =
    same c.partner-to.result ∙ sym (c.is_unasked.ensures (known me out.state) h.tells) ∙ c.if-is_unasked.true
    in
    subst (λ (os : List Order). HasOutcome (perform_all me out os) m c.args.orders.now)
    (none_asked me before (round_after m.ticks) c.args.kind c.partner-to.result to unasked)
    h

pub returns-then-ask-clause-stands : goal.returns-then-ask-clause-stands
returns-then-ask-clause-stands c = λ out before same obedient h room.
    let m = c.args.memory.now in
    let me : Member = member_of m.who in
    let to : c.partner-to.result ≡ partner_of me.session (seed_of me (round_after m.ticks)) c.args.kind me.party =
    partner_is m.who c.shape-shape.result c.round-round.result (round_after m.ticks) c.args.kind c.seed-seed.result c.partner-to.result
    c.shape-shape.ensures.value
    c.round-round.ensures
    c.seed-seed.ensures.value
    c.partner-to.ensures.value
    in
    let x : Exchange = c.exchange_by-x.result in
    let after : Out = perform me out (Ask x) in
    let asked : is_unasked me before c.partner-to.result ≡ false =
    same c.partner-to.result ∙ sym (c.is_unasked.ensures (known me out.state) h.tells) ∙ c.if-is_unasked.false
    in
    let x_is : x ≡ record { round = round_after m.ticks; kind = c.args.kind; initiator = me.party; responder = c.partner-to.result } =
    c.exchange_by-x.ensures
    ∙ (λ i. record {
      round = c.round-round.ensures i;
      kind = c.args.kind;
      initiator = me.party;
      responder = c.partner-to.result;
    })
    in
    let is : Ask x ∷ [] ≡ asking_partner me before (round_after m.ticks) c.args.kind =
    one_asked me before (round_after m.ticks) c.args.kind c.partner-to.result x to asked x_is
    in
    let first : x.initiator ≡ me.party = ap (λ (y : Exchange). y.initiator) x_is in
    let now : x.round ≡ this_round (known me out.state) = ap (λ (y : Exchange). y.round) x_is ∙ ap round_after (sym h.tells.time) in
    let timely : IsTimely me (known me out.state) (record { kind = request_kind x.kind; x = x }) =
    asks_timely me (known me out.state) x now
    in
    let allowed : IsObedient me after.state =
    subst (λ (os : List Order). IsObedient me (perform_all me out os).state) (sym is) obedient
    in
    let done : IsCarriedOut me (record { kind = request_kind x.kind; x = x }) out after c.ask.result c.ask.new.self =
    c.ask.ensures.carried_out out allowed h.tells now (role-initiator me x first)
    in
    subst (λ (os : List Order). HasOutcome (perform_all me out os) c.ask.new.self c.push.new.self) is
    (carried_stands m c.ask.new.self c.args.orders.now c.push.new.self out after
    (record { kind = request_kind x.kind; x = x })
    c.ask.result
    c.ask.ensures.party.who
    (grows me out (Ask x))
    timely
    h
    done
    (c.push.ensures.pushed (omega arith)
    ∙ (λ i. c.args.orders.now.list.items ++ queued.Say (c.request.ensures i) ∷ [])
    ∙ (λ i. if sym c.if-ask.true i
    then c.args.orders.now.list.items ++ queued.Say (record { kind = request_kind x.kind; x = x }) ∷ []
    else c.args.orders.now.list.items)))

pub returns-else-ask-clause-stands : goal.returns-else-ask-clause-stands
returns-else-ask-clause-stands c = λ out before same obedient h room.
    let m = c.args.memory.now in
    let me : Member = member_of m.who in
    let to : c.partner-to.result ≡ partner_of me.session (seed_of me (round_after m.ticks)) c.args.kind me.party =
    partner_is m.who c.shape-shape.result c.round-round.result (round_after m.ticks) c.args.kind c.seed-seed.result c.partner-to.result
    c.shape-shape.ensures.value
    c.round-round.ensures
    c.seed-seed.ensures.value
    c.partner-to.ensures.value
    in
    let x : Exchange = c.exchange_by-x.result in
    let after : Out = perform me out (Ask x) in
    let asked : is_unasked me before c.partner-to.result ≡ false =
    same c.partner-to.result ∙ sym (c.is_unasked.ensures (known me out.state) h.tells) ∙ c.if-is_unasked.false
    in
    let x_is : x ≡ record { round = round_after m.ticks; kind = c.args.kind; initiator = me.party; responder = c.partner-to.result } =
    c.exchange_by-x.ensures
    ∙ (λ i. record {
      round = c.round-round.ensures i;
      kind = c.args.kind;
      initiator = me.party;
      responder = c.partner-to.result;
    })
    in
    let is : Ask x ∷ [] ≡ asking_partner me before (round_after m.ticks) c.args.kind =
    one_asked me before (round_after m.ticks) c.args.kind c.partner-to.result x to asked x_is
    in
    let first : x.initiator ≡ me.party = ap (λ (y : Exchange). y.initiator) x_is in
    let now : x.round ≡ this_round (known me out.state) = ap (λ (y : Exchange). y.round) x_is ∙ ap round_after (sym h.tells.time) in
    let timely : IsTimely me (known me out.state) (record { kind = request_kind x.kind; x = x }) =
    asks_timely me (known me out.state) x now
    in
    let allowed : IsObedient me after.state =
    subst (λ (os : List Order). IsObedient me (perform_all me out os).state) (sym is) obedient
    in
    let done : IsCarriedOut me (record { kind = request_kind x.kind; x = x }) out after c.ask.result c.ask.new.self =
    c.ask.ensures.carried_out out allowed h.tells now (role-initiator me x first)
    in
    subst (λ (os : List Order). HasOutcome (perform_all me out os) c.ask.new.self c.args.orders.now) is
    (carried_stands m c.ask.new.self c.args.orders.now c.args.orders.now out after
    (record { kind = request_kind x.kind; x = x })
    c.ask.result
    c.ask.ensures.party.who
    (grows me out (Ask x))
    timely
    h
    done
    (λ i. if sym c.if-ask.false i
    then c.args.orders.now.list.items ++ queued.Say (record { kind = request_kind x.kind; x = x }) ∷ []
    else c.args.orders.now.list.items))

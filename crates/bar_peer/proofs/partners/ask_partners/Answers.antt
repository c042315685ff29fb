use Rattle.std.proofs.Common.{◌≡◌, ◌∙◌, ℕ, true, false, nat_lt, length, take, sym, ap, subst, arith}
use Rattle.std.proofs.lemmas.Bool.{lt-ltb, le-ltb}
use Rattle.bar_window.specs.Code.Window.{members}
use Rattle.bar_window.specs.declared.exchange.XKind.TheVariants.{Push}
use Rattle.bar_session.specs.Time.{round_after}
use Rattle.bar_rules.specs.Member.{Member}
use Rattle.bar_rules.specs.Peer.Choices.{young_of}
use Rattle.bar_rules.specs.Peer.Knowledge.{Knowledge, known, this_round}
use Rattle.bar_peer.specs.declared.credentials.Credentials.{Credentials}
use Rattle.bar_peer.specs.Code.Memory.{member_of}
use Rattle.bar_peer.specs.Code.Ticking.{AsksPartner}
use Rattle.bar_peer.proofs.Ticking.Requests.{both_asked, balanced_asked}
use Rattle.bar_peer.proofs.partners.ask_partners.Goals as goal

pub returns-then-size-gt0-clause-stands : goal.returns-then-size-gt0-clause-stands
returns-then-size-gt0-clause-stands c = λ out obedient h room.
    let m = c.args.memory.now in
    let me : Member = member_of m.who in
    let k : Knowledge = known me out.state in
    let round : ℕ = round_after m.ticks in
    let now : this_round k ≡ c.round-round.result = ap round_after h.tells.time ∙ sym c.round-round.ensures in
    let young : members c.first-young.result ≡ young_of me k round =
    c.first-young.ensures.members
    ∙ (λ i. take (c.cap.ensures i) (members c.young.result))
    ∙ c.young.ensures.known me k h.tells.store (omega arith)
    ∙ ap (young_of me k) c.round-round.ensures
    in
    let some : nat_lt 0 (length (young_of me k round)) ≡ true =
    lt-ltb 0 (length (young_of me k round)) (omega (arith, c.if-size-gt0.true, c.size.ensures, ap length young))
    in
    let n = c.ask_partner.new.memory in
    let p = c.ask_partner.new.orders in
    let q = c.ask_partner-then-size-gt0.new.memory in
    let r = c.ask_partner-then-size-gt0.new.orders in
    let push : AsksPartner m.who round Push n p q r =
    subst (λ (who : Credentials). AsksPartner who round Push n p q r) c.ask_partner.ensures.party.who
    (subst (λ (ticks : ℕ). AsksPartner n.who (round_after ticks) Push n p q r) c.ask_partner.ensures.party.ticks
    c.ask_partner-then-size-gt0.ensures.stands)
    in
    both_asked m.who round m n q c.args.orders.now p r c.ask_partner.ensures.stands push
    c.ask_partner.ensures.length c.ask_partner.ensures.room.room out (ap round_after (sym h.tells.time)) some obedient h room

pub returns-else-size-gt0-clause-stands : goal.returns-else-size-gt0-clause-stands
returns-else-size-gt0-clause-stands c = λ out obedient h room.
    let m = c.args.memory.now in
    let me : Member = member_of m.who in
    let k : Knowledge = known me out.state in
    let round : ℕ = round_after m.ticks in
    let now : this_round k ≡ c.round-round.result = ap round_after h.tells.time ∙ sym c.round-round.ensures in
    let young : members c.first-young.result ≡ young_of me k round =
    c.first-young.ensures.members
    ∙ (λ i. take (c.cap.ensures i) (members c.young.result))
    ∙ c.young.ensures.known me k h.tells.store (omega arith)
    ∙ ap (young_of me k) c.round-round.ensures
    in
    let none : nat_lt 0 (length (young_of me k round)) ≡ false =
    le-ltb 0 (length (young_of me k round)) (omega (arith, c.if-size-gt0.false, c.size.ensures, ap length young))
    in
    balanced_asked m.who round m c.ask_partner.new.memory c.args.orders.now c.ask_partner.new.orders c.ask_partner.ensures.stands
    out none obedient h room

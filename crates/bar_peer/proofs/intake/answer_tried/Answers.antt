use Rattle.std.proofs.Common.{◌≡◌, ◌<◌, ◌∙◌, List, ℕ, Option, is_some, length, sym, ap, subst, arith}
use Rattle.std.proofs.lemmas.Bool.{false≢true}
use Rattle.bar_wire.specs.Datagram.{Datagram}
use Rattle.bar_wire.specs.Code.Views.{datagram}
use Rattle.bar_rules.specs.Member.{Member}
use Rattle.bar_rules.specs.Peer.Evidence.{new_evidence}
use Rattle.bar_rules.specs.Peer.Knowledge.{known}
use Rattle.bar_rules.specs.Peer.Run.{answered_to, with_evidence}
use Rattle.bar_peer.specs.declared.credentials.Credentials.{Credentials}
use Rattle.bar_peer.specs.Code.Memory.{member_of}
use Rattle.bar_peer.specs.Code.Sending.{HasOutcome}
use Rattle.bar_rules.specs.Peer.Replies.{repeated}
use Rattle.bar_rules.specs.Peer.Rules.{IsObedient}
use Rattle.bar_peer.specs.declared.memory.Memory.{Memory}
use Rattle.bar_peer.specs.Code.Memory.{Represents}
use Rattle.bar_peer.proofs.Stepping.Ignored.{TellsNothing, nothing-told}
use Rattle.bar_peer.proofs.Stepping.Datagrams.{AreObedient, Answers, admitted-still, obeyed, tried-stands, untried-stands}
use Rattle.bar_peer.proofs.intake.answer_tried.Goals as goal

pub returns-then-is_found-clause-stands : goal.returns-then-is_found-clause-stands
returns-then-is_found-clause-stands g c log catches obeys tells tried weighed empty room =
    let who = c.args.memory.now.who in
    let me : Member = member_of who in
    let v = c.args.arrival.now.view in
    let d : Datagram = datagram who.session.shape v in
    let ev : Option (List (List ℕ)) = new_evidence me (known me log) d in
    let all : AreObedient me log d v.from ev = obeyed me log d v.from ev obeys in
    let kept = c.keep_found-is_found.ensures.kept log catches all.kept all.first tells tried in
    let same = c.keep_found-is_found.ensures.rest.who in
    let stands : HasOutcome (answered_to me (with_evidence me log v.from ev) d) c.answer-is_same.new.memory c.answer-is_same.new.orders =
    subst (λ (w : Credentials). Answers w v c.keep_found-is_found.new.self c.args.orders.now c.args.is_admitted c.answer-is_same.new.memory c.answer-is_same.new.orders) same
    c.answer-is_same.ensures.stands
    (with_evidence me log v.from ev)
    all.answered
    kept.1
    (weighed ∙ admitted-still c.knowledge_is_enough.ensures.entry me log v.from ev d)
    empty
    (omega (arith, room))
    in
    let free : length c.answer-is_same.new.orders.list.items < c.answer-is_same.new.orders.room =
    omega (arith, c.answer-is_same.ensures.length empty, c.answer-is_same.ensures.room.room, room)
    in
    tried-stands c.args.memory.now c.answer-is_same.new.memory c.answer-is_same.new.orders c.push.new.self log d v.from ev (c.answer-is_same.ensures.party.who ∙ same) stands all
    (sym kept.0 ∙ c.if-is_found.true)
    (c.push.ensures.pushed free)

pub returns-else-is_found-clause-stands : goal.returns-else-is_found-clause-stands
returns-else-is_found-clause-stands g c log catches obeys tells tried weighed empty room =
    let who = c.args.memory.now.who in
    let me : Member = member_of who in
    let v = c.args.arrival.now.view in
    let d : Datagram = datagram who.session.shape v in
    let ev : Option (List (List ℕ)) = new_evidence me (known me log) d in
    let all : AreObedient me log d v.from ev = obeyed me log d v.from ev obeys in
    let kept = c.keep_found-is_found.ensures.kept log catches all.kept all.first tells tried in
    let same = c.keep_found-is_found.ensures.rest.who in
    let stands : HasOutcome (answered_to me (with_evidence me log v.from ev) d) c.answer-is_same.new.memory c.answer-is_same.new.orders =
    subst (λ (w : Credentials). Answers w v c.keep_found-is_found.new.self c.args.orders.now c.args.is_admitted c.answer-is_same.new.memory c.answer-is_same.new.orders) same
    c.answer-is_same.ensures.stands
    (with_evidence me log v.from ev)
    all.answered
    kept.1
    (weighed ∙ admitted-still c.knowledge_is_enough.ensures.entry me log v.from ev d)
    empty
    (omega (arith, room))
    in
    untried-stands me c.answer-is_same.new.memory c.answer-is_same.new.orders log d v.from ev stands (sym kept.0 ∙ c.if-is_found.false)

pub returns-then-is_found-clause-idle : goal.returns-then-is_found-clause-idle
returns-then-is_found-clause-idle g c refused log catches obeys tells tried idle =
    let who = c.args.memory.now.who in
    let me : Member = member_of who in
    let v = c.args.arrival.now.view in
    let d : Datagram = datagram who.session.shape v in
    let none : TellsNothing me (known me log) d = nothing-told me (known me log) d idle in
    let obeyed_still : IsObedient me (with_evidence me log v.from (new_evidence me (known me log) d)) =
    subst (λ (e : Option (List (List ℕ))). IsObedient me (with_evidence me log v.from e)) (sym none.unshown) obeys in
    let kept = c.keep_found-is_found.ensures.kept log catches obeyed_still obeys tells tried in
    absurd (false≢true (sym (ap is_some none.unshown) ∙ sym kept.0 ∙ c.if-is_found.true))

pub returns-else-is_found-clause-idle : goal.returns-else-is_found-clause-idle
returns-else-is_found-clause-idle g c refused log catches obeys tells tried idle =
    let who = c.args.memory.now.who in
    let me : Member = member_of who in
    let v = c.args.arrival.now.view in
    let d : Datagram = datagram who.session.shape v in
    let none : TellsNothing me (known me log) d = nothing-told me (known me log) d idle in
    let same : c.keep_found-is_found.new.self ≡ c.args.memory.now = c.keep_found-is_found.ensures.none c.if-is_found.false in
    c.answer-is_same.ensures.idle log
    (subst (λ (m : Memory). IsObedient (member_of m.who) log) (sym same) obeys)
    (subst (λ (m : Memory). Represents log m) (sym same) tells)
    refused
    (ap (λ (m : Memory). repeated (member_of m.who) (known (member_of m.who) log) (datagram m.who.session.shape v)) same ∙ none.unlike)
    ∙ same

use Rattle.std.proofs.Common.{◌≡◌, ◌∙◌, List, ℕ, Option, None, sym, subst, arith}
use Rattle.bar_wire.specs.Datagram.{Datagram}
use Rattle.bar_wire.specs.Code.Views.{datagram}
use Rattle.bar_rules.specs.Member.{Member}
use Rattle.bar_rules.specs.Peer.Evidence.{new_evidence}
use Rattle.bar_rules.specs.Peer.Knowledge.{Knowledge, known}
use Rattle.bar_rules.specs.Peer.Rules.{IsObedient}
use Rattle.bar_rules.specs.Peer.Run.{answered_to, report_new, with_evidence}
use Rattle.bar_laws.specs.Soundness.{IsSound}
use Rattle.bar_peer.specs.Code.Memory.{member_of}
use Rattle.bar_peer.specs.Code.Sending.{HasOutcome}
use Rattle.bar_peer.proofs.Stepping.Ignored.{TellsNothing, nothing-told}
use Rattle.bar_peer.proofs.Stepping.Guards.{checks_again, checks_more, remembers_still}
use Rattle.bar_peer.proofs.Stepping.Datagrams.{AreObedient, obeyed, none-new}
use Rattle.bar_peer.proofs.intake.take_arrival.Goals as goal

pub returns-then-weighed-clause-stands : goal.returns-then-weighed-clause-stands
returns-then-weighed-clause-stands g c log catches obeys tells empty room =
    let me : Member = member_of c.args.memory.now.who in
    let d : Datagram = datagram c.args.memory.now.who.session.shape c.args.arrival.now.view in
    let k : Knowledge = known me log in
    let ev : Option (List (List ℕ)) = new_evidence me k d in
    let all : AreObedient me log d c.args.arrival.now.view.from ev = obeyed me log d c.args.arrival.now.view.from ev obeys in
    let sound : IsSound me k = c.logs_are_sound.ensures me log all.first in
    c.answer_tried.ensures.stands log catches obeys tells (sym (c.weigh-weighed.ensures.tried k tells sound) ∙ c.if-weighed.true)
    (c.weigh-weighed.ensures.admitted k tells sound)
    empty
    room

pub returns-else-weighed-clause-stands : goal.returns-else-weighed-clause-stands
returns-else-weighed-clause-stands g c log catches obeys tells empty room =
    let me : Member = member_of c.args.memory.now.who in
    let d : Datagram = datagram c.args.memory.now.who.session.shape c.args.arrival.now.view in
    let q : ℕ = c.args.arrival.now.view.from in
    let k : Knowledge = known me log in
    let ev : Option (List (List ℕ)) = new_evidence me k d in
    let all : AreObedient me log d q ev = obeyed me log d q ev obeys in
    let sound : IsSound me k = c.logs_are_sound.ensures me log all.first in
    let none : ev ≡ None = none-new me k d (sym (c.weigh-weighed.ensures.tried k tells sound) ∙ c.if-weighed.false) in
    let answered : IsObedient me (answered_to me log d).state =
    subst (λ (e : Option (List (List ℕ))). IsObedient me (answered_to me (with_evidence me log q e) d).state) none all.answered
    in
    subst
    (λ (e : Option (List (List ℕ))). HasOutcome (report_new me (answered_to me (with_evidence me log q e) d) q e) c.answer.new.memory c.answer.new.orders)
    (sym none)
    (c.answer.ensures.stands log answered tells (c.weigh-weighed.ensures.admitted k tells sound) empty (omega (arith, room)))

pub returns-then-weighed-clause-idle : goal.returns-then-weighed-clause-idle
returns-then-weighed-clause-idle g c log catches obeys tells idle =
    let me : Member = member_of c.args.memory.now.who in
    let d : Datagram = datagram c.args.memory.now.who.session.shape c.args.arrival.now.view in
    let k : Knowledge = known me log in
    let sound : IsSound me k = c.logs_are_sound.ensures me log obeys in
    let none : TellsNothing me k d = nothing-told me k d idle in
    c.answer_tried.ensures.idle (c.weigh-weighed.ensures.admitted k tells sound ∙ none.refused) log catches obeys tells
    (sym (c.weigh-weighed.ensures.tried k tells sound) ∙ c.if-weighed.true) idle

pub returns-else-weighed-clause-idle : goal.returns-else-weighed-clause-idle
returns-else-weighed-clause-idle g c log catches obeys tells idle =
    let me : Member = member_of c.args.memory.now.who in
    let d : Datagram = datagram c.args.memory.now.who.session.shape c.args.arrival.now.view in
    let k : Knowledge = known me log in
    let sound : IsSound me k = c.logs_are_sound.ensures me log obeys in
    let none : TellsNothing me k d = nothing-told me k d idle in
    c.answer.ensures.idle log obeys tells (c.weigh-weighed.ensures.admitted k tells sound ∙ none.refused) none.unlike

pub returns-then-weighed-clause-checks : goal.returns-then-weighed-clause-checks
returns-then-weighed-clause-checks g c = checks_again c.weigh-weighed.ensures.checks c.answer_tried.ensures.checks

pub returns-else-weighed-clause-checks : goal.returns-else-weighed-clause-checks
returns-else-weighed-clause-checks g c = checks_more c.weigh-weighed.ensures.checks

pub returns-then-weighed-clause-remembers : goal.returns-then-weighed-clause-remembers
returns-then-weighed-clause-remembers g c log obeys tells admits =
    let me : Member = member_of c.args.memory.now.who in
    let sound : IsSound me (known me log) = c.logs_are_sound.ensures me log obeys in
    remembers_still (c.weigh-weighed.ensures.remembers (c.weigh-weighed.ensures.admitted (known me log) tells sound ∙ admits))
    c.answer_tried.ensures.checks

pub returns-else-weighed-clause-remembers : goal.returns-else-weighed-clause-remembers
returns-else-weighed-clause-remembers g c log obeys tells admits =
    let me : Member = member_of c.args.memory.now.who in
    let sound : IsSound me (known me log) = c.logs_are_sound.ensures me log obeys in
    c.weigh-weighed.ensures.remembers (c.weigh-weighed.ensures.admitted (known me log) tells sound ∙ admits)

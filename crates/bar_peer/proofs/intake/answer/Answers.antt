use Rattle.std.proofs.Common.{◌≡◌, ◌∙◌, ◌∷◌, true, false, sym, ap, subst}
use Rattle.std.proofs.lemmas.Bool.{false≢true}
use Rattle.bar_wire.specs.Datagram.{Datagram}
use Rattle.bar_wire.specs.Code.Views.{datagram}
use Rattle.bar_rules.specs.Member.{Member}
use Rattle.bar_rules.specs.Peer.Admission.{is_admitted}
use Rattle.bar_rules.specs.Peer.Knowledge.{known}
use Rattle.bar_rules.specs.Peer.Log.{Heard}
use Rattle.bar_rules.specs.Peer.Replies.{reply_orders}
use Rattle.bar_rules.specs.Peer.Rules.{IsObedient}
use Rattle.bar_rules.specs.Runs.{begun}
use Rattle.std.specs.Bool.{then_some}
use Rattle.bar_laws.specs.Soundness.{IsSound}
use Rattle.bar_balanced.specs.Code.Balanced.{AreSpelled}
use Rattle.bar_peer.specs.Code.Memory.{member_of}
use Rattle.bar_peer.specs.Code.Sending.{HasOutcome}
use Rattle.bar_peer.proofs.Replying.Answering.{nothing-changed, answered-before, answered-new, answered-again, new-replied, repeat-answered, not-repeated, apart, received}
use Rattle.bar_laws.proofs.Fitting.{perform_all-before}
use Rattle.bar_peer.proofs.Orders.Sendings.{none_stand}
use Rattle.bar_peer.proofs.intake.answer.Goals as goal

pub returns-then-is_admitted-clause-stands : goal.returns-then-is_admitted-clause-stands
returns-then-is_admitted-clause-stands c log obeys tells weighed empty room =
    let me : Member = member_of c.args.memory.now.who in
    let d : Datagram = datagram c.args.memory.now.who.session.shape c.args.arrival.now.view in
    let admitted : is_admitted me (known me log) d ≡ true = sym weighed ∙ c.if-is_admitted.true in
    let is = answered-new me log d admitted in
    let now = subst (λ out. IsObedient me out.state) is obeys in
    let heard : IsObedient me (Heard d ∷ log) =
    perform_all-before me (reply_orders me (known me (Heard d ∷ log)) true d) (begun (Heard d ∷ log)) now
    in
    subst (λ out. HasOutcome out c.reply.new.memory c.reply.new.orders) (sym is)
    (new-replied log d c.args.memory.now c.hear.new.self c.reply.new.memory c.args.orders.now c.reply.new.orders c.says_to-says.result
    c.args.memory.now.who.is_member c.says_to-says.ensures.fitting (apart c.args.memory.now.who.session.shape d me.party c.requires.view.spelled.fits (received me (known me log) d admitted)) c.hear.ensures.party.who admitted (c.hear.ensures.learns log heard tells) c.says_to-says.ensures.orders c.reply.ensures.stands empty room now)

pub returns-then-is_repeat-clause-stands : goal.returns-then-is_repeat-clause-stands
returns-then-is_repeat-clause-stands c log obeys tells weighed empty room =
    let me : Member = member_of c.args.memory.now.who in
    let d : Datagram = datagram c.args.memory.now.who.session.shape c.args.arrival.now.view in
    let before : IsObedient me log = answered-before me log d obeys in
    let sound : IsSound me (known me log) = c.logs_are_sound.ensures me log before in
    let spelled : AreSpelled me (known me log) = record { spelled = sound.spelled } in
    let refused : is_admitted me (known me log) d ≡ false = sym weighed ∙ c.if-is_admitted.false in
    let is = answered-again me log d refused in
    subst (λ out. HasOutcome out c.reply-then-is_repeat.new.memory c.reply-then-is_repeat.new.orders) (sym is)
    (repeat-answered log d c.args.memory.now c.reply-then-is_repeat.new.memory c.args.orders.now c.reply-then-is_repeat.new.orders
    c.says_to-says-then-is_repeat.result c.args.arrival.now.bytes.now c.args.memory.now.who.is_member sound c.bytes_spell_one.ensures c.requires.view.spelled
    c.says_to-says-then-is_repeat.ensures.fitting c.says_to-says-then-is_repeat.ensures.orders c.reply-then-is_repeat.ensures.stands
    (λ in_time. c.is_repeat.ensures (known me log) tells spelled in_time ∙ ap (λ b. then_some b d) c.if-is_repeat.true) tells empty room
    (subst (λ out. IsObedient me out.state) is obeys))

pub returns-else-is_repeat-clause-stands : goal.returns-else-is_repeat-clause-stands
returns-else-is_repeat-clause-stands c log obeys tells weighed empty room =
    let me : Member = member_of c.args.memory.now.who in
    let d : Datagram = datagram c.args.memory.now.who.session.shape c.args.arrival.now.view in
    let before : IsObedient me log = answered-before me log d obeys in
    let sound : IsSound me (known me log) = c.logs_are_sound.ensures me log before in
    let spelled : AreSpelled me (known me log) = record { spelled = sound.spelled } in
    let refused : is_admitted me (known me log) d ≡ false = sym weighed ∙ c.if-is_admitted.false in
    let is = answered-again me log d refused in
    subst (λ out. HasOutcome out c.args.memory.now c.args.orders.now) (sym (is ∙ not-repeated me log d c.args.arrival.now.bytes.now c.args.memory.now.who.is_member sound
    c.bytes_spell_one.ensures c.requires.view.spelled
    (λ in_time. c.is_repeat.ensures (known me log) tells spelled in_time ∙ ap (λ b. then_some b d) c.if-is_repeat.false)))
    (none_stand log c.args.memory.now c.args.orders.now tells empty)

pub returns-then-is_admitted-clause-idle : goal.returns-then-is_admitted-clause-idle
returns-then-is_admitted-clause-idle c log obeys tells refused none = absurd (false≢true (sym refused ∙ c.if-is_admitted.true))

pub returns-then-is_repeat-clause-idle : goal.returns-then-is_repeat-clause-idle
returns-then-is_repeat-clause-idle c log obeys tells refused none =
    let me : Member = member_of c.args.memory.now.who in
    let d : Datagram = datagram c.args.memory.now.who.session.shape c.args.arrival.now.view in
    let sound : IsSound me (known me log) = c.logs_are_sound.ensures me log obeys in
    let spelled : AreSpelled me (known me log) = record { spelled = sound.spelled } in
    nothing-changed log d c.args.memory.now c.reply-then-is_repeat.new.memory c.says_to-says-then-is_repeat.result c.args.memory.now.who.is_member
    c.says_to-says-then-is_repeat.ensures.orders c.reply-then-is_repeat.ensures.nothing
    (λ in_time. c.is_repeat.ensures (known me log) tells spelled in_time ∙ ap (λ b. then_some b d) c.if-is_repeat.true) tells none

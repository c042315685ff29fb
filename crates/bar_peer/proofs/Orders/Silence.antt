-- Carrying out orders plays nothing, and doesn't change what a tick plays.
use Rattle.std.proofs.Common.{◌≡◌, ◌∙◌, ℕ, Bool, true, false, List, [], ◌∷◌, Option, Some, None, refl, ap}
use Rattle.std.specs.Prelude.{option_map, if◌then◌else◌}
use Rattle.bar_window.specs.declared.exchange.Exchange.{Exchange}
use Rattle.bar_wire.specs.Datagram.{Datagram, Body, KeyReq}
use Rattle.bar_wire.specs.declared.kind.Kind.{Kind}
use Rattle.bar_wire.specs.declared.kind.Kind.TheVariants as kinds
use Rattle.bar_rules.specs.Member.{Member}
use Rattle.bar_rules.specs.Runs.{begun}
use Rattle.bar_rules.specs.Peer.Admission.{is_admitted}
use Rattle.bar_rules.specs.Peer.Exchanges.{role_of, partner_in}
use Rattle.bar_rules.specs.Peer.Knowledge.{Knowledge, known, with_said}
use Rattle.bar_rules.specs.Peer.Log.{Log, Heard, Said}
use Rattle.bar_rules.specs.Peer.Machine.{send_if}
use Rattle.bar_rules.specs.Peer.Orders.{Order, Ask, Answer, Reveal, GiveCase, AskKey, GiveKey, Resend, Report, case_body, key_body}
use Rattle.bar_rules.specs.Peer.Replies.{reply_orders, repeated}
use Rattle.bar_rules.specs.Peer.Run.{Out, say_new, say_or_repeat, say, perform, perform_all, answer_repeat, answered_to, report_new, take_datagram, with_evidence}
use Rattle.bar_rules.specs.Peer.Evidence.{new_evidence}
use Rattle.bar_rules.specs.Peer.Signing.{signed}
use Rattle.bar_rules.specs.Peer.Machine.{message_to}
use Rattle.bar_rules.specs.Peer.Terms.{terms_of}
use Rattle.bar_rules.specs.Peer.Ticks.{contents_at_tick, contents_of_round}
use Rattle.bar_laws.specs.Knowing.{EntryIsLearned}

-- a tick would play the same, and the same was played so far
pub record PlaysAlike (me : Member) (out after : Out) : Type 0 where
  pub now : contents_at_tick me (known me after.state) ≡ contents_at_tick me (known me out.state)
  pub done : after.contents ≡ out.contents

alike : (me : Member) (out : Out) → PlaysAlike me out out
alike me out = record { now = refl; done = refl }

said-plays : (me : Member) (d : Datagram) (k : Knowledge) → contents_at_tick me (with_said me d k) ≡ contents_at_tick me k
unfolding contents_of_round
said-plays me d k = refl

say_new-plays : EntryIsLearned → (me : Member) (out : Out) (x : Exchange) (o : Option Body) → PlaysAlike me out (say_new me out x o)
say_new-plays learned me out x None = alike me out
say_new-plays learned me out x (Some b) =
    let d : Datagram = signed me (known me out.state) (message_to me x b) in
    record { now = ap (contents_at_tick me) (learned me out.state (Said d)) ∙ said-plays me d (known me out.state); done = refl }

say_or_repeat-plays : EntryIsLearned → (me : Member) (out : Out) (x : Exchange) (o : Option Datagram) (body : Option Body)
    → PlaysAlike me out (say_or_repeat me out x o body)
say_or_repeat-plays learned me out x (Some d) body = record { now = refl; done = refl }
say_or_repeat-plays learned me out x None body = say_new-plays learned me out x body

say-plays : EntryIsLearned → (me : Member) (out : Out) (kind : Kind) (x : Exchange) (body : Option Body) → PlaysAlike me out (say me out kind x body)
say-plays learned me out kind x body = say_or_repeat-plays learned me out x ((known me out.state).said kind x (role_of me x)) body

send_if-plays : (me : Member) (out : Out) (to : ℕ) (o : Option Body) → PlaysAlike me out (send_if me out to o)
send_if-plays me out to None = alike me out
send_if-plays me out to (Some b) = record { now = refl; done = refl }

perform-plays : EntryIsLearned → (me : Member) (out : Out) (o : Order) → PlaysAlike me out (perform me out o)
perform-plays learned me out (Ask x) = say-plays learned me out _ x _
perform-plays learned me out (Answer x) = say-plays learned me out _ x _
perform-plays learned me out (GiveCase x) =
    say-plays learned me out kinds.Case x (option_map (case_body me (known me out.state) x) (terms_of me (known me out.state) x))
perform-plays learned me out (GiveKey x) = say-plays learned me out kinds.Key x (Some (key_body me x))
perform-plays learned me out (Resend kind x) = say-plays learned me out kind x None
perform-plays learned me out (Reveal x) = send_if-plays me out _ _
perform-plays learned me out (AskKey x) = send_if-plays me out (partner_in me x) (Some (KeyReq x.round x.kind (role_of me x)))
perform-plays learned me out (Report q) = send_if-plays me out _ _

pub perform_all-plays : EntryIsLearned → (me : Member) (out : Out) (os : List Order) → PlaysAlike me out (perform_all me out os)
perform_all-plays learned me out [] = alike me out
perform_all-plays learned me out (o ∷ os) =
    let one = perform-plays learned me out o in
    let others = perform_all-plays learned me (perform me out o) os in
    record { now = others.now ∙ one.now; done = others.done ∙ one.done }

-- ---- a datagram plays nothing

repeat-silent : EntryIsLearned → (me : Member) (log : Log) (o : Option Datagram) → (answer_repeat me log o).contents ≡ []
repeat-silent learned me log None = refl
repeat-silent learned me log (Some d) = (perform_all-plays learned me (begun log) (reply_orders me (known me log) false d)).done

answered-silent : EntryIsLearned → (me : Member) (log : Log) (d : Datagram) → (answered_to me log d).contents ≡ []
answered-silent learned me log d = go (is_admitted me (known me log) d)
  where
    go : (b : Bool)
        → (if b then perform_all me (begun (Heard d ∷ log)) (reply_orders me (known me (Heard d ∷ log)) true d) else answer_repeat me log (repeated me (known me log) d)).contents ≡ []
    go true = (perform_all-plays learned me (begun (Heard d ∷ log)) (reply_orders me (known me (Heard d ∷ log)) true d)).done
    go false = repeat-silent learned me log (repeated me (known me log) d)

report-silent : EntryIsLearned → (me : Member) (out : Out) (q : ℕ) (ev : Option (List (List ℕ))) → (report_new me out q ev).contents ≡ out.contents
report-silent learned me out q None = refl
report-silent learned me out q (Some e) = (perform-plays learned me out (Report q)).done

pub datagram-silent : EntryIsLearned → (me : Member) (log : Log) (o : Option Datagram) → (take_datagram me log o).contents ≡ []
datagram-silent learned me log None = refl
datagram-silent learned me log (Some d) =
    let ev : Option (List (List ℕ)) = new_evidence me (known me log) d in
    report-silent learned me (answered_to me (with_evidence me log d.message.from ev) d) d.message.from ev
    ∙ answered-silent learned me (with_evidence me log d.message.from ev) d

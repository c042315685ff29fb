-- The time of a peer: its log contains as many ticks as the inputs that it took, up to the last tick of its session.
use Rattle.std.proofs.Common.{◌≡◌, ◌≤◌, ◌<◌, ◌^◌, ◌∙◌, ℕ, ◌+◌, min, Bool, true, false, List, [], ◌∷◌, Option, Some, None, refl, arith}
use Rattle.std.specs.Prelude.{nat_le, option_map, if◌then◌else◌}
use Rattle.std.proofs.lemmas.Bool.{leb-true, leb-false}
use Rattle.bar_window.specs.declared.exchange.Exchange.{Exchange}
use Rattle.bar_wire.specs.Datagram.{Body, Datagram, KeyReq}
use Rattle.bar_wire.specs.Inputs.{Input}
use Rattle.bar_wire.specs.Inputs as event
use Rattle.bar_wire.specs.declared.kind.Kind.{Kind}
use Rattle.bar_wire.specs.declared.kind.Kind.TheVariants as kinds
use Rattle.bar_record.specs.Pacing.{ticks_in, ticks_of}
use Rattle.bar_core.proofs.Stepwise.{ticks-stepwise}
use Rattle.bar_session.specs.Time.{last_tick}
use Rattle.bar_rules.specs.Member.{Member, IsMember}
use Rattle.bar_rules.specs.Peer.Admission.{is_admitted}
use Rattle.bar_rules.specs.Peer.Evidence.{new_evidence}
use Rattle.bar_rules.specs.Peer.Exchanges.{partner_in, role_of}
use Rattle.bar_rules.specs.Peer.Knowledge.{known}
use Rattle.bar_rules.specs.Peer.Log.{Log, Ticked, Heard, ticks}
use Rattle.bar_rules.specs.Peer.Machine as machine
use Rattle.bar_rules.specs.Peer.Machine.{send_if}
use Rattle.bar_rules.specs.Peer.Orders.{Order, Ask, Answer, Reveal, GiveCase, AskKey, GiveKey, Resend, Report, case_body, key_body}
use Rattle.bar_rules.specs.Peer.Replies.{reply_orders, repeated}
use Rattle.bar_rules.specs.Peer.Run.{Out, answer_repeat, answered_to, log_after, perform, perform_all, report_new, say, say_or_repeat}
use Rattle.bar_rules.specs.Peer.Run.{step, take_datagram, take_input, with_evidence}
use Rattle.bar_rules.specs.Peer.Terms.{terms_of}
use Rattle.bar_rules.specs.Peer.Ticks.{orders_at_tick}
use Rattle.bar_rules.specs.Runs.{begun, state_after}
use Rattle.bar_rules.specs.Values.{datagram_of}
use Rattle.bar_peer.specs.Code.StandsFor.{Inputs}

-- ---- orders add no tick

repeat-time : (me : Member) (out : Out) (x : Exchange) (d : Option Datagram) (body : Option Body)
    → ticks (say_or_repeat me out x d body).state ≡ ticks out.state
repeat-time me out x (Some d) body = refl
repeat-time me out x None None = refl
repeat-time me out x None (Some body) = omega arith

say-time : (me : Member) (out : Out) (kind : Kind) (x : Exchange) (body : Option Body)
    → ticks (say me out kind x body).state ≡ ticks out.state
say-time me out kind x body = repeat-time me out x ((known me out.state).said kind x (role_of me x)) body

send-time : (me : Member) (out : Out) (to : ℕ) (body : Option Body) → ticks (send_if me out to body).state ≡ ticks out.state
send-time me out to None = refl
send-time me out to (Some body) = refl

order-time : (me : Member) (out : Out) (o : Order) → ticks (perform me out o).state ≡ ticks out.state
order-time me out (Ask x) = say-time me out _ x _
order-time me out (Answer x) = say-time me out _ x _
order-time me out (GiveCase x) =
    say-time me out kinds.Case x (option_map (case_body me (known me out.state) x) (terms_of me (known me out.state) x))
order-time me out (GiveKey x) = say-time me out kinds.Key x (Some (key_body me x))
order-time me out (Resend kind x) = say-time me out kind x None
order-time me out (Reveal x) = send-time me out (partner_in me x) _
order-time me out (AskKey x) = send-time me out (partner_in me x) (Some (KeyReq x.round x.kind (role_of me x)))
order-time me out (Report q) = send-time me out 0 _

orders-time : (me : Member) (out : Out) (os : List Order) → ticks (perform_all me out os).state ≡ ticks out.state
orders-time me out [] = refl
orders-time me out (o ∷ os) = orders-time me (perform me out o) os ∙ order-time me out o

-- ---- nor does a datagram

kept-time : (me : Member) (log : Log) (q : ℕ) (evidence : Option (List (List ℕ))) → ticks (with_evidence me log q evidence) ≡ ticks log
kept-time me log q None = refl
kept-time me log q (Some evidence) = omega arith

again-time : (me : Member) (log : Log) (o : Option Datagram) → ticks (answer_repeat me log o).state ≡ ticks log
again-time me log None = refl
again-time me log (Some d) = orders-time me (begun log) (reply_orders me (known me log) false d)

answer-time : (me : Member) (log : Log) (d : Datagram) → ticks (answered_to me log d).state ≡ ticks log
answer-time me log d = go (is_admitted me (known me log) d)
  where
    new : Out
    new = perform_all me (begun (Heard d ∷ log)) (reply_orders me (known me (Heard d ∷ log)) true d)

    go : (b : Bool) → ticks (if b then new else answer_repeat me log (repeated me (known me log) d)).state ≡ ticks log
    go true = orders-time me (begun (Heard d ∷ log)) (reply_orders me (known me (Heard d ∷ log)) true d) ∙ omega arith
    go false = again-time me log (repeated me (known me log) d)

report-time : (me : Member) (out : Out) (q : ℕ) (evidence : Option (List (List ℕ)))
    → ticks (report_new me out q evidence).state ≡ ticks out.state
report-time me out q None = refl
report-time me out q (Some evidence) = order-time me out (Report q)

datagram-time : (me : Member) (log : Log) (o : Option Datagram) → ticks (take_datagram me log o).state ≡ ticks log
datagram-time me log None = refl
datagram-time me log (Some d) =
    let evidence : Option (List (List ℕ)) = new_evidence me (known me log) d in
    let q : ℕ = d.message.from in
    report-time me (answered_to me (with_evidence me log q evidence) d) q evidence
    ∙ answer-time me (with_evidence me log q evidence) d
    ∙ kept-time me log q evidence

-- ---- over the inputs

step-time : (me : Member) (log : Log) (input : Input) → ticks log ≤ last_tick me.session
    → ticks (step me log input).state ≡ min (ticks log + ticks_in input) (last_tick me.session)
unfolding machine.step
step-time me log input early = go (nat_le last (ticks log)) refl input
  where
    last : ℕ
    last = last_tick me.session

    go : (b : Bool) → nat_le last (ticks log) ≡ b → (i : Input)
        → ticks (if b then begun log else take_input me log i).state ≡ min (ticks log + ticks_in i) last
    go true is i = let over : last ≤ ticks log = leb-true _ _ is in omega arith
    go false is event.Tick =
        let before : ticks log < last = leb-false _ _ is in
        orders-time me (begun (Ticked ∷ log)) (orders_at_tick me (known me (Ticked ∷ log))) ∙ omega arith
    go false is (event.Datagram bytes) =
        let before : ticks log < last = leb-false _ _ is in
        datagram-time me log (datagram_of me.session bytes) ∙ omega arith

pub log-time : (me : Member) (inputs : Inputs) → ticks (log_after me [] inputs) ≡ min (ticks_of inputs) (last_tick me.session)
log-time me inputs =
    ticks-stepwise ticks (last_tick me.session) (λ log input. (step me log input).state) (state_after (step me))
    (λ log. refl)
    (λ log input inputs. refl)
    (step-time me)
    []
    inputs
    (omega arith)
    ∙ omega arith

-- the last tick is below 2 ^ 32
pub last_tick-small : (me : Member) → IsMember me → last_tick me.session < 2 ^ 32
last_tick-small me is = omega (arith, is.session.shape.rounds_high, me.session.shape.shaped.few)

-- The machine over what is known is the image of the machine over logs.
use Rattle.bar_rules.specs.Peer.Evidence.{new_evidence}
use Rattle.bar_window.specs.declared.exchange.Exchange.{Exchange}
use Rattle.bar_wire.specs.Datagram.{Datagram, Body}
use Rattle.bar_wire.specs.Inputs.{Input}
use Rattle.bar_wire.specs.Inputs as event
use Rattle.bar_rules.specs.Runs.{Outcome, begun, contents_from, sends_from, state_after}
use Rattle.bar_rules.specs.Peer.Admission.{is_admitted}
use Rattle.bar_rules.specs.Peer.Exchanges.{partner_in}
use Rattle.bar_rules.specs.Peer.Knowledge.{Knowledge, known, with_entry, with_heard}
use Rattle.bar_rules.specs.Peer.Log.{Log, Entry, Ticked, Heard, Said, Kept, ticks}
use Rattle.bar_rules.specs.Peer.Machine.{logs, minds, message_to, step_known}
use Rattle.bar_rules.specs.Peer.Machine as machine
use Rattle.bar_session.specs.Time.{last_tick}
use Rattle.bar_rules.specs.Member.{Member}
use Rattle.bar_rules.specs.Peer.Orders.{Order, Ask, Answer, Reveal, GiveCase, AskKey, GiveKey, Resend, Report}
use Rattle.bar_rules.specs.Peer.Replies.{reply_orders, repeated}
use Rattle.bar_rules.specs.Peer.Run.{step, log_after}
use Rattle.bar_rules.specs.Peer.Signing.{signed}
use Rattle.bar_rules.specs.Peer.Ticks.{orders_at_tick, contents_at_tick}
use Rattle.bar_rules.specs.Values.{datagram_of}
use Rattle.std.proofs.Common.{◌≡◌, ℕ, ◌+◌, Bool, true, false, List, [], ◌∷◌, ◌++◌, map, refl, ap, ◌∙◌, cond}
use Rattle.std.specs.Prelude.{Option, Some, None, nat_le}
use Rattle.bar_laws.specs.Knowing.{RunsAsKnown, as_known}
use Rattle.bar_laws.proofs.Memory.Learning.{known-ticked, known-heard, known-said, known-kept}

pub learned : (me : Member) (log : Log) (e : Entry) → known me (e ∷ log) ≡ with_entry me e (known me log)
learned me log Ticked = known-ticked me log
learned me log (Heard d) = known-heard me log d
learned me log (Said d) = known-said me log d
learned me log (Kept q evidence) = known-kept me log q evidence

module _ (me : Member) where
  say-image : (out : Outcome Log) (x : Exchange) (o : Option Datagram) (b : Option Body) → as_known me (machine.say_or_repeat (logs me) me out x o b) ≡ machine.say_or_repeat (minds me) me (as_known me out) x o b
  say-image out x (Some d) b = refl
  say-image out x None None = refl
  say-image out x None (Some b) =
      let d : Datagram = signed me (known me out.state) (message_to me x b) in
      (λ i. record { state = known-said me out.state d i; sends = out.sends ++ (partner_in me x, d) ∷ []; contents = out.contents })

  send-image : (out : Outcome Log) (to : ℕ) (b : Option Body) → as_known me (machine.send_if me out to b) ≡ machine.send_if me (as_known me out) to b
  send-image out to None = refl
  send-image out to (Some b) = refl

  perform-image : (out : Outcome Log) (o : Order) → as_known me (machine.perform (logs me) me out o) ≡ machine.perform (minds me) me (as_known me out) o
  perform-image out (Ask x) = say-image out x _ _
  perform-image out (Answer x) = say-image out x _ _
  perform-image out (GiveCase x) = say-image out x _ _
  perform-image out (GiveKey x) = say-image out x _ _
  perform-image out (Resend kind x) = say-image out x _ _
  perform-image out (Reveal x) = send-image out _ _
  perform-image out (AskKey x) = refl
  perform-image out (Report q) = send-image out _ _

  all-image : (os : List Order) (out : Outcome Log) → as_known me (machine.perform_all (logs me) me out os) ≡ machine.perform_all (minds me) me (as_known me out) os
  all-image [] out = refl
  all-image (o ∷ os) out = all-image os (machine.perform (logs me) me out o) ∙ ap (λ a. machine.perform_all (minds me) me a os) (perform-image out o)

  repeat-image : (log : Log) (o : Option Datagram) → as_known me (machine.answer_repeat (logs me) me log o) ≡ machine.answer_repeat (minds me) me (known me log) o
  repeat-image log None = refl
  repeat-image log (Some d) = all-image (reply_orders me (known me log) false d) (begun log)

  new-image : (log : Log) (d : Datagram) → as_known me (machine.answer_new (logs me) me (Heard d ∷ log) d) ≡ machine.answer_new (minds me) me (with_heard me d (known me log)) d
  new-image log d = all-image (reply_orders me (known me (Heard d ∷ log)) true d) (begun (Heard d ∷ log)) ∙ ap (λ k. machine.answer_new (minds me) me k d) (known-heard me log d)

  answered-image : (log : Log) (d : Datagram) → as_known me (machine.answered_to (logs me) me log d) ≡ machine.answered_to (minds me) me (known me log) d
  answered-image log d = go (is_admitted me (known me log) d)
    where
      go : (b : Bool) → as_known me (cond b (machine.answer_new (logs me) me (Heard d ∷ log) d) (machine.answer_repeat (logs me) me log (repeated me (known me log) d)))
          ≡ cond b (machine.answer_new (minds me) me (with_heard me d (known me log)) d) (machine.answer_repeat (minds me) me (known me log) (repeated me (known me log) d))
      go true = new-image log d
      go false = repeat-image log (repeated me (known me log) d)

  taken-image : (log : Log) (o : Option Datagram) → as_known me (machine.take_datagram (logs me) me log o) ≡ machine.take_datagram (minds me) me (known me log) o
  taken-image log None = refl
  taken-image log (Some d) = go (new_evidence me (known me log) d)
    where
      go : (e : Option (List (List ℕ))) → as_known me (machine.report_new (logs me) me (machine.answered_to (logs me) me (machine.with_evidence (logs me) log d.message.from e) d) d.message.from e)
          ≡ machine.report_new (minds me) me (machine.answered_to (minds me) me (machine.with_evidence (minds me) (known me log) d.message.from e) d) d.message.from e
      go None = answered-image log d
      go (Some f) =
          perform-image (machine.answered_to (logs me) me (Kept d.message.from f ∷ log) d) (Report d.message.from)
          ∙ ap (λ a. machine.perform (minds me) me a (Report d.message.from)) (answered-image (Kept d.message.from f ∷ log) d ∙ ap (λ k. machine.answered_to (minds me) me k d) (known-kept me log d.message.from f))

  input-image : (log : Log) (input : Input) → as_known me (machine.take_input (logs me) me log input) ≡ machine.take_input (minds me) me (known me log) input
  input-image log event.Tick =
      ap (λ (a : Outcome Knowledge). record a { contents = contents_at_tick me (known me (Ticked ∷ log)) }) (all-image (orders_at_tick me (known me (Ticked ∷ log))) (begun (Ticked ∷ log)))
      ∙ ap (λ k. machine.take_tick (minds me) me k) (known-ticked me log)
  input-image log (event.Datagram bytes) = taken-image log (datagram_of me.session bytes)

  pub step-image : (log : Log) (input : Input) → as_known me (machine.step (logs me) me log input) ≡ step_known me (known me log) input
  unfolding machine.step
  step-image log input = go (nat_le (last_tick me.session) (ticks log))
    where
      go : (b : Bool) → as_known me (cond b (begun log) (machine.take_input (logs me) me log input)) ≡ cond b (begun (known me log)) (machine.take_input (minds me) me (known me log) input)
      go true = refl
      go false = input-image log input

  sends-image : (log : Log) (number : ℕ) (inputs : List Input) → sends_from (step me) log number inputs ≡ sends_from (step_known me) (known me log) number inputs
  sends-image log number [] = refl
  sends-image log number (input ∷ inputs) =
      let next : Log = (machine.step (logs me) me log input).state in
      let same = step-image log input in
      (λ i. map (λ (send : ℕ × Datagram). (number, send.0, send.1)) (same i).sends ++ sends-image next (number + 1) inputs i)
      ∙ ap (λ k. map (λ (send : ℕ × Datagram). (number, send.0, send.1)) (step_known me (known me log) input).sends ++ sends_from (step_known me) k (number + 1) inputs) (ap (λ (a : Outcome Knowledge). a.state) same)

  all-contents : (log : Log) (inputs : List Input) → contents_from (step me) log inputs ≡ contents_from (step_known me) (known me log) inputs
  all-contents log [] = refl
  all-contents log (input ∷ inputs) =
      let next : Log = (machine.step (logs me) me log input).state in
      let same = step-image log input in
      (λ i. (same i).contents ∷ all-contents next inputs i)
      ∙ ap (λ k. (step_known me (known me log) input).contents ∷ contents_from (step_known me) k inputs) (ap (λ (a : Outcome Knowledge). a.state) same)

  state-image : (log : Log) (inputs : List Input) → known me (log_after me log inputs) ≡ state_after (step_known me) (known me log) inputs
  state-image log [] = refl
  state-image log (input ∷ inputs) =
      state-image (machine.step (logs me) me log input).state inputs ∙ ap (λ k. state_after (step_known me) k inputs) (ap (λ (a : Outcome Knowledge). a.state) (step-image log input))

  pub runs-as-known : (inputs : List Input) → RunsAsKnown me inputs
  runs-as-known inputs = record { sends = sends-image [] 1 inputs; contents = all-contents [] inputs; known_is = state-image [] inputs }

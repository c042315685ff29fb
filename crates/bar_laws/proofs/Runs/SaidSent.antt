-- What is said is sent: once a message that passes a test was said, one that passes was sent.
use Rattle.bar_rules.specs.Runs.{begun, sending, sends_from}
use Rattle.bar_rules.specs.Peer.Admission.{is_admitted}
use Rattle.bar_rules.specs.Peer.Evidence.{new_evidence}
use Rattle.bar_rules.specs.Peer.Exchanges.{role_of, partner_in}
use Rattle.bar_rules.specs.Peer.Knowledge.{known, has_said_of}
use Rattle.bar_rules.specs.Peer.Log.{Log, Entry, Ticked, Heard, Said, Kept, said_in, if_passes, first_said, has_said, ticks}
use Rattle.bar_rules.specs.Peer.Machine.{send_if, message_to}
use Rattle.bar_session.specs.Time.{last_tick}
use Rattle.bar_rules.specs.Member.{Member}
use Rattle.bar_rules.specs.Peer.Orders.{Order, Ask, Answer, Reveal, GiveCase, AskKey, GiveKey, Resend, Report}
use Rattle.bar_rules.specs.Peer.Replies.{reply_orders, repeated}
use Rattle.bar_rules.specs.Peer.Run.{Out, perform, perform_all, say, say_or_repeat, answered_to, answer_repeat, with_evidence, report_new, take_datagram, take_input, step, log_after, sends_of}
use Rattle.bar_rules.specs.Peer.Signing.{signed}
use Rattle.bar_rules.specs.Peer.Ticks.{orders_at_tick}
use Rattle.bar_rules.specs.Values.{datagram_of, unsigned}
use Rattle.bar_rules.specs.Peer.Machine as machine
use Rattle.bar_laws.specs.Balance.{key_was_sent}
use Rattle.bar_window.specs.declared.exchange.Exchange.{Exchange}
use Rattle.bar_wire.specs.declared.kind.Kind.TheVariants as kinds
use Rattle.bar_wire.specs.declared.kind.Kind.{Kind}
use Rattle.bar_wire.specs.Datagram.{Message, Datagram, Body, KeyReq, is_of}
use Rattle.bar_wire.specs.Inputs.{Input}
use Rattle.bar_wire.specs.Inputs as event
use Rattle.std.specs.Option.{option_or}
use Rattle.std.specs.Bool.{then_some}
use Rattle.std.proofs.Common.{◌≡◌, ℕ, ◌+◌, Bool, true, false, List, [], ◌∷◌, ◌++◌, refl, ap, ◌∙◌, inl, inr}
use Rattle.std.specs.Prelude.{Option, Some, None, ◌⊎◌, ◌||◌, map, cond, is_some, nat_le}
use Rattle.std.specs.List.{list_any}
use Rattle.std.proofs.Math.Bool.{or_comm}
use Rattle.std.proofs.lemmas.List.Folds.{list_any-append}
use Rattle.bar_window.proofs.Sets.{same_tests}
use Rattle.bar_laws.proofs.Runs.RunSends.{any-said, run-sent}

or-left : (a b : Bool) → a ≡ true → (a || b) ≡ true
or-left true b e = refl
or-left false b e = cc

pub any-front : {X : Type 0} (q : X → Bool) (xs ys : List X) → list_any q xs ≡ true → list_any q (xs ++ ys) ≡ true
any-front q xs ys e = list_any-append q xs ys ∙ or-left (list_any q xs) (list_any q ys) e

pub any-back : {X : Type 0} (q : X → Bool) (xs ys : List X) → list_any q ys ≡ true → list_any q (xs ++ ys) ≡ true
any-back q xs ys e = list_any-append q xs ys ∙ or_comm (list_any q xs) (list_any q ys) ∙ or-left (list_any q ys) (list_any q xs) e

module _ (p : Message → Bool) where
  -- ---- what an entry adds

  said-entry : (log : Log) (e : Entry) → has_said p (e ∷ log) ≡ true → (has_said p log ≡ true) ⊎ (is_some (if_passes p (said_in e)) ≡ true)
  said-entry log e h = go (first_said p log) h
    where
      go : (o : Option Datagram) → is_some (option_or o (if_passes p (said_in e))) ≡ true → (is_some o ≡ true) ⊎ (is_some (if_passes p (said_in e)) ≡ true)
      go (Some d) h = inl refl
      go None h = inr h

  -- an entry in which nothing is said adds nothing
  said-other : (log : Log) (e : Entry) → said_in e ≡ None → has_said p (e ∷ log) ≡ true → has_said p log ≡ true
  said-other log e none h = go (said-entry log e h)
    where
      go : (has_said p log ≡ true) ⊎ (is_some (if_passes p (said_in e)) ≡ true) → has_said p log ≡ true
      go (inl h) = h
      go (inr h) = let f : is_some (if_passes p None) ≡ true = rw none at h in cc

  passes-itself : (d : Datagram) → is_some (if_passes p (Some d)) ≡ true → p d.message ≡ true
  passes-itself d h = go (p d.message) h
    where
      go : (b : Bool) → is_some (then_some b d) ≡ true → b ≡ true
      go true h = refl
      go false h = cc

  -- ---- what one input sends

  -- what was said after that log is sent
  abbrev IsSent : Log → Out → Type 0
  IsSent log out = has_said p out.state ≡ true → (has_said p log ≡ true) ⊎ (list_any (λ s. p s.1.message) out.sends ≡ true)

  more-sent : (log : Log) (out : Out) (to : ℕ) (d : Datagram) → IsSent log out → IsSent log (sending out to d)
  more-sent log out to d a h = go (a h)
    where
      go : (has_said p log ≡ true) ⊎ (list_any (λ s. p s.1.message) out.sends ≡ true) → (has_said p log ≡ true) ⊎ (list_any (λ s. p s.1.message) (out.sends ++ (to, d) ∷ []) ≡ true)
      go (inl h) = inl h
      go (inr h) = inr (any-front (λ s. p s.1.message) out.sends ((to, d) ∷ []) h)

  new-sent : (log : Log) (out : Out) (to : ℕ) (d : Datagram) → IsSent log out → IsSent log (sending (record out { state = Said d ∷ out.state }) to d)
  new-sent log out to d a h = go (said-entry out.state (Said d) h)
    where
      go : (has_said p out.state ≡ true) ⊎ (is_some (if_passes p (Some d)) ≡ true) → (has_said p log ≡ true) ⊎ (list_any (λ s. p s.1.message) (out.sends ++ (to, d) ∷ []) ≡ true)
      go (inl h) = more-sent log out to d a h
      go (inr h) = inr (any-back (λ s. p s.1.message) out.sends ((to, d) ∷ []) (or-left (p d.message) false (passes-itself d h)))

  sent-say : (me : Member) (log : Log) (out : Out) (kind : Kind) (x : Exchange) (b : Option Body) → IsSent log out → IsSent log (say me out kind x b)
  sent-say me log out kind x b a = go (first_said (is_of kind x (role_of me x)) out.state) b
    where
      go : (q : Option Datagram) (b : Option Body) → IsSent log (say_or_repeat me out x q b)
      go (Some d) b = more-sent log out (partner_in me x) d a
      go None None = a
      go None (Some b) = new-sent log out (partner_in me x) (signed me (known me out.state) (message_to me x b)) a

  sent-if : (me : Member) (log : Log) (out : Out) (to : ℕ) (b : Option Body) → IsSent log out → IsSent log (send_if me out to b)
  sent-if me log out to None a = a
  sent-if me log out to (Some b) a = more-sent log out to (unsigned (record { from = me.party; to = to; body = b })) a

  sent-order : (me : Member) (log : Log) (out : Out) (o : Order) → IsSent log out → IsSent log (perform me out o)
  sent-order me log out (Ask x) a = sent-say me log out _ x _ a
  sent-order me log out (Answer x) a = sent-say me log out _ x _ a
  sent-order me log out (GiveCase x) a = sent-say me log out kinds.Case x _ a
  sent-order me log out (GiveKey x) a = sent-say me log out kinds.Key x _ a
  sent-order me log out (Resend kind x) a = sent-say me log out kind x None a
  sent-order me log out (Reveal x) a = sent-if me log out _ _ a
  sent-order me log out (AskKey x) a = sent-if me log out (partner_in me x) (Some (KeyReq x.round x.kind (role_of me x))) a
  sent-order me log out (Report q) a = sent-if me log out 0 _ a

  sent-orders : (me : Member) (log : Log) (out : Out) (os : List Order) → IsSent log out → IsSent log (perform_all me out os)
  sent-orders me log out [] a = a
  sent-orders me log out (o ∷ os) a = sent-orders me log (perform me out o) os (sent-order me log out o a)

  -- nothing is said in the first entry
  begun-sent : (log : Log) (e : Entry) → said_in e ≡ None → IsSent log (begun (e ∷ log))
  begun-sent log e none h = inl (said-other log e none h)

  kept-sent : (me : Member) (log : Log) (q : ℕ) (e : Option (List (List ℕ))) → IsSent log (begun (with_evidence me log q e))
  kept-sent me log q None h = inl h
  kept-sent me log q (Some e) h = begun-sent log (Kept q e) refl h

  answered-sent : (me : Member) (log before : Log) (d : Datagram) → IsSent log (begun before) → IsSent log (answered_to me before d)
  answered-sent me log before d a = go (is_admitted me (known me before) d) (repeated me (known me before) d)
    where
      heard : IsSent log (begun (Heard d ∷ before))
      heard h = a (said-other before (Heard d) refl h)

      go : (b : Bool) (q : Option Datagram) → IsSent log (cond b (perform_all me (begun (Heard d ∷ before)) (reply_orders me (known me (Heard d ∷ before)) true d)) (answer_repeat me before q))
      go true q = sent-orders me log (begun (Heard d ∷ before)) (reply_orders me (known me (Heard d ∷ before)) true d) heard
      go false None = a
      go false (Some c) = sent-orders me log (begun before) (reply_orders me (known me before) false c) a

  report-sent : (me : Member) (log : Log) (out : Out) (q : ℕ) (e : Option (List (List ℕ))) → IsSent log out → IsSent log (report_new me out q e)
  report-sent me log out q None a = a
  report-sent me log out q (Some e) a = sent-order me log out (Report q) a

  datagram-sent : (me : Member) (log : Log) (o : Option Datagram) → IsSent log (take_datagram me log o)
  datagram-sent me log None = λ h. inl h
  datagram-sent me log (Some d) =
      let e : Option (List (List ℕ)) = new_evidence me (known me log) d in
      let q : ℕ = d.message.from in
      let before : Log = with_evidence me log q e in
      report-sent me log (answered_to me before d) q e (answered-sent me log before d (kept-sent me log q e))

  step-sent : (me : Member) (log : Log) (i : Input) → IsSent log (step me log i)
  unfolding machine.step
  step-sent me log i = go (nat_le (last_tick me.session) (ticks log)) i
    where
      go : (b : Bool) (i : Input) → IsSent log (cond b (begun log) (take_input me log i))
      go true i h = inl h
      go false event.Tick h = sent-orders me log (begun (Ticked ∷ log)) (orders_at_tick me (known me (Ticked ∷ log))) (begun-sent log Ticked refl) h
      go false (event.Datagram bytes) h = datagram-sent me log (datagram_of me.session bytes) h

  -- ---- over a list of inputs

  numbered : (n : ℕ) (sends : List (ℕ × Datagram)) → list_any (λ (s : ℕ × ℕ × Datagram). p s.2.message) (map (λ (s : ℕ × Datagram). (n, s.0, s.1)) sends) ≡ list_any (λ (s : ℕ × Datagram). p s.1.message) sends
  numbered n [] = refl
  numbered n (s ∷ sends) = ap (λ b. p s.1.message || b) (numbered n sends)

  run-said : (me : Member) (log : Log) (n : ℕ) (inputs : List Input) → has_said p (log_after me log inputs) ≡ true
      → (has_said p log ≡ true) ⊎ (list_any (λ s. p s.2.message) (sends_from (step me) log n inputs) ≡ true)
  run-said me log n [] h = inl h
  run-said me log n (i ∷ is) h = later (run-said me (step me log i).state (n + 1) is h)
    where
      here : List (ℕ × ℕ × Datagram)
      here = map (λ (s : ℕ × Datagram). (n, s.0, s.1)) (step me log i).sends

      behind : List (ℕ × ℕ × Datagram)
      behind = sends_from (step me) (step me log i).state (n + 1) is

      now : (has_said p log ≡ true) ⊎ (list_any (λ s. p s.1.message) (step me log i).sends ≡ true) → (has_said p log ≡ true) ⊎ (list_any (λ s. p s.2.message) (here ++ behind) ≡ true)
      now (inl h) = inl h
      now (inr h) = inr (any-front (λ s. p s.2.message) here behind (numbered n (step me log i).sends ∙ h))

      later : (has_said p (step me log i).state ≡ true) ⊎ (list_any (λ s. p s.2.message) behind ≡ true) → (has_said p log ≡ true) ⊎ (list_any (λ s. p s.2.message) (here ++ behind) ≡ true)
      later (inl h) = now (step-sent me log i h)
      later (inr h) = inr (any-back (λ s. p s.2.message) here behind h)

-- a key was sent if and only if one was said
pub said-keys : (me : Member) (inputs : List Input) (x : Exchange) → key_was_sent me x (sends_of me inputs) ≡ has_said_of (known me (log_after me [] inputs)) kinds.Key x (role_of me x)
said-keys me inputs x =
    same_tests _ _
    (any-said (log_after me [] inputs) x (role_of me x) (sends_of me inputs) (run-sent me [] 1 inputs))
    (λ h. found (run-said (is_of kinds.Key x (role_of me x)) me [] 1 inputs h))
  where
    found : (has_said (is_of kinds.Key x (role_of me x)) [] ≡ true) ⊎ (key_was_sent me x (sends_of me inputs) ≡ true) → key_was_sent me x (sends_of me inputs) ≡ true
    found (inl h) = cc
    found (inr h) = h

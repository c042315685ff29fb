-- Logs that agree in what a peer keeps send and play alike at a tick, and so at every input.
use Rattle.bar_window.specs.Exchange.{other_role}
use Rattle.bar_window.specs.declared.exchange.Exchange.{Exchange}
use Rattle.bar_window.specs.declared.exchange.Role.{Role}
use Rattle.bar_window.specs.declared.exchange.Role.TheVariants.{Responder}
use Rattle.bar_window.specs.declared.exchange.XKind.{XKind}
use Rattle.bar_window.specs.declared.exchange.XKind.TheVariants.{Balanced, Push}
use Rattle.bar_wire.specs.declared.kind.Kind.TheVariants as kinds
use Rattle.bar_wire.specs.Datagram.{Datagram}
use Rattle.bar_wire.specs.Grammar.{is_third, words_of}
use Rattle.bar_wire.specs.Inputs.{Input}
use Rattle.bar_wire.specs.Inputs as event
use Rattle.bar_rules.specs.Runs.{begun}
use Rattle.bar_rules.specs.Peer.Agreement.{AgreesWith, IsRecent}
use Rattle.bar_rules.specs.Peer.Exchanges.{request_kind, role_of, partner_in, answer_kind, exchanges_said}
use Rattle.bar_rules.specs.Peer.Knowledge.{Knowledge, known, this_round, with_tick, request_deadline, answer_deadline}
use Rattle.bar_rules.specs.Peer.Log.{Log, Ticked, round_now, ticks}
use Rattle.bar_rules.specs.Peer.Machine.{logs, minds}
use Rattle.bar_rules.specs.Peer.Machine as machine
use Rattle.bar_rules.specs.Peer.Orders.{Order, Ask, AskKey, Resend, Report}
use Rattle.bar_rules.specs.Peer.Replies.{orders_when}
use Rattle.bar_rules.specs.Peer.Ticks.{is_initiator, reveals, lacks_answer, lacks_partners_case, lacks_case, lacks_key, again, asking_partner, new_requests, reports, orders_at_tick, content_of, content_at, contents_of_round, contents_at_tick}
use Rattle.bar_session.specs.Time.{last_tick, slot_after}
use Rattle.bar_rules.specs.Member.{Member}
use Rattle.bar_rules.specs.Peer.Rules.{IsObedient}
use Rattle.bar_rules.specs.Secrets.{seed_of, partner_of}
use Rattle.bar_rules.specs.Values.{datagram_of, updates_of}
use Rattle.std.proofs.Common.{◌≡◌, ℕ, ◌≤◌, ◌+◌, ◌-◌, Bool, true, false, List, [], ◌∷◌, ◌++◌, length, refl, sym, ap, ◌∙◌, subst, ◌&&◌, ◌||◌, not, eqb, cond, arith}
use Rattle.std.specs.Prelude.{Option, Some, None, is_some, nat_le, nat_lt, map, flat_map, filter, option_to_list, ◌*◌}
use Rattle.std.specs.List.{AllByRecursion, range_with_len}
use Rattle.std.proofs.lemmas.Bool.{and_parts, leb-true}
use Rattle.bar_laws.specs.Agreement.{AnswersAlike}
use Rattle.bar_laws.proofs.Memory.AgreeLogs.{now, ticked-agree}
use Rattle.bar_laws.proofs.Memory.AgreeRows.{said-same, heard-same, owes-same}
use Rattle.bar_laws.proofs.Memory.AgreeOrders.{told_by, IsTimely, IsAlike, perform_all-alike, young-same}
use Rattle.bar_laws.proofs.Memory.AgreeReplies.{begun-alike, taken-alike, when-timely}
use Rattle.bar_laws.proofs.Logs.{again-all, read-fits, all-both, all-that, all-flat-map, all-mapped, all-map}
use Rattle.bar_laws.proofs.Memory.InLife.{LogInLife, form-in-life, obedient-in-life}

flat-same : {X Y : Type 0} (f g : X → List Y) (xs : List X) → AllByRecursion (λ x. f x ≡ g x) xs → flat_map f xs ≡ flat_map g xs
flat-same f g [] h = refl
flat-same f g (x ∷ xs) h = λ i. h.0 i ++ flat-same f g xs h.1 i

cond-same : {X : Type 0} (b : Bool) (x y z : X) → (b ≡ true → x ≡ y) → cond b x z ≡ cond b y z
cond-same true x y z f = f refl
cond-same false x y z f = refl

-- the open exchanges are of recent rounds
open-recent : (me : Member) (log : Log) → AllByRecursion (λ x. IsRecent me (known me log) x.round) (known me log).opens
open-recent me log = all-that (λ x. IsRecent me (known me log) x.round) (λ x. nat_le (round_now log) (x.round + me.session.shape.life)) (exchanges_said log) (λ x e. leb-true (round_now log) (x.round + me.session.shape.life) e)

-- ---- orders in time

again-timely : (me : Member) (k : Knowledge) (x : Exchange) → IsRecent me k x.round → AllByRecursion (IsTimely me.session.shape.life (this_round k)) (again me k x)
again-timely me k x r = again-all (IsTimely me.session.shape.life (this_round k)) me k x (asked x.kind) (λ h. (r, leb-true (this_round k) (x.round + answer_deadline) (and_parts _ _ h).1)) (λ _. tt)
  where
    asked : (sort : XKind) → this_round k ≤ x.round + told_by me.session.shape.life (request_kind sort)
    asked Balanced = r
    asked Push = r

asking-timely : (me : Member) (k : Knowledge) (life : ℕ) (kind : XKind) → AllByRecursion (IsTimely life (this_round k)) (asking_partner me k (this_round k) kind)
asking-timely me k life kind =
    when-timely life (this_round k) _ (Ask (record { round = this_round k; kind = kind; initiator = me.party; responder = partner_of me.session (seed_of me (this_round k)) kind me.party }) ∷ []) (λ h. (omega arith, tt))

reports-timely : (life at : ℕ) (qs : List ℕ) → AllByRecursion (IsTimely life at) (map Report qs)
reports-timely life at [] = tt
reports-timely life at (q ∷ qs) = (tt, reports-timely life at qs)

tick-timely : (me : Member) (log : Log) → AllByRecursion (IsTimely me.session.shape.life (round_now log)) (orders_at_tick me (known me log))
tick-timely me log =
    all-both P _ _
    (all-both P _ _
    (all-flat-map (λ x. IsRecent me (known me log) x.round) P (λ x. orders_when (not ((known me log).is_announced (partner_in me x))) (again me (known me log) x)) (known me log).opens
    (λ x r. when-timely life n (not ((known me log).is_announced (partner_in me x))) (again me (known me log) x) (λ h. again-timely me (known me log) x r)) (open-recent me log))
    (when-timely life n _ (new_requests me (known me log) n)
    (λ h. all-both P _ _ (asking-timely me (known me log) life Balanced) (when-timely life n _ (asking_partner me (known me log) n Push) (λ k. asking-timely me (known me log) life Push)))))
    (when-timely life n _ (reports me (known me log)) (λ h. reports-timely life n _))
  where
    life : ℕ
    life = me.session.shape.life

    n : ℕ
    n = round_now log

    P : Order → Type 0
    P o = IsTimely life n o

-- ---- a tick

module _ (me : Member) (one two : Knowledge) (same : AgreesWith me one two) (life : 2 ≤ me.session.shape.life) (exchanges_said : AllByRecursion (λ x. IsRecent me one x.round) one.opens) where
  again-same : (x : Exchange) → IsRecent me one x.round → again me one x ≡ again me two x
  again-same x r =
      let role : Role = role_of me x in
      let other : Role = other_role role in
      let now_is : this_round one ≡ this_round two = now me one two same in
      let answer : lacks_answer me one x ≡ lacks_answer me two x =
      (λ i. is_initiator role && not (heard-same me one two same (answer_kind x.kind) x Responder r i) && nat_le (now_is i) (x.round + request_deadline))
      in
      let case : lacks_case me one x ≡ lacks_case me two x =
      (λ i.
      said-same me one two same kinds.Case x role r i
      && cond (is_third me.session.shape) (not (said-same me one two same kinds.Key x role r i || heard-same me one two same kinds.Key x other r i)) (not (heard-same me one two same kinds.Case x other r i))
      && nat_le (now_is i) (x.round + answer_deadline))
      in
      let partners : lacks_partners_case me one x ≡ lacks_partners_case me two x = (λ i. not (heard-same me one two same kinds.Case x other r i)) in
      let key : lacks_key me one x ≡ lacks_key me two x =
      (λ i. said-same me one two same kinds.Case x role r i && heard-same me one two same kinds.Case x other r i && not (heard-same me one two same kinds.Key x other r i) && nat_le (now_is i) (x.round + me.session.shape.life))
      in
      (λ i.
      cond (answer i) (Resend (request_kind x.kind) x ∷ [])
      (orders_when (case i) (orders_when (partners i) (reveals x.kind role x) ++ Resend kinds.Case x ∷ []) ++ orders_when (key i) (AskKey x ∷ [])))

  open-same : flat_map (λ x. orders_when (not (one.is_announced (partner_in me x))) (again me one x)) one.opens ≡ flat_map (λ x. orders_when (not (two.is_announced (partner_in me x))) (again me two x)) two.opens
  open-same =
      flat-same (λ x. orders_when (not (one.is_announced (partner_in me x))) (again me one x)) (λ x. orders_when (not (two.is_announced (partner_in me x))) (again me two x)) one.opens
      (all-map (λ x. IsRecent me one x.round) (λ x. orders_when (not (one.is_announced (partner_in me x))) (again me one x) ≡ orders_when (not (two.is_announced (partner_in me x))) (again me two x)) one.opens
      (λ x r i. orders_when (not (same.announced (partner_in me x) i)) (again-same x r i)) exchanges_said)
      ∙ ap (λ xs. flat_map (λ x. orders_when (not (two.is_announced (partner_in me x))) (again me two x)) xs) same.opens

  asking-same : (round : ℕ) (kind : XKind) → asking_partner me one round kind ≡ asking_partner me two round kind
  asking-same round kind =
      let to : ℕ = partner_of me.session (seed_of me round) kind me.party in
      (λ i. orders_when (not (same.announced to i || owes-same me one two same to i)) (Ask (record { round = round; kind = kind; initiator = me.party; responder = to }) ∷ []))

  requests-same : (round : ℕ) → this_round one ≤ round + answer_deadline → new_requests me one round ≡ new_requests me two round
  requests-same round h = λ i. asking-same round Balanced i ++ orders_when (nat_lt 0 (length (young-same me one two same round life h i))) (asking-same round Push i)

  new-same : new_requests me one (this_round one) ≡ new_requests me two (this_round two)
  new-same = requests-same (this_round one) (omega arith) ∙ ap (new_requests me two) (now me one two same)

  reports-same : reports me one ≡ reports me two
  reports-same = λ i. map Report (filter (λ q. is_some (same.evidence q i) && not (same.announced q i)) (range_with_len 1 me.session.shape.peers))

  tick-same : orders_at_tick me one ≡ orders_at_tick me two
  tick-same =
      λ i.
      open-same i
      ++ orders_when (eqb (slot_after (same.time i)) 0 && (nat_le 1 (now me one two same i) && nat_le (now me one two same i) me.session.shape.rounds)) (new-same i)
      ++ orders_when (eqb (slot_after (same.time i)) 7) (reports-same i)

  -- ---- played contents

  round-same : (round : ℕ) → this_round one ≤ round + me.session.shape.life + (answer_deadline - 1) → contents_of_round me one round ≡ contents_of_round me two round
  unfolding contents_of_round
  round-same round h =
      flat-same (content_at me one) (content_at me two) (updates_of me.session round)
      (all-mapped (λ u. content_at me one u ≡ content_at me two u) (λ n. record { round = round; index = n }) (range_with_len 0 (64 * words_of me.session.shape))
      (λ n. ap (λ o. flat_map content_of (option_to_list o)) (same.blocks (record { round = round; index = n }) h)))

  contents-same : contents_at_tick me one ≡ contents_at_tick me two
  contents-same =
      let s = me.session in
      let round : ℕ = this_round one - s.shape.life in
      cond-same (eqb (slot_after (one.ticks)) 0 && (nat_le 1 round && nat_le round s.shape.rounds)) (contents_of_round me one round) (contents_of_round me two round) [] (λ b. round-same round (omega arith))
      ∙ (λ i.
      let r : ℕ = now me one two same i - s.shape.life in
      cond (eqb (slot_after (same.time i)) 0 && (nat_le 1 r && nat_le r s.shape.rounds)) (contents_of_round me two r) [])

-- ---- one input

-- an input is taken alike
taken : (me : Member) (one : Log) (two : Knowledge) (input : Input) → AgreesWith me (known me one) two → 2 ≤ me.session.shape.life → LogInLife me.session.shape.life one → (at : ℕ) × IsAlike me at (machine.take_input (logs me) me one input) (machine.take_input (minds me) me two input)
taken me one two event.Tick same life lives =
    let agree : AgreesWith me (known me (Ticked ∷ one)) (with_tick me two) = ticked-agree me one two same in
    let at : ℕ = round_now (Ticked ∷ one) in
    let recent = open-recent me (Ticked ∷ one) in
    let done : IsAlike me at (machine.perform_all (logs me) me (begun (Ticked ∷ one)) (orders_at_tick me (known me (Ticked ∷ one)))) (machine.perform_all (minds me) me (begun (with_tick me two)) (orders_at_tick me (with_tick me two))) =
    subst (λ os. IsAlike me at (machine.perform_all (logs me) me (begun (Ticked ∷ one)) (orders_at_tick me (known me (Ticked ∷ one)))) (machine.perform_all (minds me) me (begun (with_tick me two)) os)) (tick-same me (known me (Ticked ∷ one)) (with_tick me two) agree life recent)
    (perform_all-alike me at (orders_at_tick me (known me (Ticked ∷ one))) (begun (Ticked ∷ one)) (begun (with_tick me two)) life (begun-alike me (Ticked ∷ one) (with_tick me two) agree life (tt, lives)) (tick-timely me (Ticked ∷ one)))
    in
    (at, record { agree = done.agree; moment = done.moment; sends = done.sends; contents = contents-same me (known me (Ticked ∷ one)) (with_tick me two) agree life recent; lives = done.lives })
taken me one two (event.Datagram bytes) same life lives = (round_now one, go (datagram_of me.session bytes) refl)
  where
    go : (o : Option Datagram) → datagram_of me.session bytes ≡ o → IsAlike me (round_now one) (machine.take_datagram (logs me) me one o) (machine.take_datagram (minds me) me two o)
    go None e = begun-alike me one two same life lives
    go (Some d) e = taken-alike me one two d same life lives (form-in-life me.session d.message.body (read-fits me.session bytes d e).form)

pub answers-alike : (me : Member) (one : Log) (two : Knowledge) (input : Input) → AgreesWith me (known me one) two → 2 ≤ me.session.shape.life → IsObedient me one → AnswersAlike me one two input
unfolding machine.step
answers-alike me one two input same life h = go (nat_le (last_tick me.session) (ticks one)) refl
  where
    lives : LogInLife me.session.shape.life one
    lives = obedient-in-life me one life h

    last : (b : Bool) → nat_le (last_tick me.session) (ticks one) ≡ b → nat_le (last_tick me.session) two.ticks ≡ b
    last b e = ap (λ t. nat_le (last_tick me.session) t) (sym same.time) ∙ e

    go : (b : Bool) → nat_le (last_tick me.session) (ticks one) ≡ b → AnswersAlike me one two input
    go true e = record { sends = rw (e, last true e) refl; contents = rw (e, last true e) refl; agree = rw (e, last true e) same }
    go false e =
        let w = (taken me one two input same life lives).1 in
        record { sends = rw (e, last false e) w.sends; contents = rw (e, last false e) w.contents; agree = rw (e, last false e) w.agree }

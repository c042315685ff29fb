-- A round's request is made, and its partner admits it.
use Rattle.std.proofs.Common.{◌≡◌, ◌∙◌, ◌⊎◌, inl, inr, ℕ, ◌+◌, ◌≤◌, Bool, true, false, not, ◌||◌, List, [], ◌∷◌, ◌++◌, refl, sym, ap, subst, is_some, eqb, cond, arith}
use Rattle.std.specs.Prelude.{Option, Some, None, Contains, nat_le}
use Rattle.std.proofs.lemmas.Bool.{and_from, eq-eqb, le-leb, lt-leb, lt-ltb}
use Rattle.bar_bytes.proofs.Options.{or-none}
use Rattle.bar_session.specs.Time.{last_tick, round_after, slot_after}
use Rattle.bar_window.proofs.Ranges.{Contains-here, Contains-later, Contains_cases}
use Rattle.bar_window.specs.Exchange.{other_role, party_on}
use Rattle.bar_window.specs.declared.exchange.Exchange.{Exchange}
use Rattle.bar_window.specs.declared.exchange.Role.{Role}
use Rattle.bar_window.specs.declared.exchange.Role.TheVariants.{Initiator}
use Rattle.bar_window.specs.declared.exchange.XKind.{XKind}
use Rattle.bar_window.specs.declared.exchange.XKind.TheVariants.{Balanced}
use Rattle.bar_wire.specs.Datagram.{Body, Datagram, Message, Request, exchange_by, is_of, kind_number, part_of, round_of}
use Rattle.bar_wire.specs.Inputs as event
use Rattle.bar_wire.specs.Kinds.{code_of}
use Rattle.bar_wire.specs.Limits.{seats_a_round}
use Rattle.bar_wire.specs.declared.kind.Kind.TheVariants as kinds
use Rattle.bar_rules.specs.Member.{IsMember, Member}
use Rattle.bar_rules.specs.Secrets.{is_seed, partner_of, secrets_of}
use Rattle.bar_rules.specs.Values.{is_signed_by}
use Rattle.bar_rules.specs.Peer.Admission.{is_admitted}
use Rattle.bar_rules.specs.Peer.Debts.{owes}
use Rattle.bar_rules.specs.Peer.Exchanges.{partner_in, role_of}
use Rattle.bar_rules.specs.Peer.Knowledge.{Knowledge, has_heard_of, known, this_round}
use Rattle.bar_rules.specs.Peer.Log.{Log, Said, Ticked, first_heard, first_said, is_announced, names_party, round_now, ticks}
use Rattle.bar_rules.specs.Peer.Machine as machine
use Rattle.bar_rules.specs.Peer.Machine.{logs, message_to}
use Rattle.bar_rules.specs.Peer.Orders.{Ask, Order, ask_body}
use Rattle.bar_rules.specs.Peer.Replies.{orders_when}
use Rattle.bar_rules.specs.Peer.Rules.{IsObedient, IsSignedByRule}
use Rattle.bar_rules.specs.Peer.Run.{Out, perform, perform_all, say_or_repeat, step, take_input}
use Rattle.bar_rules.specs.Peer.Signing.{MayRequest, MaySay, asking, signed}
use Rattle.bar_rules.specs.Peer.Ticks.{new_requests, orders_at_tick, reports}
use Rattle.bar_rules.specs.Runs.{begun}
use Rattle.bar_rules.specs.World.World.{Move, Setup, member}
use Rattle.bar_laws.specs.Obedience.{SignedByRule}
use Rattle.bar_laws.specs.OwnRuns.{PeersRun, inputs_of}
use Rattle.bar_laws.specs.Premises.{PeersAreMembers}
use Rattle.bar_laws.proofs.Fitting.{said-accepted}
use Rattle.bar_laws.proofs.Logs.{SaidIn, first_said-was, is_of-is, other-kind, own_seed, role-initiator, said-in, said-rule, some-equal, was-said}
use Rattle.bar_laws.proofs.Runs.{said-contains}
use Rattle.bar_progress.specs.Requests.{CanSeat, IsRequested, MakesRequest, RequestsAreAdmitted, RequestsAreMade, partner_then}
use Rattle.bar_progress.proofs.Announcing.{with_body}
use Rattle.bar_progress.proofs.Holding.{contains-back, contains-front}
use Rattle.bar_progress.proofs.Performing.{IsKept, all-keeps}

-- ---- what an order leaves

request-by : (x : Exchange) (m : Message) (round : ℕ) (sort : XKind) (b : Body) → m.body ≡ b → kind_number b ≡ code_of kinds.Request → part_of b ≡ Some (round, sort, Initiator)
    → exchange_by round sort Initiator m.from m.to ≡ x → (seed : List ℕ) × (commitment : List ℕ) × (m.body ≡ Request x.round seed commitment)
request-by x m round sort (Request r s c) h n p of =
    let same : r ≡ round = ap (λ (t : ℕ × XKind × Role). t.0) (some-equal _ _ p) in (s, c, h ∙ ap (λ z. Request z s c) (same ∙ ap (λ (y : Exchange). y.round) of))
request-by x m round sort b h n p of = absurd (other-kind b kinds.Request refl n)

request-is : (x : Exchange) (m : Message) → is_of kinds.Request x Initiator m ≡ true → (seed : List ℕ) × (commitment : List ℕ) × (m.body ≡ Request x.round seed commitment)
request-is x m e = let w = is_of-is kinds.Request x Initiator m e in request-by x m w.round w.sort m.body refl w.number w.part w.exchange

module _ (me : Member) (to round : ℕ) where
  -- what was said and sent remains so
  stays : IsKept (logs me) (λ out. MakesRequest out to round)
  stays = record {
    sent = λ out q d h. record {
      request = h.request;
      seed = h.seed;
      commitment = h.commitment;
      body = h.body;
      said = h.said;
      sent = contains-front out.sends ((q, d) ∷ []) (to, h.request) h.sent;
    };
    said = λ out d h. record {
      request = h.request;
      seed = h.seed;
      commitment = h.commitment;
      body = h.body;
      said = Contains-later (Said d) (Said h.request) out.state h.said;
      sent = h.sent;
    };
  }

  -- the order to ask makes the request
  abbrev x : Exchange
  x = asking me round Balanced to

  partner : partner_in me x ≡ to
  partner = ap (λ r. party_on x (other_role r)) (role-initiator me x refl)

  sent-last : (out : Out) (d : Datagram) → Contains {X = ℕ × Datagram} (out.sends ++ (partner_in me x, d) ∷ []) (to, d)
  sent-last out d =
      subst (λ z. Contains {X = ℕ × Datagram} (out.sends ++ (z, d) ∷ []) (to, d)) (sym partner) (contains-back out.sends ((to, d) ∷ []) (to, d) (Contains-here {X = ℕ × Datagram} (to, d) []))

  ask-makes : (out : Out) → MakesRequest (perform me out (Ask x)) to round
  ask-makes out = go (first_said (is_of kinds.Request x (role_of me x)) out.state) refl
    where
      go : (o : Option Datagram) → first_said (is_of kinds.Request x (role_of me x)) out.state ≡ o
          → MakesRequest (say_or_repeat me out x o (Some (ask_body me (known me out.state) x Balanced))) to round
      go (Some d) e =
          let was = first_said-was (is_of kinds.Request x (role_of me x)) out.state d e in
          let is = request-is x d.message (subst (λ r. is_of kinds.Request x r d.message ≡ true) (role-initiator me x refl) was.1) in
          record { request = d; seed = is.0; commitment = is.1; body = is.2; said = said-contains out.state d (said-in out.state d was.0); sent = sent-last out d }
      go None e =
          let d : Datagram = signed me (known me out.state) (message_to me x (ask_body me (known me out.state) x Balanced)) in
          record { request = d; seed = _; commitment = _; body = refl; said = Contains-here (Said d) out.state; sent = sent-last out d }

  among-makes : (out : Out) (os : List Order) → Contains os (Ask x) → MakesRequest (perform_all me out os) to round
  among-makes out [] c = absurd (omega (arith, c.1))
  among-makes out (o ∷ os) c = go (Contains_cases o (Ask x) os c) (among-makes (perform me out o) os)
    where
      go : (o ≡ Ask x) ⊎ Contains os (Ask x) → (Contains os (Ask x) → MakesRequest (perform_all me (perform me out o) os) to round) → MakesRequest (perform_all me (perform me out o) os) to round
      go (inl e) more = all-keeps (logs me) me (λ out. MakesRequest out to round) stays (perform me out o) os (subst (λ z. MakesRequest (perform me out z) to round) (sym e) (ask-makes out))
      go (inr c) more = more c

-- ---- the tick

pub when-has : (b : Bool) (os : List Order) (o : Order) → b ≡ true → Contains os o → Contains (orders_when b os) o
when-has b os o e c = subst (λ z. Contains (orders_when z os) o) (sym e) c

-- the orders of a round's first slot contain it
tick-asks : (me : Member) (k : Knowledge) → slot_after k.ticks ≡ 0 → 1 ≤ this_round k → this_round k ≤ me.session.shape.rounds → k.is_announced (partner_then me (this_round k)) ≡ false
    → owes me k (partner_then me (this_round k)) ≡ false → Contains (orders_at_tick me k) (Ask (asking me (this_round k) Balanced (partner_then me (this_round k))))
tick-asks me k slot low high trading unowed =
    contains-front _ (orders_when (eqb (slot_after k.ticks) 7) (reports me k)) (Ask x)
    (contains-back _ _ (Ask x)
    (when-has _ (new_requests me k (this_round k)) (Ask x) (and_from _ _ (eq-eqb _ _ slot) (and_from _ _ (le-leb 1 (this_round k) low) (le-leb (this_round k) me.session.shape.rounds high)))
    (contains-front _ _ (Ask x) (when-has _ (Ask x ∷ []) (Ask x) (λ i. not (trading i || unowed i)) (Contains-here (Ask x) [])))))
  where
    x : Exchange
    x = asking me (this_round k) Balanced (partner_then me (this_round k))

pub requests-made : RequestsAreMade
unfolding machine.step
requests-made me log round due trading unowed = subst (λ r. MakesRequest (step me log event.Tick) (partner_then me r) r) due.now stepped
  where
    k : Knowledge
    k = known me (Ticked ∷ log)

    now : ℕ
    now = round_after (ticks log + 1)

    late : nat_le (last_tick me.session) (ticks log) ≡ false
    late = lt-leb (last_tick me.session) (ticks log) (omega (arith, due.now, due.high))

    open_to : is_announced (Ticked ∷ log) (partner_then me now) ≡ false
    open_to = ap is_some (or-none (first_heard (names_party (partner_then me now)) log)) ∙ subst (λ r. is_announced log (partner_then me r) ≡ false) (sym due.now) trading

    free : owes me k (partner_then me now) ≡ false
    free = subst (λ r. owes me k (partner_then me r) ≡ false) (sym due.now) unowed

    asks : MakesRequest (perform_all me (begun (Ticked ∷ log)) (orders_at_tick me k)) (partner_then me now) now
    asks = among-makes me (partner_then me now) now (begun (Ticked ∷ log)) (orders_at_tick me k) (tick-asks me k due.slot (omega arith) (omega (arith, due.now, due.high)) open_to free)

    ticked : MakesRequest (take_input me log event.Tick) (partner_then me now) now
    ticked = record { request = asks.request; seed = asks.seed; commitment = asks.commitment; body = asks.body; said = asks.said; sent = asks.sent }

    stepped : MakesRequest (cond (nat_le (last_tick me.session) (ticks log)) (begun log) (take_input me log event.Tick)) (partner_then me now) now
    stepped = subst (λ b. MakesRequest (cond b (begun log) (take_input me log event.Tick)) (partner_then me now) now) (sym late) ticked

-- ---- the partner

contains-said : (log : Log) (d : Datagram) → Contains log (Said d) → SaidIn log d
contains-said [] d c = absurd (omega (arith, c.1))
contains-said (e ∷ log) d c = go (Contains_cases e (Said d) log c) (contains-said log d)
  where
    go : (e ≡ Said d) ⊎ Contains log (Said d) → (Contains log (Said d) → SaidIn log d) → SaidIn (e ∷ log) d
    go (inl h) more = inl h
    go (inr h) more = inr (more h)

module _ (peers : PeersRun) (members : PeersAreMembers) (ruled : SignedByRule) (setup : Setup) (moves : List Move) (from to round : ℕ) (request : Datagram) (r : IsRequested setup moves from to round request) where
  abbrev me : Member
  me = member setup from

  is : IsMember me
  is = members setup from r.setup_is r.asker.0 r.asker.1

  obedient : IsObedient me r.log
  obedient =
      subst (IsObedient me) (some-equal _ _ (sym (peers setup moves r.setup_is from r.asker.0 r.asker.1).log ∙ r.log_is))
      (ruled me is (inputs_of setup moves from)).obedient

  in_log : SaidIn r.log request
  in_log = contains-said r.log request r.said

  sign : IsSignedByRule me (was-said r.log request in_log).before request
  sign = said-rule me r.log request (was-said r.log request in_log) obedient

  own : request.message.from ≡ from
  own = sign.rule.mine

  may : MayRequest me (known me (was-said r.log request in_log).before) request.message.to round r.seed r.commitment
  may = subst (λ b. MaySay me (known me (was-said r.log request in_log).before) request.message.to b) r.body sign.rule.rule

  high : round ≤ setup.session.shape.rounds
  high = subst (λ b. round_of b ≤ setup.session.shape.rounds) r.body sign.rule.high

  seeded : is_seed setup.session from round r.seed ≡ true
  seeded =
      let low : 1 ≤ from = r.asker.0 in
      let held = is.fits.anchor low in
      subst (λ z. is_seed setup.session from round z ≡ true) (sym may.seeded) (rw held (own_seed (secrets_of me) setup.session.shape.rounds round high))

  admits : (log : Log) → CanSeat (member setup to) log from round → is_admitted (member setup to) (known (member setup to) log) request ≡ true
  unfolding is_admitted
  admits log s = subst (λ d. is_admitted you k d ≡ true) (sym same) now
    where
      you : Member
      you = member setup to

      k : Knowledge
      k = known you log

      same : request ≡ with_body request (Request round r.seed r.commitment)
      same = ap (with_body request) r.body

      trading : is_announced log request.message.from ≡ false
      trading = ap (is_announced log) own ∙ s.trading

      unowed : owes you k request.message.from ≡ false
      unowed = ap (owes you k) own ∙ s.unowed

      accepted : is_signed_by setup.session (with_body request (Request round r.seed r.commitment)) ≡ true
      accepted = subst (λ d. is_signed_by setup.session d ≡ true) same (said-accepted me r.log request is obedient in_log)

      first : has_heard_of k kinds.Request (exchange_by round Balanced Initiator request.message.from request.message.to) Initiator ≡ false
      first = (λ i. has_heard_of k kinds.Request (exchange_by round Balanced Initiator (own i) (r.receiver i)) Initiator) ∙ s.first

      chosen : partner_of setup.session r.seed Balanced request.message.from ≡ to
      chosen = ap (partner_of setup.session r.seed Balanced) own ∙ sym may.chosen ∙ r.receiver

      asks : is_seed setup.session request.message.from round r.seed ≡ true
      asks = ap (λ p. is_seed setup.session p round r.seed) own ∙ seeded

      now : is_admitted you k (with_body request (Request round r.seed r.commitment)) ≡ true
      now =
          and_from _ _
          (and_from _ _ (and_from _ _ (and_from _ _ (eq-eqb request.message.to to r.receiver) (ap not trading)) accepted) (ap not first))
          (and_from _ _
          (and_from _ _ (and_from _ _ (and_from _ _ asks (eq-eqb _ to chosen)) (lt-ltb (k.asked Balanced round) seats_a_round s.seats)) (ap not unowed))
          (and_from _ _ (le-leb round (round_now log + 1) s.early) s.in_time))

pub requests-admitted : PeersRun → PeersAreMembers → SignedByRule → RequestsAreAdmitted
requests-admitted peers members ruled setup moves from to round request log r s = admits peers members ruled setup moves from to round request r log s

-- A balanced exchange continues, whatever moves occur between its deliveries.
use Rattle.std.proofs.Common.{◌≡◌, ◌∙◌, inl, inr, ℕ, ◌<◌, ◌≤◌, Bool, true, false, not, List, [], ◌∷◌, ◌++◌, length, refl, sym, ap, subst, append_assoc, arith, ◌+◌}
use Rattle.std.specs.Prelude.{Option, Some, None, is_some, slice_get, option_and_then, option_map, if◌then◌else◌}
use Rattle.std.specs.Bool.{then_some}
use Rattle.std.specs.Option.{option_map_or, option_or}
use Rattle.std.specs.Str.{bytes_eq}
use Rattle.std.proofs.lemmas.Bool.{and_from, lt-ltb, ltb-true}
use Rattle.bar_bytes.proofs.Tests.{bytes_eq-refl, eqb_refl}
use Rattle.bar_session.specs.Time.{last_tick}
use Rattle.bar_terms.specs.Table.{is_within}
use Rattle.bar_terms.specs.Terms.{promise, promised_updates}
use Rattle.bar_window.specs.Exchange.{other_role}
use Rattle.bar_window.specs.Terms.{Terms}
use Rattle.bar_window.specs.declared.exchange.Exchange.{Exchange}
use Rattle.bar_window.specs.declared.exchange.Role.{Role}
use Rattle.bar_window.specs.declared.exchange.Role.TheVariants.{Initiator, Responder}
use Rattle.bar_window.specs.declared.exchange.XKind.TheVariants.{Balanced}
use Rattle.bar_window.specs.declared.update.UpdateId.{UpdateId}
use Rattle.bar_wire.specs.Bodies.{briefcase_in, commitment_in, history_in}
use Rattle.bar_wire.specs.Datagram.{Body, Briefcase, Datagram, Divulge, Key, Response, identity_of, is_of, is_signed, kind_number, named}
use Rattle.bar_wire.specs.Grammar.{IsDatagram}
use Rattle.bar_wire.specs.Inputs as event
use Rattle.bar_wire.specs.declared.kind.Kind.{Kind}
use Rattle.bar_wire.specs.declared.kind.Kind.TheVariants as kinds
use Rattle.bar_rules.specs.Peer.Admission.{is_admitted, meets_commitment, same_terms}
use Rattle.bar_rules.specs.Peer.Evidence.{new_evidence}
use Rattle.bar_rules.specs.Peer.Holdings.{block_of, case_heard_from, case_in}
use Rattle.bar_rules.specs.Member.{Member}
use Rattle.bar_rules.specs.Peer.Exchanges.{revealed}
use Rattle.bar_rules.specs.Peer.Knowledge.{Knowledge, has_said_of, is_in_time, known, table_of, with_heard}
use Rattle.bar_rules.specs.Peer.Log.{Log, is_announced, round_now, table, ticks}
use Rattle.bar_rules.specs.Peer.Orders.{case_body}
use Rattle.bar_rules.specs.Peer.Terms.{terms_of}
use Rattle.bar_rules.specs.Secrets.{briefcase_key, commitment_of}
use Rattle.bar_rules.specs.Values.{datagram_bytes}
use Rattle.bar_rules.specs.World.World.{IsSetup, Move, Setup, member}
use Rattle.bar_laws.specs.Growing.{IsLater, PeersGrow}
use Rattle.bar_laws.specs.Knowing.{StepIsKnown}
use Rattle.bar_laws.specs.Obedience.{SignedByRule}
use Rattle.bar_laws.specs.OwnRuns.{PeersRun, brought_to, input_at}
use Rattle.bar_laws.specs.Parties.{ForgesNothing, HeardWasSaid, IsSentBy, IsTrustedPeer, KeysOpenWell, NobodyIsAccused, NobodyIsAnnounced, StepIsAccepted, after}
use Rattle.bar_laws.specs.Premises.{PeersAreMembers}
use Rattle.bar_laws.specs.Soundness.{LogIsSound}
use Rattle.bar_laws.proofs.Logs.{IsCaseOf, SaidIn, WasHeard, first_heard-was, first_said-was, is_of-case, is_of-key, is_of-own, read-fits, receiver-on, round-by, said-in, sender-on, some-equal, some-is, some-same, find-later, round-later, table-later, terms_of-later, unique, within-extends}
use Rattle.bar_laws.proofs.Runs.{heard-in}
use Rattle.bar_progress.specs.Between.{GoesOn, HaveTradedForGood, IsSent, IsTaken, PacketsAreGiven, Part, TradesGoOn, parts, receiver}
use Rattle.bar_progress.specs.Trades.{BeginsTrade, HaveTraded, Holds, and_deliver, pair_in, talk_in}
use Rattle.bar_progress.specs.Trading.{Pair, Talk, trade}
use Rattle.bar_progress.proofs.Announcing.{with_body}
use Rattle.bar_progress.proofs.Arriving.{heard-contains, signed-in}
use Rattle.bar_progress.proofs.Closing.{gains, head_of}
use Rattle.bar_progress.proofs.Happening as happening
use Rattle.bar_progress.proofs.Happening.{HeardAt, SentIn}
use Rattle.bar_progress.proofs.Hearing.{IsAmong, Sends, answer-reveals, answers, divulge-gives, response-gives}
use Rattle.bar_progress.proofs.Mirrors.{IsOfTwo, Mirrors}
use Rattle.bar_progress.proofs.Receiving as receiving
use Rattle.bar_progress.proofs.Receiving.{Comes, HasSent, IsDivulgeOf, IsResponseOf, divulge-of, heard-reveals, response-of}
use Rattle.bar_progress.proofs.Saying.{not-yet, now-first, same-terms}
use Rattle.bar_progress.proofs.Talking as talk
use Rattle.bar_progress.proofs.Talking.{PromisesEqual, terms-one, terms-two}
use Rattle.bar_progress.proofs.Trades as trades

-- ---- packets

pub packets-given : PacketsAreGiven
packets-given setup moves x part sent =
    ap (brought_to (receiver x part)) sent.packet ∙ ap (λ b. if b then event.Datagram (datagram_bytes setup.session sent.d) ∷ [] else []) (eqb_refl (receiver x part))

-- ---- two sides

module _ (knows : StepIsKnown) (peers : PeersRun) (grow : PeersGrow) (accepts : StepIsAccepted) (ruled : SignedByRule) (members : PeersAreMembers) (accuses : NobodyIsAccused) (unannounced : NobodyIsAnnounced) (equal : PromisesEqual) (hears : HeardWasSaid)
    (opens : KeysOpenWell) (sound : LogIsSound) (setup : Setup) (trusted : ℕ → Bool) (moves : List Move) (request a b round : ℕ) (nonce : List ℕ) (ha : List UpdateId)
    (r : BeginsTrade setup trusted moves request a b round nonce ha) where
  abbrev p : Pair
  p = pair_in setup a b round

  abbrev t : Talk
  t = talk_in setup a b r.way.mine r.way.theirs r.way.d

  abbrev x : Exchange
  x = trade p

  abbrev commits : List ℕ × List UpdateId
  commits = (nonce, ha)

  abbrev d1 : Datagram
  d1 = talk.d1 p t nonce ha r.can

  abbrev d2 : Datagram
  d2 = talk.d2 p t nonce ha r.can

  abbrev d3 : Datagram
  d3 = talk.d3 p t nonce ha r.can

  abbrev kb2 : Knowledge
  kb2 = talk.kb2 p t nonce ha r.can

  abbrev hb : List UpdateId
  hb = talk.hb p t nonce ha r.can

  abbrev terms : Terms
  terms = talk.terms p t nonce ha r.can

  apart : a ≡ b → ⊥
  apart = r.can.apart

  is : IsSetup setup
  is = r.way.unforged.setup_is

  fits : IsDatagram setup.session.shape d1
  fits = subst (IsDatagram setup.session.shape) (ap (head_of r.way.d) r.can.way) (read-fits setup.session (datagram_bytes setup.session r.way.d) r.way.d r.way.accepted.reads)

  present-a : a ≤ setup.session.shape.peers
  present-a = fits.may_send.0.1

  present-b : b ≤ setup.session.shape.peers
  present-b = fits.may_send.1.1

  abbrev log-a : List Move → Log
  log-a ms = happening.log_at knows peers grow accepts ruled members setup is a r.way.asks.low present-a ms

  abbrev log-b : List Move → Log
  log-b ms = happening.log_at knows peers grow accepts ruled members setup is b r.way.answers.low present-b ms

  abbrev known-a : List Move → Knowledge
  known-a ms = known (member setup a) (log-a ms)

  abbrev known-b : List Move → Knowledge
  known-b ms = known (member setup b) (log-b ms)

  -- the REQUEST is delivered
  abbrev ms1 : List Move
  ms1 = and_deliver moves request

  m1 : Mirrors setup trusted a b ms1 t.mine kb2 ((a, d2) ∷ []) (length (after setup moves).packets)
  m1 = trades.m1 knows accepts accuses equal setup trusted moves request a b round nonce ha r

  first-a : known-a ms1 ≡ t.mine
  first-a = ap (known (member setup a)) (some-equal (log-a ms1) m1.sides.mine (sym (happening.log-is knows peers grow accepts ruled members setup is a r.way.asks.low present-a ms1) ∙ m1.sides.one_is.log_is)) ∙ m1.sides.one_knows

  first-b : known-b ms1 ≡ kb2
  first-b = ap (known (member setup b)) (some-equal (log-b ms1) m1.sides.theirs (sym (happening.log-is knows peers grow accepts ruled members setup is b r.way.answers.low present-b ms1) ∙ m1.sides.two_is.log_is)) ∙ m1.sides.two_knows

  -- ---- what both know ever after

  abbrev Since : List Move → Type 0
  Since ms = (more : List Move) × (ms ≡ ms1 ++ more)

  since-more : (ms ns : List Move) → Since ms → Since (ms ++ ns)
  since-more ms ns s = (s.0 ++ ns, ap (λ l. l ++ ns) s.1 ∙ append_assoc ms1 s.0 ns)

  committed : (ms : List Move) → Since ms → (known-a ms).revealed x ≡ Some commits
  committed ms s = subst (λ z. (known-a z).revealed x ≡ Some commits) (sym s.1) (happening.revealed-stays knows peers grow accepts ruled members setup is a r.way.asks.low present-a ms1 s.0 x commits (ap (λ (k : Knowledge). k.revealed x) first-a ∙ r.can.committed))

  requested : (ms : List Move) → Since ms → has_said_of (known-a ms) kinds.Request x Initiator ≡ true
  requested ms s =
      let f = some-is (t.mine.said kinds.Request x Initiator) r.can.asked in
      subst (λ z. has_said_of (known-a z) kinds.Request x Initiator ≡ true) (sym s.1)
      (ap is_some (happening.said-stays knows peers grow accepts ruled members setup is a r.way.asks.low present-a ms1 s.0 kinds.Request x Initiator f.0 (ap (λ (k : Knowledge). k.said kinds.Request x Initiator) first-a ∙ f.1)))

  within-a : (ms : List Move) → Since ms → is_within (table_of (known-a ms)) hb ≡ true
  within-a ms s =
      subst (λ z. is_within (table (log-a z)) hb ≡ true) (sym s.1)
      (within-extends (table (log-a ms1)) (table (log-a (ms1 ++ s.0))) hb (table-later (log-a (ms1 ++ s.0)) (log-a ms1) (happening.later knows peers grow accepts ruled members setup is a r.way.asks.low present-a ms1 s.0))
      (ap (λ (k : Knowledge). is_within (table_of k) hb) first-a ∙ r.can.within_mine))

  within-b : (ms : List Move) → Since ms → is_within (table_of (known-b ms)) ha ≡ true
  within-b ms s =
      subst (λ z. is_within (table (log-b z)) ha ≡ true) (sym s.1)
      (within-extends (table (log-b ms1)) (table (log-b (ms1 ++ s.0))) ha (table-later (log-b (ms1 ++ s.0)) (log-b ms1) (happening.later knows peers grow accepts ruled members setup is b r.way.answers.low present-b ms1 s.0))
      (ap (λ (k : Knowledge). is_within (table_of k) ha) first-b ∙ r.can.within_theirs))

  answered1 : kb2.said kinds.Response x Responder ≡ Some d2
  answered1 = now-first d2 t.theirs.said kinds.Response x Responder (is_of-own d2.message round Balanced Responder refl) (r.can.unsaid_theirs kinds.Response)

  answered : (ms : List Move) → Since ms → (known-b ms).said kinds.Response x Responder ≡ Some d2
  answered ms s =
      subst (λ z. (known-b z).said kinds.Response x Responder ≡ Some d2) (sym s.1)
      (happening.said-stays knows peers grow accepts ruled members setup is b r.way.answers.low present-b ms1 s.0 kinds.Response x Responder d2 (ap (λ (k : Knowledge). k.said kinds.Response x Responder) first-b ∙ answered1))

  heard1 : kb2.heard kinds.Request x Initiator ≡ Some d1
  heard1 = now-first d1 t.theirs.heard kinds.Request x Initiator (is_of-own d1.message round Balanced Initiator refl) (r.can.fresh_theirs.unheard kinds.Request Initiator)

  asked : (ms : List Move) → Since ms → (known-b ms).heard kinds.Request x Initiator ≡ Some d1
  asked ms s =
      subst (λ z. (known-b z).heard kinds.Request x Initiator ≡ Some d1) (sym s.1)
      (happening.heard-stays knows peers grow accepts ruled members setup is b r.way.answers.low present-b ms1 s.0 kinds.Request x Initiator d1 (ap (λ (k : Knowledge). k.heard kinds.Request x Initiator) first-b ∙ heard1))

  unheard-a : (kind : Kind) → (known-a ms1).heard kind x Responder ≡ None
  unheard-a kind = ap (λ (k : Knowledge). k.heard kind x Responder) first-a ∙ r.can.fresh_mine.unheard kind Responder

  unheard-b : (kind : Kind) → is_of kind x Initiator d1.message ≡ false → (known-b ms1).heard kind x Initiator ≡ None
  unheard-b kind e = ap (λ (k : Knowledge). k.heard kind x Initiator) first-b ∙ not-yet d1 t.theirs.heard kind x Initiator e (r.can.fresh_theirs.unheard kind Initiator)

  -- ---- what was heard and sent

  abbrev Heard-a : Kind → List Move → Type 0
  Heard-a kind ms = (d : Datagram) × ((known-a ms).heard kind x Responder ≡ Some d)

  abbrev Heard-b : Kind → List Move → Type 0
  Heard-b kind ms = (d : Datagram) × ((known-b ms).heard kind x Initiator ≡ Some d)

  more-a : (kind : Kind) (ms ns : List Move) → Heard-a kind ms → Heard-a kind (ms ++ ns)
  more-a kind ms ns h = (h.0, happening.heard-stays knows peers grow accepts ruled members setup is a r.way.asks.low present-a ms ns kind x Responder h.0 h.1)

  more-b : (kind : Kind) (ms ns : List Move) → Heard-b kind ms → Heard-b kind (ms ++ ns)
  more-b kind ms ns h = (h.0, happening.heard-stays knows peers grow accepts ruled members setup is b r.way.answers.low present-b ms ns kind x Initiator h.0 h.1)

  abbrev Sent-a : Kind → List Move → Type 0
  Sent-a kind ms = HasSent knows peers grow accepts ruled members setup is a r.way.asks.low present-a b apart x Initiator refl ms kind

  abbrev Sent-b : Kind → List Move → Type 0
  Sent-b kind ms = HasSent knows peers grow accepts ruled members setup is b r.way.answers.low present-b a (λ e. apart (sym e)) x Responder refl ms kind

  -- by the side that sent it
  abbrev is-sent-a : (kind : Kind) (ms : List Move) (s : Sent-a kind ms) → IsSent setup ms x (kind, Initiator)
  is-sent-a kind ms s = record { d = s.d; number = s.sent.number; packet = s.sent.packet; reads = s.sent.accepted.reads; of = s.of }

  abbrev is-sent-b : (kind : Kind) (ms : List Move) (s : Sent-b kind ms) → IsSent setup ms x (kind, Responder)
  is-sent-b kind ms s = record { d = s.d; number = s.sent.number; packet = s.sent.packet; reads = s.sent.accepted.reads; of = s.of }

  -- a peer takes a datagram in time
  record Ready (me : Member) (log : Log) (kind : Kind) : Type 0 where
    going : ticks log < last_tick setup.session
    in_time : is_in_time setup.session (known me log) kind x.round ≡ true
    bound : kind ≡ kinds.Divulge → (c : List ℕ × List UpdateId) → revealed me log x ≡ Some c → c ≡ commits

  abbrev Ready-a : Kind → List Move → Type 0
  Ready-a kind ms = Ready (member setup a) (log-a ms) kind

  abbrev Ready-b : Kind → List Move → Type 0
  Ready-b kind ms = Ready (member setup b) (log-b ms) kind

  -- a move gives it to a peer
  abbrev Brings : ℕ → List Move → Move → Datagram → Type 0
  Brings peer ms m d = input_at (after setup ms) peer m ≡ event.Datagram (datagram_bytes setup.session d) ∷ []

  trading-a : (ms : List Move) → ForgesNothing setup trusted ms → is_announced (log-a ms) b ≡ false
  trading-a ms f = unannounced setup trusted ms f a b (log-a ms) (log-b ms) r.way.asks.low (happening.log-is knows peers grow accepts ruled members setup is a r.way.asks.low present-a ms) (record { low = r.way.answers.low; trust = r.way.answers.trust; log_is = happening.log-is knows peers grow accepts ruled members setup is b r.way.answers.low present-b ms })

  trading-b : (ms : List Move) → ForgesNothing setup trusted ms → is_announced (log-b ms) a ≡ false
  trading-b ms f = unannounced setup trusted ms f b a (log-b ms) (log-a ms) r.way.answers.low (happening.log-is knows peers grow accepts ruled members setup is b r.way.answers.low present-b ms) (record { low = r.way.asks.low; trust = r.way.asks.trust; log_is = happening.log-is knows peers grow accepts ruled members setup is a r.way.asks.low present-a ms })

  comes-a : (kind : Kind) (ms : List Move) → ForgesNothing setup trusted ms → (s : Sent-b kind ms) → Ready-a kind ms → Comes knows peers grow accepts ruled members setup is a r.way.asks.low present-a b apart x Initiator refl ms kind s.d
  comes-a kind ms f s y = record { of = s.of; signed = s.sent.accepted.accepted; trading = trading-a ms f; in_time = y.in_time }

  comes-b : (kind : Kind) (ms : List Move) → ForgesNothing setup trusted ms → (s : Sent-a kind ms) → Ready-b kind ms → Comes knows peers grow accepts ruled members setup is b r.way.answers.low present-b a (λ e. apart (sym e)) x Responder refl ms kind s.d
  comes-b kind ms f s y = record { of = s.of; signed = s.sent.accepted.accepted; trading = trading-b ms f; in_time = y.in_time }

  -- ---- RESPONSE

  sent-response : SentIn knows peers grow accepts ruled members setup is b r.way.answers.low present-b ms1 a d2
  sent-response = record {
    number = there.0;
    packet = ap (λ l. slice_get l there.0) m1.packets ∙ there.1;
    accepted = by m1.sent.0;
    said = λ e. said-in (log-b ms1) d2 (first_said-was (is_of kinds.Response x Responder) (log-b ms1) d2 (ap (λ (k : Knowledge). k.said kinds.Response x Responder) first-b ∙ answered1)).0;
  }
    where
      there : (n : ℕ) × (slice_get (m1.front ++ (a, datagram_bytes setup.session d2) ∷ []) n ≡ Some (a, datagram_bytes setup.session d2))
      there = happening.behind-get m1.front ((a, datagram_bytes setup.session d2) ∷ []) 0 (a, datagram_bytes setup.session d2) refl

      by : IsOfTwo setup a b (a, d2) → IsSentBy setup b (a, d2)
      by (inl e) = absurd (apart (sym e.from))
      by (inr e) = e

  response-sent : (ms : List Move) → Since ms → SentIn knows peers grow accepts ruled members setup is b r.way.answers.low present-b ms a d2
  response-sent ms s = subst (λ z. SentIn knows peers grow accepts ruled members setup is b r.way.answers.low present-b z a d2) (sym s.1) (happening.sent-stays knows peers grow accepts ruled members setup is b r.way.answers.low present-b ms1 s.0 a d2 sent-response)

  response-of-it : is_of kinds.Response x Responder d2.message ≡ true
  response-of-it = is_of-own d2.message round Balanced Responder refl

  response-admitted : (ms : List Move) → Since ms → ForgesNothing setup trusted ms → SentIn knows peers grow accepts ruled members setup is b r.way.answers.low present-b ms a d2 → Ready-a kinds.Response ms → (known-a ms).heard kinds.Response x Responder ≡ None → is_admitted (member setup a) (known-a ms) d2 ≡ true
  unfolding is_admitted
  response-admitted ms s f sent y none =
      and_from _ _
      (and_from _ _ (and_from _ _ (and_from _ _ (eqb_refl a) (ap not (trading-a ms f))) (sent.accepted.accepted refl)) (ap (λ (o : Option Datagram). not (is_some o)) none))
      (and_from _ _ (and_from _ _ (requested ms s) (within-a ms s)) y.in_time)

  takes-response : (ms : List Move) → Since ms → ForgesNothing setup trusted ms → (sent : SentIn knows peers grow accepts ruled members setup is b r.way.answers.low present-b ms a d2) → (m : Move) → Brings a ms m d2 → Ready-a kinds.Response ms → Heard-a kinds.Response (ms ++ m ∷ [])
  takes-response ms s f sent m brings y = happening.arrives knows peers grow accepts ruled members setup is a r.way.asks.low present-a ms m kinds.Response x Responder d2 brings sent.accepted.reads response-of-it y.going (response-admitted ms s f sent y)

  -- the one that was heard is the one that was said
  same-history : (ms : List Move) → Since ms → ForgesNothing setup trusted ms → (d : Datagram) → (known-a ms).heard kinds.Response x Responder ≡ Some d → history_in d.message.body ≡ Some hb
  same-history ms s f d e = ap (λ (z : Datagram). history_in z.message.body) one
    where
      was : WasHeard (log-a ms) d × (is_of kinds.Response x Responder d.message ≡ true)
      was = first_heard-was (is_of kinds.Response x Responder) (log-a ms) d e

      o : IsResponseOf x d.message
      o = response-of x d.message was.1

      from : d.message.from ≡ b
      from = sender-on kinds.Response x Responder d.message was.1

      to : d.message.to ≡ a
      to = receiver-on kinds.Response x Responder d.message was.1

      rounds : o.round ≡ round
      rounds = sym (round-by o.round Balanced Responder d.message.from d.message.to) ∙ ap (λ (z : Exchange). z.round) o.exchange

      said : SaidIn (log-b ms) d
      said =
          signed-in (log-b ms) d
          (hears setup trusted ms f a b (log-a ms) (log-b ms) d r.way.asks.low (happening.log-is knows peers grow accepts ruled members setup is a r.way.asks.low present-a ms) (record { trust = r.way.answers.trust; log_is = happening.log-is knows peers grow accepts ruled members setup is b r.way.answers.low present-b ms })
          (heard-contains (log-a ms) d (heard-in (log-a ms) d was.0)) (ap is_signed o.body) from)

      named-alike : identity_of d.message ≡ identity_of d2.message
      named-alike = ap (λ (z : Body). kind_number z ∷ named z d.message.from d.message.to) o.body ∙ (λ i. 4 ∷ from i ∷ to i ∷ rounds i ∷ [])

      one : d ≡ d2
      one = unique (member setup b) (log-b ms) d d2 (happening.obedient knows peers grow accepts ruled members setup is b r.way.answers.low present-b ms) said (said-in (log-b ms) d2 (first_said-was (is_of kinds.Response x Responder) (log-b ms) d2 (answered ms s)).0) named-alike

  terms-a : (ms : List Move) → Since ms → ForgesNothing setup trusted ms → Heard-a kinds.Response ms → terms_of (member setup a) (known-a ms) x ≡ Some terms
  terms-a ms s f h = terms-one p (known-a ms) nonce ha hb h.0 (committed ms s) h.1 (same-history ms s f h.0 h.1)

  -- it is answered by the DIVULGE and the CASE
  response-answered : (ms : List Move) → Since ms → ForgesNothing setup trusted ms → Heard-a kinds.Response ms → SentIn knows peers grow accepts ruled members setup is a r.way.asks.low present-a ms b d3 × Sent-a kinds.Case ms
  response-answered ms s f heard = (
    happening.sent-then knows peers grow accepts ruled members setup is a r.way.asks.low present-a ms1 ms kinds.Response x Responder h b d3 given.0,
    record { d = given.1.d; sent = happening.sent-then knows peers grow accepts ruled members setup is a r.way.asks.low present-a ms1 ms kinds.Response x Responder h b given.1.d given.1.among; of = given.1.of },
  )
    where
      h : HeardAt knows peers grow accepts ruled members setup is a r.way.asks.low present-a ms1 ms kinds.Response x Responder
      h = subst (λ z. HeardAt knows peers grow accepts ruled members setup is a r.way.asks.low present-a ms1 z kinds.Response x Responder) (sym s.1) (happening.heard-at knows peers grow accepts ruled members setup is a r.way.asks.low present-a ms1 s.0 kinds.Response x Responder heard.0 (unheard-a kinds.Response) (subst (λ z. (known-a z).heard kinds.Response x Responder ≡ Some heard.0) s.1 heard.1))

      o : IsResponseOf x h.now.d.message
      o = response-of x h.now.d.message h.now.of

      e : h.now.d ≡ with_body h.now.d (Response o.round o.hb)
      e = ap (with_body h.now.d) o.body

      k : Knowledge
      k = known-a h.before

      revealed_then : k.revealed x ≡ Some commits
      revealed_then = committed h.before (h.more, h.since)

      history : history_in h.now.d.message.body ≡ Some hb
      history = same-history ms s f h.now.d (happening.heard-then knows peers grow accepts ruled members setup is a r.way.asks.low present-a ms1 ms kinds.Response x Responder h)

      terms_then : terms_of (member setup a) (with_heard (member setup a) (with_body h.now.d (Response o.round o.hb)) k) x ≡ Some terms
      terms_then =
          terms-one p (with_heard (member setup a) (with_body h.now.d (Response o.round o.hb)) k) nonce ha hb (with_body h.now.d (Response o.round o.hb)) revealed_then
          (now-first (with_body h.now.d (Response o.round o.hb)) k.heard kinds.Response x Responder (subst (λ (z : Datagram). is_of kinds.Response x Responder z.message ≡ true) e h.now.of) h.none)
          (subst (λ (z : Datagram). history_in z.message.body ≡ Some hb) e history)

      given : IsAmong (b, d3) (answers (member setup a) k h.now.d (new_evidence (member setup a) k h.now.d)).sends × Sends (answers (member setup a) k h.now.d (new_evidence (member setup a) k h.now.d)).sends b kinds.Case x Initiator
      given =
          subst (λ z. IsAmong (b, d3) (answers (member setup a) k z (new_evidence (member setup a) k h.now.d)).sends × Sends (answers (member setup a) k z (new_evidence (member setup a) k h.now.d)).sends b kinds.Case x Initiator) (sym e)
          (response-gives (member setup a) k h.now.d o.round o.hb (new_evidence (member setup a) k h.now.d) x b commits terms o.exchange (receiving.role-is knows peers grow accepts ruled members setup is a r.way.asks.low present-a b apart x Initiator refl) (receiving.partner-is knows peers grow accepts ruled members setup is a r.way.asks.low present-a b apart x Initiator refl) terms_then r.can.worth revealed_then
          (λ c g. (first_said-was (is_of kinds.Case x Initiator) (log-a h.before) c g).1)
          (λ l. receiving.own-of knows peers grow accepts ruled members setup is a r.way.asks.low present-a b apart x Initiator refl (case_body (member setup a) l x terms) (ap (λ (z : Role). Some (x.round, x.kind, z)) (receiving.role-is knows peers grow accepts ruled members setup is a r.way.asks.low present-a b apart x Initiator refl))))

  -- ---- DIVULGE

  divulge-of-it : is_of kinds.Divulge x Initiator d3.message ≡ true
  divulge-of-it = is_of-own d3.message round Balanced Initiator refl

  met : (ms : List Move) → Since ms → meets_commitment (member setup b) (known-b ms) x nonce ha ≡ true
  met ms s =
      ap (λ o. option_map_or (λ z. bytes_eq z (commitment_of setup.session x nonce ha)) (option_and_then commitment_in (option_map (λ (d : Datagram). d.message.body) o)) false) (asked ms s)
      ∙ bytes_eq-refl (commitment_of setup.session x nonce ha)

  divulge-admitted : (ms : List Move) → Since ms → ForgesNothing setup trusted ms → Ready-b kinds.Divulge ms → (known-b ms).heard kinds.Divulge x Initiator ≡ None → is_admitted (member setup b) (known-b ms) d3 ≡ true
  unfolding is_admitted
  divulge-admitted ms s f y none =
      and_from _ _
      (and_from _ _ (and_from _ _ (and_from _ _ (eqb_refl b) (ap not (trading-b ms f))) refl) refl)
      (and_from _ _ (and_from _ _ (and_from _ _ (met ms s) (ap (λ (o : Option Datagram). not (is_some o)) none)) (within-b ms s)) y.in_time)

  abbrev Revealed-b : List Move → Type 0
  Revealed-b ms = (known-b ms).revealed x ≡ Some commits

  more-revealed : (ms ns : List Move) → Revealed-b ms → Revealed-b (ms ++ ns)
  more-revealed ms ns e = happening.revealed-stays knows peers grow accepts ruled members setup is b r.way.answers.low present-b ms ns x commits e

  takes-divulge : (ms : List Move) → Since ms → ForgesNothing setup trusted ms → (sent : SentIn knows peers grow accepts ruled members setup is a r.way.asks.low present-a ms b d3) → (m : Move) → Brings b ms m d3 → Ready-b kinds.Divulge ms → Heard-b kinds.Divulge (ms ++ m ∷ []) × Revealed-b (ms ++ m ∷ [])
  takes-divulge ms s f sent m brings y = (
    happening.arrives knows peers grow accepts ruled members setup is b r.way.answers.low present-b ms m kinds.Divulge x Initiator d3 brings sent.accepted.reads divulge-of-it y.going (divulge-admitted ms s f y),
    go ((known-b ms).heard kinds.Divulge x Initiator) refl,
  )
    where
      learned-then : (o : Option (List ℕ × List UpdateId)) → (known-b ms).revealed x ≡ o → option_or o (then_some (is_of kinds.Divulge x Initiator d3.message) commits) ≡ Some commits
      learned-then (Some c) e = ap Some (y.bound refl c e)
      learned-then None e = ap (λ z. then_some z commits) divulge-of-it

      go : (o : Option Datagram) → (known-b ms).heard kinds.Divulge x Initiator ≡ o → Revealed-b (ms ++ m ∷ [])
      go (Some d) e =
          let f = heard-reveals (member setup b) (log-b ms) x d e in
          more-revealed ms (m ∷ []) (f.1 ∙ ap Some (y.bound refl f.0 f.1))
      go None e =
          ap (λ (k : Knowledge). k.revealed x) (happening.knows-given knows peers grow accepts ruled members setup is b r.way.answers.low present-b ms m d3 brings sent.accepted.reads y.going (divulge-admitted ms s f y e))
          ∙ answer-reveals (member setup b) x commits (known-b ms) d3 (new_evidence (member setup b) (known-b ms) d3) (learned-then ((known-b ms).revealed x) refl)

  terms-b : (ms : List Move) → Since ms → Revealed-b ms → terms_of (member setup b) (known-b ms) x ≡ Some terms
  terms-b ms s e = terms-two p (known-b ms) nonce ha hb d2 apart e (answered ms s) refl

  -- it is answered by the CASE
  divulge-answered : (ms : List Move) → Since ms → Heard-b kinds.Divulge ms → Revealed-b ms → Sent-b kinds.Case ms
  divulge-answered ms s heard shown = record { d = given.d; sent = happening.sent-then knows peers grow accepts ruled members setup is b r.way.answers.low present-b ms1 ms kinds.Divulge x Initiator h a given.d given.among; of = given.of }
    where
      h : HeardAt knows peers grow accepts ruled members setup is b r.way.answers.low present-b ms1 ms kinds.Divulge x Initiator
      h = subst (λ z. HeardAt knows peers grow accepts ruled members setup is b r.way.answers.low present-b ms1 z kinds.Divulge x Initiator) (sym s.1) (happening.heard-at knows peers grow accepts ruled members setup is b r.way.answers.low present-b ms1 s.0 kinds.Divulge x Initiator heard.0 (unheard-b kinds.Divulge refl) (subst (λ z. (known-b z).heard kinds.Divulge x Initiator ≡ Some heard.0) s.1 heard.1))

      o : IsDivulgeOf x h.now.d.message
      o = divulge-of x h.now.d.message h.now.of

      e : h.now.d ≡ with_body h.now.d (Divulge o.round o.nonce o.ha)
      e = ap (with_body h.now.d) o.body

      k : Knowledge
      k = known-b h.before

      some-revealed : (c : Option (List ℕ × List UpdateId)) (z : Bool) → z ≡ true → (v : List ℕ × List UpdateId) × (option_or c (then_some z (o.nonce, o.ha)) ≡ Some v)
      some-revealed (Some c) z f = (c, refl)
      some-revealed None z f = ((o.nonce, o.ha), ap (λ w. then_some w (o.nonce, o.ha)) f)

      v : (v : List ℕ × List UpdateId) × ((with_heard (member setup b) (with_body h.now.d (Divulge o.round o.nonce o.ha)) k).revealed x ≡ Some v)
      v = some-revealed (k.revealed x) (is_of kinds.Divulge x Initiator (with_body h.now.d (Divulge o.round o.nonce o.ha)).message) (subst (λ (z : Datagram). is_of kinds.Divulge x Initiator z.message ≡ true) e h.now.of)

      same : v.0 ≡ commits
      same = some-same ((known-b ms).revealed x) v.0 commits (happening.revealed-then knows peers grow accepts ruled members setup is b r.way.answers.low present-b ms1 ms kinds.Divulge x x Initiator h v.0 (subst (λ (z : Datagram). (with_heard (member setup b) z k).revealed x ≡ Some v.0) (sym e) v.1)) shown

      terms_then : terms_of (member setup b) (with_heard (member setup b) (with_body h.now.d (Divulge o.round o.nonce o.ha)) k) x ≡ Some terms
      terms_then =
          terms-two p (with_heard (member setup b) (with_body h.now.d (Divulge o.round o.nonce o.ha)) k) nonce ha hb d2 apart (v.1 ∙ ap Some same) (answered h.before (h.more, h.since)) refl

      given : Sends (answers (member setup b) k h.now.d (new_evidence (member setup b) k h.now.d)).sends a kinds.Case x Responder
      given =
          subst (λ z. Sends (answers (member setup b) k z (new_evidence (member setup b) k h.now.d)).sends a kinds.Case x Responder) (sym e)
          (divulge-gives (member setup b) k h.now.d o.round o.nonce o.ha (new_evidence (member setup b) k h.now.d) x a terms o.exchange (receiving.role-is knows peers grow accepts ruled members setup is b r.way.answers.low present-b a (λ e. apart (sym e)) x Responder refl) (receiving.partner-is knows peers grow accepts ruled members setup is b r.way.answers.low present-b a (λ e. apart (sym e)) x Responder refl) terms_then r.can.worth
          (λ c g. (first_said-was (is_of kinds.Case x Responder) (log-b h.before) c g).1)
          (λ l. receiving.own-of knows peers grow accepts ruled members setup is b r.way.answers.low present-b a (λ e. apart (sym e)) x Responder refl (case_body (member setup b) l x terms) (ap (λ (z : Role). Some (x.round, x.kind, z)) (receiving.role-is knows peers grow accepts ruled members setup is b r.way.answers.low present-b a (λ e. apart (sym e)) x Responder refl))))

  -- ---- CASE

  signed-case : (role : Role) (d : Datagram) → is_of kinds.Case x role d.message ≡ true → is_signed d.message.body ≡ true
  signed-case role d of = ap is_signed (is_of-case x role d.message of).body

  given-a : (ms : List Move) → Sent-a kinds.Case ms → has_said_of (known-a ms) kinds.Case x Initiator ≡ true
  given-a ms s = receiving.sent-is-said knows peers grow accepts ruled members setup is a r.way.asks.low present-a b apart x Initiator refl ms kinds.Case s (signed-case Initiator s.d s.of)

  given-b : (ms : List Move) → Sent-b kinds.Case ms → has_said_of (known-b ms) kinds.Case x Responder ≡ true
  given-b ms s = receiving.sent-is-said knows peers grow accepts ruled members setup is b r.way.answers.low present-b a (λ e. apart (sym e)) x Responder refl ms kinds.Case s (signed-case Responder s.d s.of)

  agree : same_terms terms terms ≡ true
  agree = same-terms terms

  takes-case-b : (ms : List Move) → Since ms → ForgesNothing setup trusted ms → Heard-a kinds.Response ms → Revealed-b ms → (theirs : Sent-a kinds.Case ms) → Sent-b kinds.Case ms → (m : Move) → Brings b ms m theirs.d → Ready-b kinds.Case ms
      → Heard-b kinds.Case (ms ++ m ∷ [])
  takes-case-b ms s f h1 shown theirs ours m brings y =
      let k : IsCaseOf x Initiator theirs.d.message = is_of-case x Initiator theirs.d.message theirs.of in
      let says = receiving.said-content knows peers grow accepts ruled members setup is a r.way.asks.low present-a b apart x Initiator refl ms terms theirs.d k (terms-a ms s f h1) (theirs.sent.said (signed-case Initiator theirs.d theirs.of)) in
      happening.arrives knows peers grow accepts ruled members setup is b r.way.answers.low present-b ms m kinds.Case x Initiator theirs.d brings theirs.sent.accepted.reads theirs.of y.going
      (receiving.case-admitted knows peers grow accepts ruled members setup is b r.way.answers.low present-b a (λ e. apart (sym e)) x Responder refl ms theirs.d k terms (comes-b kinds.Case ms f theirs y) (given-b ms ours) (terms-b ms s shown) says.0 agree says.1)

  takes-case-a : (ms : List Move) → Since ms → ForgesNothing setup trusted ms → Heard-a kinds.Response ms → Revealed-b ms → (theirs : Sent-b kinds.Case ms) → Sent-a kinds.Case ms → (m : Move) → Brings a ms m theirs.d → Ready-a kinds.Case ms
      → Heard-a kinds.Case (ms ++ m ∷ [])
  takes-case-a ms s f h1 shown theirs ours m brings y =
      let k : IsCaseOf x Responder theirs.d.message = is_of-case x Responder theirs.d.message theirs.of in
      let says = receiving.said-content knows peers grow accepts ruled members setup is b r.way.answers.low present-b a (λ e. apart (sym e)) x Responder refl ms terms theirs.d k (terms-b ms s shown) (theirs.sent.said (signed-case Responder theirs.d theirs.of)) in
      happening.arrives knows peers grow accepts ruled members setup is a r.way.asks.low present-a ms m kinds.Case x Responder theirs.d brings theirs.sent.accepted.reads theirs.of y.going
      (receiving.case-admitted knows peers grow accepts ruled members setup is a r.way.asks.low present-a b apart x Initiator refl ms theirs.d k terms (comes-a kinds.Case ms f theirs y) (given-a ms ours) (terms-a ms s f h1) says.0 agree says.1)

  -- each is answered by a KEYREQ
  case-answered-b : (ms : List Move) → Since ms → Heard-b kinds.Case ms → Sent-b kinds.KeyReq ms
  case-answered-b ms s h =
      subst (λ z. Sent-b kinds.KeyReq z) (sym s.1)
      (receiving.case-asked knows peers grow accepts ruled members setup is b r.way.answers.low present-b a (λ e. apart (sym e)) x Responder refl ms1 s.0 h.0 (unheard-b kinds.Case refl) (subst (λ z. (known-b z).heard kinds.Case x Initiator ≡ Some h.0) s.1 h.1))

  case-answered-a : (ms : List Move) → Since ms → Heard-a kinds.Case ms → Sent-a kinds.KeyReq ms
  case-answered-a ms s h =
      subst (λ z. Sent-a kinds.KeyReq z) (sym s.1)
      (receiving.case-asked knows peers grow accepts ruled members setup is a r.way.asks.low present-a b apart x Initiator refl ms1 s.0 h.0 (unheard-a kinds.Case) (subst (λ z. (known-a z).heard kinds.Case x Responder ≡ Some h.0) s.1 h.1))

  -- ---- KEYREQ

  takes-request-a : (ms : List Move) → ForgesNothing setup trusted ms → (theirs : Sent-b kinds.KeyReq ms) → Sent-a kinds.Case ms → Heard-a kinds.Case ms → (m : Move) → Brings a ms m theirs.d → Ready-a kinds.KeyReq ms → Heard-a kinds.KeyReq (ms ++ m ∷ [])
  takes-request-a ms f theirs ours h m brings y =
      happening.arrives knows peers grow accepts ruled members setup is a r.way.asks.low present-a ms m kinds.KeyReq x Responder theirs.d brings theirs.sent.accepted.reads theirs.of y.going
      (receiving.request-admitted knows peers grow accepts ruled members setup is a r.way.asks.low present-a b apart x Initiator refl ms theirs.d (comes-a kinds.KeyReq ms f theirs y) (given-a ms ours) (ap is_some h.1))

  takes-request-b : (ms : List Move) → ForgesNothing setup trusted ms → (theirs : Sent-a kinds.KeyReq ms) → Sent-b kinds.Case ms → Heard-b kinds.Case ms → (m : Move) → Brings b ms m theirs.d → Ready-b kinds.KeyReq ms → Heard-b kinds.KeyReq (ms ++ m ∷ [])
  takes-request-b ms f theirs ours h m brings y =
      happening.arrives knows peers grow accepts ruled members setup is b r.way.answers.low present-b ms m kinds.KeyReq x Initiator theirs.d brings theirs.sent.accepted.reads theirs.of y.going
      (receiving.request-admitted knows peers grow accepts ruled members setup is b r.way.answers.low present-b a (λ e. apart (sym e)) x Responder refl ms theirs.d (comes-b kinds.KeyReq ms f theirs y) (given-b ms ours) (ap is_some h.1))

  request-answered-a : (ms : List Move) → Since ms → Heard-a kinds.KeyReq ms → Sent-a kinds.Key ms
  request-answered-a ms s h =
      subst (λ z. Sent-a kinds.Key z) (sym s.1)
      (receiving.key-given knows peers grow accepts ruled members setup is a r.way.asks.low present-a b apart x Initiator refl ms1 s.0 h.0 (unheard-a kinds.KeyReq) (subst (λ z. (known-a z).heard kinds.KeyReq x Responder ≡ Some h.0) s.1 h.1))

  request-answered-b : (ms : List Move) → Since ms → Heard-b kinds.KeyReq ms → Sent-b kinds.Key ms
  request-answered-b ms s h =
      subst (λ z. Sent-b kinds.Key z) (sym s.1)
      (receiving.key-given knows peers grow accepts ruled members setup is b r.way.answers.low present-b a (λ e. apart (sym e)) x Responder refl ms1 s.0 h.0 (unheard-b kinds.KeyReq refl) (subst (λ z. (known-b z).heard kinds.KeyReq x Initiator ≡ Some h.0) s.1 h.1))

  -- ---- KEY

  takes-key-b : (ms : List Move) → ForgesNothing setup trusted ms → (theirs : Sent-a kinds.Key ms) → Sent-b kinds.Case ms → Heard-b kinds.Case ms → (m : Move) → Brings b ms m theirs.d → Ready-b kinds.Key ms → Heard-b kinds.Key (ms ++ m ∷ [])
  takes-key-b ms f theirs ours h m brings y =
      happening.arrives knows peers grow accepts ruled members setup is b r.way.answers.low present-b ms m kinds.Key x Initiator theirs.d brings theirs.sent.accepted.reads theirs.of y.going
      (receiving.key-admitted knows peers grow accepts ruled members setup is b r.way.answers.low present-b a (λ e. apart (sym e)) x Responder refl ms theirs.d (comes-b kinds.Key ms f theirs y) (given-b ms ours) (ap is_some h.1))

  takes-key-a : (ms : List Move) → ForgesNothing setup trusted ms → (theirs : Sent-b kinds.Key ms) → Sent-a kinds.Case ms → Heard-a kinds.Case ms → (m : Move) → Brings a ms m theirs.d → Ready-a kinds.Key ms → Heard-a kinds.Key (ms ++ m ∷ [])
  takes-key-a ms f theirs ours h m brings y =
      happening.arrives knows peers grow accepts ruled members setup is a r.way.asks.low present-a ms m kinds.Key x Responder theirs.d brings theirs.sent.accepted.reads theirs.of y.going
      (receiving.key-admitted knows peers grow accepts ruled members setup is a r.way.asks.low present-a b apart x Initiator refl ms theirs.d (comes-a kinds.Key ms f theirs y) (given-a ms ours) (ap is_some h.1))

  signed-key : (role : Role) (d : Datagram) → is_of kinds.Key x role d.message ≡ true → is_signed d.message.body ≡ true
  signed-key role d of = ap is_signed (is_of-key x role d.message of).body

  keyed-a : (ms : List Move) → Sent-a kinds.Key ms → has_said_of (known-a ms) kinds.Key x Initiator ≡ true
  keyed-a ms s = receiving.sent-is-said knows peers grow accepts ruled members setup is a r.way.asks.low present-a b apart x Initiator refl ms kinds.Key s (signed-key Initiator s.d s.of)

  keyed-b : (ms : List Move) → Sent-b kinds.Key ms → has_said_of (known-b ms) kinds.Key x Responder ≡ true
  keyed-b ms s = receiving.sent-is-said knows peers grow accepts ruled members setup is b r.way.answers.low present-b a (λ e. apart (sym e)) x Responder refl ms kinds.Key s (signed-key Responder s.d s.of)

  abbrev Key-of : Role → List ℕ → Body
  Key-of role key = Key (record { round = x.round; kind = x.kind; role = role; key = key })

  -- what was heard as a key is what the other said
  key-opens-a : (ms : List Move) → ForgesNothing setup trusted ms → (h : Heard-a kinds.Key ms) → h.0.message.body ≡ Key-of Responder (briefcase_key (member setup b) x Responder)
  key-opens-a ms f h =
      let was = first_heard-was (is_of kinds.Key x Responder) (log-a ms) h.0 h.1 in
      receiving.said-key knows peers grow accepts ruled members setup is b r.way.answers.low present-b a (λ e. apart (sym e)) x Responder refl ms h.0
      (signed-in (log-b ms) h.0
      (hears setup trusted ms f a b (log-a ms) (log-b ms) h.0 r.way.asks.low (happening.log-is knows peers grow accepts ruled members setup is a r.way.asks.low present-a ms) (record { trust = r.way.answers.trust; log_is = happening.log-is knows peers grow accepts ruled members setup is b r.way.answers.low present-b ms })
      (heard-contains (log-a ms) h.0 (heard-in (log-a ms) h.0 was.0)) (signed-key Responder h.0 was.1) (sender-on kinds.Key x Responder h.0.message was.1)))
      was.1

  key-opens-b : (ms : List Move) → ForgesNothing setup trusted ms → (h : Heard-b kinds.Key ms) → h.0.message.body ≡ Key-of Initiator (briefcase_key (member setup a) x Initiator)
  key-opens-b ms f h =
      let was = first_heard-was (is_of kinds.Key x Initiator) (log-b ms) h.0 h.1 in
      receiving.said-key knows peers grow accepts ruled members setup is a r.way.asks.low present-a b apart x Initiator refl ms h.0
      (signed-in (log-a ms) h.0
      (hears setup trusted ms f b a (log-b ms) (log-a ms) h.0 r.way.answers.low (happening.log-is knows peers grow accepts ruled members setup is b r.way.answers.low present-b ms) (record { trust = r.way.asks.trust; log_is = happening.log-is knows peers grow accepts ruled members setup is a r.way.asks.low present-a ms })
      (heard-contains (log-b ms) h.0 (heard-in (log-b ms) h.0 was.0)) (signed-key Initiator h.0 was.1) (sender-on kinds.Key x Initiator h.0.message was.1)))
      was.1

  -- ---- the end

  even : length (promise setup.session.cap terms Initiator) ≡ length (promise setup.session.cap terms Responder)
  even = equal setup.session.cap terms r.can.worth

  abbrev count : ℕ
  count = length (promise setup.session.cap terms Initiator)

  -- the briefcase that was heard has the terms
  case-heard-a : (ms : List Move) → Since ms → ForgesNothing setup trusted ms → Heard-a kinds.Response ms → Heard-a kinds.Case ms → (c : Briefcase) × (case_heard_from (log-a ms) x Responder ≡ Some c) × (c.terms ≡ terms) × (c.role ≡ Responder)
  case-heard-a ms s f h1 h =
      let k : IsCaseOf x Responder h.0.message = is_of-case x Responder h.0.message (first_heard-was (is_of kinds.Case x Responder) (log-a ms) h.0 h.1).1 in
      let found : case_heard_from (log-a ms) x Responder ≡ Some k.case = ap case_in h.1 ∙ ap briefcase_in k.body in
      let told = (sound (member setup a) (log-a ms) (happening.obedient knows peers grow accepts ruled members setup is a r.way.asks.low present-a ms)).theirs x k.case (ap (λ z. case_heard_from (log-a ms) x (other_role z)) (receiving.role-is knows peers grow accepts ruled members setup is a r.way.asks.low present-a b apart x Initiator refl) ∙ found) in
      (k.case, found, some-same (terms_of (member setup a) (known-a ms) x) k.case.terms terms told.terms (terms-a ms s f h1), k.side)

  case-heard-b : (ms : List Move) → Since ms → Revealed-b ms → Heard-b kinds.Case ms → (c : Briefcase) × (case_heard_from (log-b ms) x Initiator ≡ Some c) × (c.terms ≡ terms) × (c.role ≡ Initiator)
  case-heard-b ms s shown h =
      let k : IsCaseOf x Initiator h.0.message = is_of-case x Initiator h.0.message (first_heard-was (is_of kinds.Case x Initiator) (log-b ms) h.0 h.1).1 in
      let found : case_heard_from (log-b ms) x Initiator ≡ Some k.case = ap case_in h.1 ∙ ap briefcase_in k.body in
      let told = (sound (member setup b) (log-b ms) (happening.obedient knows peers grow accepts ruled members setup is b r.way.answers.low present-b ms)).theirs x k.case (ap (λ z. case_heard_from (log-b ms) x (other_role z)) (receiving.role-is knows peers grow accepts ruled members setup is b r.way.answers.low present-b a (λ e. apart (sym e)) x Responder refl) ∙ found) in
      (k.case, found, some-same (terms_of (member setup b) (known-b ms) x) k.case.terms terms told.terms (terms-b ms s shown), k.side)

  -- all eight parts were heard
  record AllHeard (ms : List Move) : Type 0 where
    since : Since ms
    response : Heard-a kinds.Response ms
    divulge : Heard-b kinds.Divulge ms
    shown : Revealed-b ms
    case-b : Heard-b kinds.Case ms
    case-a : Heard-a kinds.Case ms
    request-a : Heard-a kinds.KeyReq ms
    request-b : Heard-b kinds.KeyReq ms
    key-b : Heard-b kinds.Key ms
    key-a : Heard-a kinds.Key ms

  trusted-a : (ms : List Move) → IsTrustedPeer trusted (after setup ms) a (log-a ms)
  trusted-a ms = record { low = r.way.asks.low; trust = r.way.asks.trust; log_is = happening.log-is knows peers grow accepts ruled members setup is a r.way.asks.low present-a ms }

  trusted-b : (ms : List Move) → IsTrustedPeer trusted (after setup ms) b (log-b ms)
  trusted-b ms = record { low = r.way.answers.low; trust = r.way.answers.trust; log_is = happening.log-is knows peers grow accepts ruled members setup is b r.way.answers.low present-b ms }

  -- updates that are held are still held later, if they are alive
  holds-later : (log before : Log) (us : List UpdateId) → IsLater log before → Holds setup before us → Holds setup log us
  holds-later log before us more h u c alive =
      let past : round_now before ≤ round_now log = round-later log before more in
      let early : round_now log < u.round + setup.session.shape.life = ltb-true (round_now log) (u.round + setup.session.shape.life) alive in
      let f = some-is (block_of setup.session before u) (h u c (lt-ltb (round_now before) (u.round + setup.session.shape.life) (omega (arith, past, early)))) in
      ap is_some (find-later _ log before f.0 more f.1)

  gains-a : (ms : List Move) → ForgesNothing setup trusted ms → AllHeard ms → Holds setup (log-a ms) (promised_updates setup.session.cap terms Responder)
  gains-a ms f h =
      let c = case-heard-a ms h.since f h.response h.case-a in
      subst (λ (l : List UpdateId). Holds setup (log-a ms) l) (λ i. promised_updates setup.session.cap (c.2 i) (c.3 i))
      (gains opens setup trusted ms f a b (log-a ms) (log-b ms) (trusted-a ms) (trusted-b ms) x Responder refl h.key-a.0 h.key-a.1 c.0 c.1)

  gains-b : (ms : List Move) → ForgesNothing setup trusted ms → AllHeard ms → Holds setup (log-b ms) (promised_updates setup.session.cap terms Initiator)
  gains-b ms f h =
      let c = case-heard-b ms h.since h.shown h.case-b in
      subst (λ (l : List UpdateId). Holds setup (log-b ms) l) (λ i. promised_updates setup.session.cap (c.2 i) (c.3 i))
      (gains opens setup trusted ms f b a (log-b ms) (log-a ms) (trusted-b ms) (trusted-a ms) x Initiator refl h.key-b.0 h.key-b.1 c.0 c.1)

  -- after the last part both have traded, and nothing later undoes it
  have-traded : (ms later : List Move) → ForgesNothing setup trusted ms → AllHeard ms → HaveTraded setup x terms (log-a (ms ++ later)) (log-b (ms ++ later))
  unfolding more-a more-b
  have-traded ms later f h = record {
    first =
        receiving.traded knows peers grow accepts ruled members setup is a r.way.asks.low present-a b apart x Initiator refl sound (ms ++ later) terms count h.case-a.0 h.key-a.0 (briefcase_key (member setup b) x Responder)
        (terms_of-later (member setup a) (log-a (ms ++ later)) (log-a ms) x terms (happening.later knows peers grow accepts ruled members setup is a r.way.asks.low present-a ms later) (terms-a ms h.since f h.response)) refl (sym even)
        (given-a (ms ++ later) (receiving.sent-more knows peers grow accepts ruled members setup is a r.way.asks.low present-a b apart x Initiator refl ms later kinds.Case (response-answered ms h.since f h.response).1)) (more-a kinds.Case ms later h.case-a).1
        (keyed-a (ms ++ later) (receiving.sent-more knows peers grow accepts ruled members setup is a r.way.asks.low present-a b apart x Initiator refl ms later kinds.Key (request-answered-a ms h.since h.request-a))) (more-a kinds.Key ms later h.key-a).1 (key-opens-a ms f h.key-a);
    second =
        receiving.traded knows peers grow accepts ruled members setup is b r.way.answers.low present-b a (λ e. apart (sym e)) x Responder refl sound (ms ++ later) terms count h.case-b.0 h.key-b.0 (briefcase_key (member setup a) x Initiator)
        (terms_of-later (member setup b) (log-b (ms ++ later)) (log-b ms) x terms (happening.later knows peers grow accepts ruled members setup is b r.way.answers.low present-b ms later) (terms-b ms h.since h.shown)) (sym even) refl
        (given-b (ms ++ later) (receiving.sent-more knows peers grow accepts ruled members setup is b r.way.answers.low present-b a (λ e. apart (sym e)) x Responder refl ms later kinds.Case (divulge-answered ms h.since h.divulge h.shown))) (more-b kinds.Case ms later h.case-b).1
        (keyed-b (ms ++ later) (receiving.sent-more knows peers grow accepts ruled members setup is b r.way.answers.low present-b a (λ e. apart (sym e)) x Responder refl ms later kinds.Key (request-answered-b ms h.since h.request-b))) (more-b kinds.Key ms later h.key-b).1 (key-opens-b ms f h.key-b);
    first_gains = holds-later (log-a (ms ++ later)) (log-a ms) (promised_updates setup.session.cap terms Responder) (happening.later knows peers grow accepts ruled members setup is a r.way.asks.low present-a ms later) (gains-a ms f h);
    second_gains = holds-later (log-b (ms ++ later)) (log-b ms) (promised_updates setup.session.cap terms Initiator) (happening.later knows peers grow accepts ruled members setup is b r.way.answers.low present-b ms later) (gains-b ms f h);
  }

  -- ---- the parts, last first

  abbrev Ends : List Move → Type 0
  Ends ms = HaveTradedForGood setup trusted a b round terms ms

  abbrev Goes : List Part → List Move → Type 0
  Goes rest ms = GoesOn setup trusted x commits Ends rest ms

  -- a party that takes it in time is ready
  ready-a : (kind : Kind) (ms : List Move) (m : Move) (d : Datagram) → IsTaken setup ms m a d x kind commits → Ready-a kind ms
  ready-a kind ms m d y =
      subst (λ l. Ready (member setup a) l kind) (some-equal y.log (log-a ms) (sym y.log_is ∙ happening.log-is knows peers grow accepts ruled members setup is a r.way.asks.low present-a ms))
      (record { going = y.going; in_time = y.in_time; bound = y.bound })

  ready-b : (kind : Kind) (ms : List Move) (m : Move) (d : Datagram) → IsTaken setup ms m b d x kind commits → Ready-b kind ms
  ready-b kind ms m d y =
      subst (λ l. Ready (member setup b) l kind) (some-equal y.log (log-b ms) (sym y.log_is ∙ happening.log-is knows peers grow accepts ruled members setup is b r.way.answers.low present-b ms))
      (record { going = y.going; in_time = y.in_time; bound = y.bound })

  goes8 : (ms : List Move) → AllHeard ms → Goes [] ms
  goes8 ms h f later mine theirs at bt =
      let now : List Move = ms ++ later in
      subst (λ l. HaveTraded setup x terms l theirs) (some-equal (log-a now) mine (sym (happening.log-is knows peers grow accepts ruled members setup is a r.way.asks.low present-a now) ∙ at))
      (subst (λ l. HaveTraded setup x terms (log-a now) l) (some-equal (log-b now) theirs (sym (happening.log-is knows peers grow accepts ruled members setup is b r.way.answers.low present-b now) ∙ bt)) (have-traded ms later f h))

  goes7 : (ms : List Move) → Since ms → Heard-a kinds.Response ms → Heard-b kinds.Divulge ms → Revealed-b ms → Heard-b kinds.Case ms → Heard-a kinds.Case ms → Heard-a kinds.KeyReq ms → Heard-b kinds.KeyReq ms → Heard-b kinds.Key ms
      → Goes ((kinds.Key, Responder) ∷ []) ms
  goes7 ms s h1 h2 shown h3 h4 h5 h6 h7 between f =
      let w : List Move = ms ++ between in
      let sw : Since w = since-more ms between s in
      let g1 : Heard-a kinds.Response w = more-a kinds.Response ms between h1 in
      let sent : Sent-b kinds.Key w = request-answered-b w sw (more-b kinds.KeyReq ms between h6) in (
        is-sent-b kinds.Key w sent,
        λ m y. goes8 (w ++ m ∷ []) (record {
          since = since-more w (m ∷ []) sw;
          response = more-a kinds.Response w (m ∷ []) g1;
          divulge = more-b kinds.Divulge w (m ∷ []) (more-b kinds.Divulge ms between h2);
          shown = more-revealed w (m ∷ []) (more-revealed ms between shown);
          case-b = more-b kinds.Case w (m ∷ []) (more-b kinds.Case ms between h3);
          case-a = more-a kinds.Case w (m ∷ []) (more-a kinds.Case ms between h4);
          request-a = more-a kinds.KeyReq w (m ∷ []) (more-a kinds.KeyReq ms between h5);
          request-b = more-b kinds.KeyReq w (m ∷ []) (more-b kinds.KeyReq ms between h6);
          key-b = more-b kinds.Key w (m ∷ []) (more-b kinds.Key ms between h7);
          key-a = takes-key-a w f sent (response-answered w sw f g1).1 (more-a kinds.Case ms between h4) m y.brings (ready-a kinds.Key w m sent.d y);
        }),
      )

  goes6 : (ms : List Move) → Since ms → Heard-a kinds.Response ms → Heard-b kinds.Divulge ms → Revealed-b ms → Heard-b kinds.Case ms → Heard-a kinds.Case ms → Heard-a kinds.KeyReq ms → Heard-b kinds.KeyReq ms
      → Goes ((kinds.Key, Initiator) ∷ (kinds.Key, Responder) ∷ []) ms
  goes6 ms s h1 h2 shown h3 h4 h5 h6 between f =
      let w : List Move = ms ++ between in
      let sw : Since w = since-more ms between s in
      let g2 : Heard-b kinds.Divulge w = more-b kinds.Divulge ms between h2 in
      let gs : Revealed-b w = more-revealed ms between shown in
      let g3 : Heard-b kinds.Case w = more-b kinds.Case ms between h3 in
      let sent : Sent-a kinds.Key w = request-answered-a w sw (more-a kinds.KeyReq ms between h5) in (
        is-sent-a kinds.Key w sent,
        λ m y.
            goes7 (w ++ m ∷ []) (since-more w (m ∷ []) sw) (more-a kinds.Response w (m ∷ []) (more-a kinds.Response ms between h1)) (more-b kinds.Divulge w (m ∷ []) g2) (more-revealed w (m ∷ []) gs) (more-b kinds.Case w (m ∷ []) g3)
            (more-a kinds.Case w (m ∷ []) (more-a kinds.Case ms between h4)) (more-a kinds.KeyReq w (m ∷ []) (more-a kinds.KeyReq ms between h5)) (more-b kinds.KeyReq w (m ∷ []) (more-b kinds.KeyReq ms between h6))
            (takes-key-b w f sent (divulge-answered w sw g2 gs) g3 m y.brings (ready-b kinds.Key w m sent.d y)),
      )

  goes5 : (ms : List Move) → Since ms → Heard-a kinds.Response ms → Heard-b kinds.Divulge ms → Revealed-b ms → Heard-b kinds.Case ms → Heard-a kinds.Case ms → Heard-a kinds.KeyReq ms
      → Goes ((kinds.KeyReq, Initiator) ∷ (kinds.Key, Initiator) ∷ (kinds.Key, Responder) ∷ []) ms
  goes5 ms s h1 h2 shown h3 h4 h5 between f =
      let w : List Move = ms ++ between in
      let sw : Since w = since-more ms between s in
      let g2 : Heard-b kinds.Divulge w = more-b kinds.Divulge ms between h2 in
      let gs : Revealed-b w = more-revealed ms between shown in
      let g3 : Heard-b kinds.Case w = more-b kinds.Case ms between h3 in
      let g4 : Heard-a kinds.Case w = more-a kinds.Case ms between h4 in
      let sent : Sent-a kinds.KeyReq w = case-answered-a w sw g4 in (
        is-sent-a kinds.KeyReq w sent,
        λ m y.
            goes6 (w ++ m ∷ []) (since-more w (m ∷ []) sw) (more-a kinds.Response w (m ∷ []) (more-a kinds.Response ms between h1)) (more-b kinds.Divulge w (m ∷ []) g2) (more-revealed w (m ∷ []) gs) (more-b kinds.Case w (m ∷ []) g3)
            (more-a kinds.Case w (m ∷ []) g4) (more-a kinds.KeyReq w (m ∷ []) (more-a kinds.KeyReq ms between h5)) (takes-request-b w f sent (divulge-answered w sw g2 gs) g3 m y.brings (ready-b kinds.KeyReq w m sent.d y)),
      )

  goes4 : (ms : List Move) → Since ms → Heard-a kinds.Response ms → Heard-b kinds.Divulge ms → Revealed-b ms → Heard-b kinds.Case ms → Heard-a kinds.Case ms
      → Goes ((kinds.KeyReq, Responder) ∷ (kinds.KeyReq, Initiator) ∷ (kinds.Key, Initiator) ∷ (kinds.Key, Responder) ∷ []) ms
  goes4 ms s h1 h2 shown h3 h4 between f =
      let w : List Move = ms ++ between in
      let sw : Since w = since-more ms between s in
      let g1 : Heard-a kinds.Response w = more-a kinds.Response ms between h1 in
      let g3 : Heard-b kinds.Case w = more-b kinds.Case ms between h3 in
      let g4 : Heard-a kinds.Case w = more-a kinds.Case ms between h4 in
      let sent : Sent-b kinds.KeyReq w = case-answered-b w sw g3 in (
        is-sent-b kinds.KeyReq w sent,
        λ m y.
            goes5 (w ++ m ∷ []) (since-more w (m ∷ []) sw) (more-a kinds.Response w (m ∷ []) g1) (more-b kinds.Divulge w (m ∷ []) (more-b kinds.Divulge ms between h2)) (more-revealed w (m ∷ []) (more-revealed ms between shown))
            (more-b kinds.Case w (m ∷ []) g3) (more-a kinds.Case w (m ∷ []) g4) (takes-request-a w f sent (response-answered w sw f g1).1 g4 m y.brings (ready-a kinds.KeyReq w m sent.d y)),
      )

  goes3 : (ms : List Move) → Since ms → Heard-a kinds.Response ms → Heard-b kinds.Divulge ms → Revealed-b ms → Heard-b kinds.Case ms
      → Goes ((kinds.Case, Responder) ∷ (kinds.KeyReq, Responder) ∷ (kinds.KeyReq, Initiator) ∷ (kinds.Key, Initiator) ∷ (kinds.Key, Responder) ∷ []) ms
  goes3 ms s h1 h2 shown h3 between f =
      let w : List Move = ms ++ between in
      let sw : Since w = since-more ms between s in
      let g1 : Heard-a kinds.Response w = more-a kinds.Response ms between h1 in
      let g2 : Heard-b kinds.Divulge w = more-b kinds.Divulge ms between h2 in
      let gs : Revealed-b w = more-revealed ms between shown in
      let sent : Sent-b kinds.Case w = divulge-answered w sw g2 gs in (
        is-sent-b kinds.Case w sent,
        λ m y.
            goes4 (w ++ m ∷ []) (since-more w (m ∷ []) sw) (more-a kinds.Response w (m ∷ []) g1) (more-b kinds.Divulge w (m ∷ []) g2) (more-revealed w (m ∷ []) gs) (more-b kinds.Case w (m ∷ []) (more-b kinds.Case ms between h3))
            (takes-case-a w sw f g1 gs sent (response-answered w sw f g1).1 m y.brings (ready-a kinds.Case w m sent.d y)),
      )

  goes2 : (ms : List Move) → Since ms → Heard-a kinds.Response ms → Heard-b kinds.Divulge ms → Revealed-b ms
      → Goes ((kinds.Case, Initiator) ∷ (kinds.Case, Responder) ∷ (kinds.KeyReq, Responder) ∷ (kinds.KeyReq, Initiator) ∷ (kinds.Key, Initiator) ∷ (kinds.Key, Responder) ∷ []) ms
  goes2 ms s h1 h2 shown between f =
      let w : List Move = ms ++ between in
      let sw : Since w = since-more ms between s in
      let g1 : Heard-a kinds.Response w = more-a kinds.Response ms between h1 in
      let g2 : Heard-b kinds.Divulge w = more-b kinds.Divulge ms between h2 in
      let gs : Revealed-b w = more-revealed ms between shown in
      let sent : Sent-a kinds.Case w = (response-answered w sw f g1).1 in (
        is-sent-a kinds.Case w sent,
        λ m y.
            goes3 (w ++ m ∷ []) (since-more w (m ∷ []) sw) (more-a kinds.Response w (m ∷ []) g1) (more-b kinds.Divulge w (m ∷ []) g2) (more-revealed w (m ∷ []) gs)
            (takes-case-b w sw f g1 gs sent (divulge-answered w sw g2 gs) m y.brings (ready-b kinds.Case w m sent.d y)),
      )

  goes1 : (ms : List Move) → Since ms → Heard-a kinds.Response ms
      → Goes ((kinds.Divulge, Initiator) ∷ (kinds.Case, Initiator) ∷ (kinds.Case, Responder) ∷ (kinds.KeyReq, Responder) ∷ (kinds.KeyReq, Initiator) ∷ (kinds.Key, Initiator) ∷ (kinds.Key, Responder) ∷ []) ms
  goes1 ms s h1 between f =
      let w : List Move = ms ++ between in
      let sw : Since w = since-more ms between s in
      let g1 : Heard-a kinds.Response w = more-a kinds.Response ms between h1 in
      let sent : SentIn knows peers grow accepts ruled members setup is a r.way.asks.low present-a w b d3 = (response-answered w sw f g1).0 in (
        record { d = d3; number = sent.number; packet = sent.packet; reads = sent.accepted.reads; of = divulge-of-it },
        λ m y.
            let taken = takes-divulge w sw f sent m y.brings (ready-b kinds.Divulge w m d3 y) in
            goes2 (w ++ m ∷ []) (since-more w (m ∷ []) sw) (more-a kinds.Response w (m ∷ []) g1) taken.0 taken.1,
      )

  pub goes0 : Goes parts ms1
  goes0 between f =
      let w : List Move = ms1 ++ between in
      let sw : Since w = (between, refl) in
      let sent : SentIn knows peers grow accepts ruled members setup is b r.way.answers.low present-b w a d2 = response-sent w sw in (
        record { d = d2; number = sent.number; packet = sent.packet; reads = sent.accepted.reads; of = response-of-it },
        λ m y. goes1 (w ++ m ∷ []) (since-more w (m ∷ []) sw) (takes-response w sw f sent m y.brings (ready-a kinds.Response w m d2 y)),
      )

pub trades-go-on : StepIsKnown → PeersRun → PeersGrow → StepIsAccepted → SignedByRule → PeersAreMembers → NobodyIsAccused → NobodyIsAnnounced → PromisesEqual → HeardWasSaid → KeysOpenWell → LogIsSound → TradesGoOn
trades-go-on knows peers grow accepts ruled members accuses unannounced equal hears opens sound setup trusted moves request a b round nonce ha r =
    goes0 knows peers grow accepts ruled members accuses unannounced equal hears opens sound setup trusted moves request a b round nonce ha r

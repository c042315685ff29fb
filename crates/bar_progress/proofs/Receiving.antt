-- One side of an exchange between any moves: what it admits, what it sends for it, and what it has in the end.
use Rattle.std.proofs.Common.{◌≡◌, ◌∙◌, ℕ, ◌≤◌, Bool, true, false, not, List, ◌∷◌, ◌++◌, length, refl, sym, ap, subst}
use Rattle.std.specs.Prelude.{Option, Some, None, is_some, if◌then◌else◌}
use Rattle.std.specs.Option.{option_or}
use Rattle.std.proofs.lemmas.Bool.{and_from, eq-eqb}
use Rattle.bar_terms.specs.Terms.{promise}
use Rattle.bar_window.specs.Exchange.{other_role, party_on}
use Rattle.bar_window.specs.Terms.{Terms}
use Rattle.bar_window.specs.declared.exchange.Exchange.{Exchange}
use Rattle.bar_window.specs.declared.exchange.Role.{Role}
use Rattle.bar_window.specs.declared.exchange.Role.TheVariants.{Initiator, Responder}
use Rattle.bar_window.specs.declared.exchange.XKind.{XKind}
use Rattle.bar_window.specs.declared.exchange.XKind.TheVariants.{Balanced}
use Rattle.bar_window.specs.declared.update.UpdateId.{UpdateId}
use Rattle.bar_window.proofs.Exchanges.{other-other}
use Rattle.bar_wire.specs.Bodies.{briefcase_in, divulge_in}
use Rattle.bar_wire.specs.Datagram.{Body, Briefcase, Case, Datagram, Divulge, Key, KeyGiven, KeyReq, Message, Response, exchange_by, is_of, is_signed, kind_number, kind_of, part_of}
use Rattle.bar_wire.specs.Kinds.{code_of}
use Rattle.bar_wire.specs.declared.kind.Kind.{Kind}
use Rattle.bar_wire.specs.declared.kind.Kind.TheVariants as kinds
use Rattle.bar_rules.specs.Member.{Member}
use Rattle.bar_rules.specs.Peer.Admission.{are_terms, is_admitted, same_terms}
use Rattle.bar_rules.specs.Peer.Evidence.{new_evidence}
use Rattle.bar_rules.specs.Peer.Exchanges.{role_of, partner_in, revealed}
use Rattle.bar_rules.specs.Peer.Knowledge.{Knowledge, case_heard_of, case_said_of, has_heard_of, has_said_of, is_in_time, known}
use Rattle.bar_rules.specs.Peer.Log.{Heard, Log, Said, first_heard, is_announced}
use Rattle.bar_rules.specs.Peer.Holdings.{case_in}
use Rattle.bar_rules.specs.Peer.Orders.{key_body}
use Rattle.bar_rules.specs.Peer.Rules.{IsObedient, IsSignedByRule}
use Rattle.bar_rules.specs.Peer.Signing.{MayGiveCase, MayGiveKey, MaySay}
use Rattle.bar_rules.specs.Peer.Terms.{Totals, promise_size, terms_of, totals}
use Rattle.bar_rules.specs.Secrets.{briefcase_key}
use Rattle.bar_rules.specs.Values.{counts_ok, is_signed_by, unsigned}
use Rattle.bar_rules.specs.World.World.{IsSetup, Move, Setup, member}
use Rattle.bar_laws.specs.Growing.{PeersGrow}
use Rattle.bar_laws.specs.Knowing.{StepIsKnown}
use Rattle.bar_laws.specs.Obedience.{SignedByRule}
use Rattle.bar_laws.specs.OwnRuns.{PeersRun}
use Rattle.bar_laws.specs.Parties.{StepIsAccepted}
use Rattle.bar_laws.specs.Premises.{PeersAreMembers}
use Rattle.bar_laws.specs.Soundness.{IsTheirs, LogIsSound}
use Rattle.bar_laws.proofs.Logs.{IsCaseOf, IsKeyOf, SaidIn, WasSaid, find-later, first_said-was, is_of-case, is_of-is, is_of-key, is_of-own, later-entry, other-kind, some-equal, party-on, party-over, receiver-on, role-own, round-by, said-found, said-rule, sender-on, some-same, terms_of-later, was-said, said-case, first_heard-was, kind-on}
use Rattle.bar_progress.specs.Trading.{HasTraded}
use Rattle.bar_progress.proofs.Announcing.{with_body}
use Rattle.bar_progress.proofs.Happening as happening
use Rattle.bar_progress.proofs.Happening.{HeardAt, SentIn}
use Rattle.bar_progress.proofs.Hearing.{IsAmong, Sends, answers, case-asks, request-gives}

-- ---- bodies by kind

-- a KEYREQ of a side
pub record IsRequestOf (x : Exchange) (role : Role) (m : Message) : Type 0 where
  pub round : ℕ
  pub sort : XKind
  pub body : m.body ≡ KeyReq round sort role
  pub exchange : exchange_by round sort role m.from m.to ≡ x

request-is : (m : Message) (round : ℕ) (sort : XKind) (role : Role) → kind_number m.body ≡ code_of kinds.KeyReq → part_of m.body ≡ Some (round, sort, role) → m.body ≡ KeyReq round sort role
request-is m round sort role n e = go m.body refl n e
  where
    go : (b : Body) → m.body ≡ b → kind_number b ≡ code_of kinds.KeyReq → part_of b ≡ Some (round, sort, role) → m.body ≡ KeyReq round sort role
    go (KeyReq r k s) h n e = let same : ◌≡◌ {A = ℕ × XKind × Role} (r, k, s) (round, sort, role) = cc in h ∙ ap (λ (z : ℕ × XKind × Role). KeyReq z.0 z.1 z.2) same
    go b h n e = absurd (other-kind b kinds.KeyReq refl n)

request-of : (x : Exchange) (role : Role) (m : Message) → is_of kinds.KeyReq x role m ≡ true → IsRequestOf x role m
request-of x role m e =
    let o = is_of-is kinds.KeyReq x role m e in
    record { round = o.round; sort = o.sort; body = request-is m o.round o.sort role o.number o.part; exchange = o.exchange }

-- a RESPONSE, and a DIVULGE, of an exchange
pub record IsResponseOf (x : Exchange) (m : Message) : Type 0 where
  pub round : ℕ
  pub hb : List UpdateId
  pub body : m.body ≡ Response round hb
  pub exchange : exchange_by round Balanced Responder m.from m.to ≡ x

pub record IsDivulgeOf (x : Exchange) (m : Message) : Type 0 where
  pub round : ℕ
  pub nonce : List ℕ
  pub ha : List UpdateId
  pub body : m.body ≡ Divulge round nonce ha
  pub exchange : exchange_by round Balanced Initiator m.from m.to ≡ x

pub response-of : (x : Exchange) (m : Message) → is_of kinds.Response x Responder m ≡ true → IsResponseOf x m
response-of x m e = let o = is_of-is kinds.Response x Responder m e in go m.body refl o.number o.round o.sort o.part o.exchange
  where
    go : (b : Body) → m.body ≡ b → kind_number b ≡ code_of kinds.Response → (r : ℕ) (k : XKind) → part_of m.body ≡ Some (r, k, Responder) → exchange_by r k Responder m.from m.to ≡ x → IsResponseOf x m
    go (Response s hb) h n r k e f =
        let same : ◌≡◌ {A = ℕ × XKind × Role} (s, Balanced, Responder) (r, k, Responder) = some-equal _ _ (sym (ap part_of h) ∙ e) in
        record { round = s; hb = hb; body = h; exchange = ap (λ (z : ℕ × XKind × Role). exchange_by z.0 z.1 Responder m.from m.to) same ∙ f }
    go b h n r k e f = absurd (other-kind b kinds.Response refl n)

pub divulge-of : (x : Exchange) (m : Message) → is_of kinds.Divulge x Initiator m ≡ true → IsDivulgeOf x m
divulge-of x m e = let o = is_of-is kinds.Divulge x Initiator m e in go m.body refl o.number o.round o.sort o.part o.exchange
  where
    go : (b : Body) → m.body ≡ b → kind_number b ≡ code_of kinds.Divulge → (r : ℕ) (k : XKind) → part_of m.body ≡ Some (r, k, Initiator) → exchange_by r k Initiator m.from m.to ≡ x → IsDivulgeOf x m
    go (Divulge s nonce ha) h n r k e f =
        let same : ◌≡◌ {A = ℕ × XKind × Role} (s, Balanced, Initiator) (r, k, Initiator) = some-equal _ _ (sym (ap part_of h) ∙ e) in
        record { round = s; nonce = nonce; ha = ha; body = h; exchange = ap (λ (z : ℕ × XKind × Role). exchange_by z.0 z.1 Initiator m.from m.to) same ∙ f }
    go b h n r k e f = absurd (other-kind b kinds.Divulge refl n)

-- a peer that heard a DIVULGE knows what the initiator commits to
pub heard-reveals : (me : Member) (log : Log) (x : Exchange) (d : Datagram) → first_heard (is_of kinds.Divulge x Initiator) log ≡ Some d → (a : List ℕ × List UpdateId) × (revealed me log x ≡ Some a)
heard-reveals me log x d e =
    let was = first_heard-was (is_of kinds.Divulge x Initiator) log d e in
    let o = divulge-of x d.message was.1 in
    let f : (a : List ℕ × List UpdateId) × (revealed me (Heard d ∷ was.0.before) x ≡ Some a) =
    go (revealed me was.0.before x) (o.nonce, o.ha) (ap (λ b. if b then divulge_in d.message.body else None) was.1 ∙ ap divulge_in o.body) in
    (f.0, find-later _ log (Heard d ∷ was.0.before) f.0 (record { new = was.0.place.after; split = was.0.place.split }) f.1)
  where
    go : (o : Option (List ℕ × List UpdateId)) (a : List ℕ × List UpdateId) {z : Option (List ℕ × List UpdateId)} → z ≡ Some a → (c : List ℕ × List UpdateId) × (option_or o z ≡ Some c)
    go (Some c) a e = (c, refl)
    go None a e = (a, e)

module _ (knows : StepIsKnown) (peers : PeersRun) (grow : PeersGrow) (accepts : StepIsAccepted) (ruled : SignedByRule) (members : PeersAreMembers) (setup : Setup) (is : IsSetup setup) (p : ℕ) (low : 1 ≤ p)
    (high : p ≤ setup.session.shape.peers) (q : ℕ) (apart : p ≡ q → ⊥) (x : Exchange) (role : Role) (own : exchange_by x.round x.kind role p q ≡ x) where
  abbrev me : Member
  me = member setup p

  abbrev far : Role
  far = other_role role

  abbrev log_at : List Move → Log
  log_at ms = happening.log_at knows peers grow accepts ruled members setup is p low high ms

  abbrev knows_at : List Move → Knowledge
  knows_at ms = known me (log_at ms)

  abbrev Sent : List Move → ℕ → Datagram → Type 0
  Sent ms to d = SentIn knows peers grow accepts ruled members setup is p low high ms to d

  pub role-is : role_of me x ≡ role
  role-is = ap (role_of me) (sym own) ∙ role-own me x.round x.kind role q (λ e. apart (sym e))

  here-is : party_on x role ≡ p
  here-is = ap (λ y. party_on y role) (sym own) ∙ party-on x.round x.kind role p q

  there-is : party_on x far ≡ q
  there-is = ap (λ y. party_on y far) (sym own) ∙ party-over x.round x.kind role p q

  pub partner-is : partner_in me x ≡ q
  partner-is = ap (λ r. party_on x (other_role r)) role-is ∙ there-is

  -- a message of this side to the other is of it
  pub own-of : (b : Body) → part_of b ≡ Some (x.round, x.kind, role) → is_of (kind_of b) x role (record { from = p; to = q; body = b }) ≡ true
  own-of b e = subst (λ y. is_of (kind_of b) y role (record { from = p; to = q; body = b }) ≡ true) own (is_of-own (record { from = p; to = q; body = b }) x.round x.kind role e)

  from-there : (kind : Kind) (d : Datagram) → is_of kind x far d.message ≡ true → d.message.from ≡ q
  from-there kind d of = sender-on kind x far d.message of ∙ there-is

  to-here : (kind : Kind) (d : Datagram) → is_of kind x far d.message ≡ true → d.message.to ≡ p
  to-here kind d of = receiver-on kind x far d.message of ∙ ap (party_on x) (other-other role) ∙ here-is

  round-is : (r : ℕ) (k : XKind) (s : Role) (f t : ℕ) → exchange_by r k s f t ≡ x → r ≡ x.round
  round-is r k s f t e = sym (round-by r k s f t) ∙ ap (λ (y : Exchange). y.round) e

  -- ---- what is admitted

  -- what the other side sent, of this kind, if the peer takes it in time
  pub record Comes (ms : List Move) (kind : Kind) (d : Datagram) : Type 0 where
    pub of : is_of kind x far d.message ≡ true
    pub signed : is_signed d.message.body ≡ true → is_signed_by setup.session d ≡ true
    pub trading : is_announced (log_at ms) q ≡ false
    pub in_time : is_in_time setup.session (knows_at ms) kind x.round ≡ true

  trades : (ms : List Move) (kind : Kind) (d : Datagram) → Comes ms kind d → is_announced (log_at ms) d.message.from ≡ false
  trades ms kind d c = ap (is_announced (log_at ms)) (from-there kind d c.of) ∙ c.trading

  -- its own briefcase is said
  abbrev HasGiven : List Move → Type 0
  HasGiven ms = has_said_of (knows_at ms) kinds.Case x role ≡ true

  pub case-admitted : (ms : List Move) (d : Datagram) (k : IsCaseOf x far d.message) (terms : Terms) → Comes ms kinds.Case d → HasGiven ms → terms_of me (knows_at ms) x ≡ Some terms → k.case.terms ≡ terms → same_terms terms terms ≡ true
      → counts_ok setup.session k.case ≡ true → (knows_at ms).heard kinds.Case x far ≡ None → is_admitted me (knows_at ms) d ≡ true
  unfolding is_admitted
  case-admitted ms d k terms c said t same equal counts none = subst (λ z. is_admitted me (knows_at ms) z ≡ true) (sym e) admitted
    where
      e : d ≡ with_body d (Case k.case)
      e = ap (with_body d) k.body

      unheard : has_heard_of (knows_at ms) kinds.Case (exchange_by k.case.round k.case.kind k.case.role d.message.from d.message.to) k.case.role ≡ false
      unheard = (λ i. has_heard_of (knows_at ms) kinds.Case (k.exchange i) (k.side i)) ∙ ap is_some none

      given : has_said_of (knows_at ms) kinds.Case (exchange_by k.case.round k.case.kind k.case.role d.message.from d.message.to) (other_role k.case.role) ≡ true
      given = (λ i. has_said_of (knows_at ms) kinds.Case (k.exchange i) (other_role (k.side i))) ∙ ap (has_said_of (knows_at ms) kinds.Case x) (other-other role) ∙ said

      agreed : are_terms k.case.terms (terms_of me (knows_at ms) (exchange_by k.case.round k.case.kind k.case.role d.message.from d.message.to)) ≡ true
      agreed = (λ i. are_terms (same i) (terms_of me (knows_at ms) (k.exchange i))) ∙ ap (are_terms terms) t ∙ equal

      in_time : is_in_time setup.session (knows_at ms) kinds.Case k.case.round ≡ true
      in_time = ap (is_in_time setup.session (knows_at ms) kinds.Case) (round-is k.case.round k.case.kind k.case.role d.message.from d.message.to k.exchange) ∙ c.in_time

      admitted : is_admitted me (knows_at ms) (with_body d (Case k.case)) ≡ true
      admitted =
          and_from _ _
          (and_from _ _
          (and_from _ _ (and_from _ _ (eq-eqb d.message.to p (to-here kinds.Case d c.of)) (ap not (trades ms kinds.Case d c))) (subst (λ z. is_signed_by setup.session z ≡ true) e (c.signed (ap is_signed k.body))))
          (ap not unheard))
          (and_from _ _ (and_from _ _ (and_from _ _ given agreed) counts) in_time)

  pub request-admitted : (ms : List Move) (d : Datagram) → Comes ms kinds.KeyReq d → HasGiven ms → has_heard_of (knows_at ms) kinds.Case x far ≡ true → (knows_at ms).heard kinds.KeyReq x far ≡ None
      → is_admitted me (knows_at ms) d ≡ true
  unfolding is_admitted
  request-admitted ms d c said heard none = subst (λ z. is_admitted me (knows_at ms) z ≡ true) (sym e) admitted
    where
      o : IsRequestOf x far d.message
      o = request-of x far d.message c.of

      e : d ≡ with_body d (KeyReq o.round o.sort far)
      e = ap (with_body d) o.body

      given : has_said_of (knows_at ms) kinds.Case (exchange_by o.round o.sort far d.message.from d.message.to) (other_role far) ≡ true
      given = (λ i. has_said_of (knows_at ms) kinds.Case (o.exchange i) (other-other role i)) ∙ said

      has : has_heard_of (knows_at ms) kinds.Case (exchange_by o.round o.sort far d.message.from d.message.to) far ≡ true
      has = ap (λ y. has_heard_of (knows_at ms) kinds.Case y far) o.exchange ∙ heard

      unheard : has_heard_of (knows_at ms) kinds.KeyReq (exchange_by o.round o.sort far d.message.from d.message.to) far ≡ false
      unheard = ap (λ y. has_heard_of (knows_at ms) kinds.KeyReq y far) o.exchange ∙ ap is_some none

      in_time : is_in_time setup.session (knows_at ms) kinds.KeyReq o.round ≡ true
      in_time = ap (is_in_time setup.session (knows_at ms) kinds.KeyReq) (round-is o.round o.sort far d.message.from d.message.to o.exchange) ∙ c.in_time

      admitted : is_admitted me (knows_at ms) (with_body d (KeyReq o.round o.sort far)) ≡ true
      admitted =
          and_from _ _
          (and_from _ _ (and_from _ _ (and_from _ _ (eq-eqb d.message.to p (to-here kinds.KeyReq d c.of)) (ap not (trades ms kinds.KeyReq d c))) refl) refl)
          (and_from _ _ (and_from _ _ (and_from _ _ given has) (ap not unheard)) in_time)

  pub key-admitted : (ms : List Move) (d : Datagram) → Comes ms kinds.Key d → HasGiven ms → has_heard_of (knows_at ms) kinds.Case x far ≡ true → (knows_at ms).heard kinds.Key x far ≡ None
      → is_admitted me (knows_at ms) d ≡ true
  unfolding is_admitted
  key-admitted ms d c said heard none = subst (λ z. is_admitted me (knows_at ms) z ≡ true) (sym e) admitted
    where
      k : IsKeyOf x far d.message
      k = is_of-key x far d.message c.of

      g : KeyGiven
      g = k.given

      e : d ≡ with_body d (Key g)
      e = ap (with_body d) k.body

      given : has_said_of (knows_at ms) kinds.Case (exchange_by g.round g.kind g.role d.message.from d.message.to) (other_role g.role) ≡ true
      given = (λ i. has_said_of (knows_at ms) kinds.Case (k.exchange i) (other_role (k.side i))) ∙ ap (has_said_of (knows_at ms) kinds.Case x) (other-other role) ∙ said

      has : has_heard_of (knows_at ms) kinds.Case (exchange_by g.round g.kind g.role d.message.from d.message.to) g.role ≡ true
      has = (λ i. has_heard_of (knows_at ms) kinds.Case (k.exchange i) (k.side i)) ∙ heard

      unheard : has_heard_of (knows_at ms) kinds.Key (exchange_by g.round g.kind g.role d.message.from d.message.to) g.role ≡ false
      unheard = (λ i. has_heard_of (knows_at ms) kinds.Key (k.exchange i) (k.side i)) ∙ ap is_some none

      in_time : is_in_time setup.session (knows_at ms) kinds.Key g.round ≡ true
      in_time = ap (is_in_time setup.session (knows_at ms) kinds.Key) (round-is g.round g.kind g.role d.message.from d.message.to k.exchange) ∙ c.in_time

      admitted : is_admitted me (knows_at ms) (with_body d (Key g)) ≡ true
      admitted =
          and_from _ _
          (and_from _ _
          (and_from _ _ (and_from _ _ (eq-eqb d.message.to p (to-here kinds.Key d c.of)) (ap not (trades ms kinds.Key d c))) (subst (λ z. is_signed_by setup.session z ≡ true) e (c.signed (ap is_signed k.body))))
          (ap not unheard))
          (and_from _ _ (and_from _ _ given has) in_time)

  -- ---- what is sent

  -- a datagram of this side was sent to the other
  pub record HasSent (ms : List Move) (kind : Kind) : Type 0 where
    pub d : Datagram
    pub sent : Sent ms q d
    pub of : is_of kind x role d.message ≡ true

  pub sent-more : (ms ns : List Move) (kind : Kind) → HasSent ms kind → HasSent (ms ++ ns) kind
  sent-more ms ns kind s = record { d = s.d; sent = happening.sent-stays knows peers grow accepts ruled members setup is p low high ms ns q s.d s.sent; of = s.of }

  -- what is signed of this side and was sent is said
  pub sent-is-said : (ms : List Move) (kind : Kind) (s : HasSent ms kind) → is_signed s.d.message.body ≡ true → has_said_of (knows_at ms) kind x role ≡ true
  sent-is-said ms kind s e = said-found (is_of kind x role) (log_at ms) s.d (was-said (log_at ms) s.d (s.sent.said e)) s.of

  names-said : (ms : List Move) (kind : Kind) (e : Datagram) → (knows_at ms).said kind x role ≡ Some e → is_of kind x role e.message ≡ true
  names-said ms kind e f = (first_said-was (is_of kind x role) (log_at ms) e f).1

  -- once the other's briefcase was heard, its key is asked for
  pub case-asked : (start more : List Move) (e : Datagram) → (knows_at start).heard kinds.Case x far ≡ None → (knows_at (start ++ more)).heard kinds.Case x far ≡ Some e → HasSent (start ++ more) kinds.KeyReq
  case-asked start more e none some = record {
    d = asks q role;
    sent = happening.sent-then knows peers grow accepts ruled members setup is p low high start (start ++ more) kinds.Case x far h q (asks q role) among;
    of = own-of (KeyReq x.round x.kind role) refl;
  }
    where
      h : HeardAt knows peers grow accepts ruled members setup is p low high start (start ++ more) kinds.Case x far
      h = happening.heard-at knows peers grow accepts ruled members setup is p low high start more kinds.Case x far e none some

      k : IsCaseOf x far h.now.d.message
      k = is_of-case x far h.now.d.message h.now.of

      asks : ℕ → Role → Datagram
      asks to side = unsigned (record { from = p; to = to; body = KeyReq x.round x.kind side })

      asked_in : Exchange → ℕ × Datagram
      asked_in y = (partner_in me y, unsigned (record { from = p; to = partner_in me y; body = KeyReq y.round y.kind (role_of me y) }))

      among : IsAmong (q, asks q role) (answers me (knows_at h.before) h.now.d (new_evidence me (knows_at h.before) h.now.d)).sends
      among =
          subst (λ z. IsAmong z (answers me (knows_at h.before) h.now.d (new_evidence me (knows_at h.before) h.now.d)).sends) ((λ i. asked_in (k.exchange i)) ∙ (λ i. (partner-is i, asks (partner-is i) (role-is i))))
          (subst (λ z. IsAmong (asked_in (exchange_by k.case.round k.case.kind k.case.role h.now.d.message.from h.now.d.message.to)) (answers me (knows_at h.before) z (new_evidence me (knows_at h.before) h.now.d)).sends)
          (sym (ap (with_body h.now.d) k.body)) (case-asks me (knows_at h.before) h.now.d k.case (new_evidence me (knows_at h.before) h.now.d)))

  -- once the own key was asked for, it is given
  pub key-given : (start more : List Move) (e : Datagram) → (knows_at start).heard kinds.KeyReq x far ≡ None → (knows_at (start ++ more)).heard kinds.KeyReq x far ≡ Some e → HasSent (start ++ more) kinds.Key
  key-given start more e none some = record {
    d = given.d;
    sent = happening.sent-then knows peers grow accepts ruled members setup is p low high start (start ++ more) kinds.KeyReq x far h q given.d given.among;
    of = given.of;
  }
    where
      h : HeardAt knows peers grow accepts ruled members setup is p low high start (start ++ more) kinds.KeyReq x far
      h = happening.heard-at knows peers grow accepts ruled members setup is p low high start more kinds.KeyReq x far e none some

      o : IsRequestOf x far h.now.d.message
      o = request-of x far h.now.d.message h.now.of

      given : Sends (answers me (knows_at h.before) h.now.d (new_evidence me (knows_at h.before) h.now.d)).sends q kinds.Key x role
      given =
          subst (λ z. Sends (answers me (knows_at h.before) z (new_evidence me (knows_at h.before) h.now.d)).sends q kinds.Key x role) (sym (ap (with_body h.now.d) o.body))
          (request-gives me (knows_at h.before) h.now.d o.round o.sort far (new_evidence me (knows_at h.before) h.now.d) x role q o.exchange role-is partner-is (names-said h.before kinds.Key)
          (own-of (key_body me x) (ap (λ r. Some (x.round, x.kind, r)) role-is)))

  -- ---- what a briefcase of this side says

  pub said-content : (ms : List Move) (terms : Terms) (d : Datagram) (k : IsCaseOf x role d.message) → terms_of me (knows_at ms) x ≡ Some terms → SaidIn (log_at ms) d
      → (k.case.terms ≡ terms) × (counts_ok setup.session k.case ≡ true)
  said-content ms terms d k t said = (some-same (terms_of me (knows_at ms) x) k.case.terms terms now t, rule.counts)
    where
      w : WasSaid (log_at ms) d
      w = was-said (log_at ms) d said

      obedient : IsObedient me (log_at ms)
      obedient = happening.obedient knows peers grow accepts ruled members setup is p low high ms

      rule : MayGiveCase me (known me w.before) d.message.to k.case
      rule = subst (λ b. MaySay me (known me w.before) d.message.to b) k.body (said-rule me (log_at ms) d w obedient).rule.rule

      mine : d.message.from ≡ p
      mine = (said-rule me (log_at ms) d w obedient).rule.mine

      once : terms_of me (known me w.before) x ≡ Some k.case.terms
      once = subst (λ y. terms_of me (known me w.before) y ≡ Some k.case.terms) (ap (λ f. exchange_by k.case.round k.case.kind k.case.role f d.message.to) (sym mine) ∙ k.exchange) rule.terms

      now : terms_of me (knows_at ms) x ≡ Some k.case.terms
      now = terms_of-later me (log_at ms) w.before x k.case.terms (later-entry (log_at ms) w.before (Said d) w.place) once

  -- what a key of this side says
  pub said-key : (ms : List Move) (d : Datagram) → SaidIn (log_at ms) d → is_of kinds.Key x role d.message ≡ true
      → d.message.body ≡ Key (record { round = x.round; kind = x.kind; role = role; key = briefcase_key me x role })
  said-key ms d said of = k.body ∙ (λ i. Key (record { round = rounds i; kind = sorts i; role = k.side i; key = keys i }))
    where
      k : IsKeyOf x role d.message
      k = is_of-key x role d.message of

      g : KeyGiven
      g = k.given

      w : WasSaid (log_at ms) d
      w = was-said (log_at ms) d said

      signed : IsSignedByRule me w.before d
      signed = said-rule me (log_at ms) d w (happening.obedient knows peers grow accepts ruled members setup is p low high ms)

      rule : MayGiveKey me (known me w.before) d.message.to g
      rule = subst (λ b. MaySay me (known me w.before) d.message.to b) k.body signed.rule.rule

      named : exchange_by g.round g.kind g.role p d.message.to ≡ x
      named = ap (λ f. exchange_by g.round g.kind g.role f d.message.to) (sym signed.rule.mine) ∙ k.exchange

      rounds : g.round ≡ x.round
      rounds = round-is g.round g.kind g.role d.message.from d.message.to k.exchange

      sorts : g.kind ≡ x.kind
      sorts = sym (kind-on g.round g.kind g.role d.message.from d.message.to) ∙ ap (λ (y : Exchange). y.kind) k.exchange

      keys : g.key ≡ briefcase_key me x role
      keys = rule.key ∙ (λ i. briefcase_key me (named i) (k.side i))

  -- ---- what it has in the end

  size : Briefcase → ℕ
  size c = length (promise setup.session.cap c.terms c.role)

  totals-are : (k : Knowledge) (ours theirs : Briefcase) → case_said_of k x role ≡ Some ours → case_heard_of k x far ≡ Some theirs → has_said_of k kinds.Key x role ≡ true
      → totals me k x ≡ record { promised = size ours; received = size theirs; opened = size ours }
  unfolding size
  totals-are k ours theirs e f g =
      ap (λ r. sums (case_said_of k x r) (case_heard_of k x (other_role r)) (has_said_of k kinds.Key x r)) role-is
      ∙ (λ i. sums (e i) (f i) (g i))
    where
      sums : Option Briefcase → Option Briefcase → Bool → Totals
      sums o c b = record {
        promised = promise_size setup.session o;
        received = promise_size setup.session c;
        opened = if b then promise_size setup.session o else 0;
      }

  pub traded : LogIsSound → (ms : List Move) (terms : Terms) (count : ℕ) (e d : Datagram) (key : List ℕ) → terms_of me (knows_at ms) x ≡ Some terms → length (promise setup.session.cap terms role) ≡ count
      → length (promise setup.session.cap terms far) ≡ count → HasGiven ms → (knows_at ms).heard kinds.Case x far ≡ Some e → has_said_of (knows_at ms) kinds.Key x role ≡ true → (knows_at ms).heard kinds.Key x far ≡ Some d
      → d.message.body ≡ Key (record { round = x.round; kind = x.kind; role = far; key = key }) → HasTraded me (knows_at ms) x count far key
  unfolding size
  traded sound ms terms count e d key t near away given heard keyed last opens = record {
    counts = totals-are (knows_at ms) ours.0 k.case ours.1 theirs keyed ∙ (λ i. record { promised = one i; received = two i; opened = one i });
    d = d;
    heard = last;
    opens = opens;
  }
    where
      obedient : IsObedient me (log_at ms)
      obedient = happening.obedient knows peers grow accepts ruled members setup is p low high ms

      ours : (c : Briefcase) × (case_said_of (knows_at ms) x role ≡ Some c) × (c.role ≡ role) × (terms_of me (knows_at ms) x ≡ Some c.terms)
      ours = let f = said-case me (log_at ms) x role obedient given in (f.0, f.1, f.2.side, f.2.terms)

      k : IsCaseOf x far e.message
      k = is_of-case x far e.message (first_heard-was (is_of kinds.Case x far) (log_at ms) e heard).1

      theirs : case_heard_of (knows_at ms) x far ≡ Some k.case
      theirs = ap case_in heard ∙ ap briefcase_in k.body

      told : IsTheirs me (knows_at ms) x k.case
      told = (sound me (log_at ms) obedient).theirs x k.case (ap (λ r. case_heard_of (knows_at ms) x (other_role r)) role-is ∙ theirs)

      one : length (promise setup.session.cap ours.0.terms ours.0.role) ≡ count
      one = (λ i. length (promise setup.session.cap (some-same (terms_of me (knows_at ms) x) ours.0.terms terms ours.3 t i) (ours.2 i))) ∙ near

      two : length (promise setup.session.cap k.case.terms k.case.role) ≡ count
      two = (λ i. length (promise setup.session.cap (some-same (terms_of me (knows_at ms) x) k.case.terms terms told.terms t i) (k.side i))) ∙ away

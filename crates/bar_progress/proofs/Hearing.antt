-- What a peer hears at an input, and what it sends for it, over what it knows alone.
use Rattle.std.proofs.Common.{◌≡◌, ◌∙◌, ◌⊎◌, inl, inr, ℕ, ◌<◌, Bool, true, false, ◌&&◌, not, List, [], ◌∷◌, ◌++◌, refl, sym, ap, subst}
use Rattle.std.specs.Prelude.{Option, Some, None, is_some, cond, nat_le, option_map, if◌then◌else◌}
use Rattle.std.specs.Bool.{then_some}
use Rattle.std.specs.Option.{option_or}
use Rattle.std.proofs.lemmas.Bool.{cond-false, leb-false, lt-leb}
use Rattle.bar_session.specs.Time.{last_tick}
use Rattle.bar_window.specs.Exchange.{other_role}
use Rattle.bar_window.specs.Terms.{Terms}
use Rattle.bar_window.specs.declared.exchange.Exchange.{Exchange}
use Rattle.bar_window.specs.declared.exchange.Role.{Role}
use Rattle.bar_window.specs.declared.exchange.Role.TheVariants.{Initiator, Responder}
use Rattle.bar_window.specs.declared.exchange.XKind.{XKind}
use Rattle.bar_window.specs.declared.exchange.XKind.TheVariants.{Balanced, Push}
use Rattle.bar_window.specs.declared.update.UpdateId.{UpdateId}
use Rattle.bar_wire.specs.Datagram.{Body, Briefcase, Datagram, Evidence, Manifest, Block, Request, Response, Divulge, Query, Reply, Case, KeyReq, Key, Evict, exchange_by, is_of, part_of}
use Rattle.bar_wire.specs.Inputs.{Input}
use Rattle.bar_wire.specs.Inputs as event
use Rattle.bar_wire.specs.declared.kind.Kind.{Kind}
use Rattle.bar_wire.specs.declared.kind.Kind.TheVariants as kinds
use Rattle.bar_rules.specs.Member.{Member}
use Rattle.bar_rules.specs.Peer.Admission.{are_terms, has_valid_signature, is_admitted, is_for, is_heard_again}
use Rattle.bar_rules.specs.Peer.Evidence.{new_evidence}
use Rattle.bar_rules.specs.Peer.Exchanges.{role_of, partner_in}
use Rattle.bar_rules.specs.Peer.Knowledge.{Knowledge, has_said_of, is_in_time, learned, with_heard, with_kept, with_tick}
use Rattle.bar_rules.specs.Peer.Machine as machine
use Rattle.bar_rules.specs.Peer.Machine.{message_to, minds, step_known}
use Rattle.bar_rules.specs.Peer.Orders.{Order, Reveal, GiveCase, GiveKey, case_body, key_body}
use Rattle.bar_rules.specs.Peer.Replies.{is_trade_worth, orders_when, repeated, reply_orders}
use Rattle.bar_rules.specs.Peer.Signing.{signed}
use Rattle.bar_rules.specs.Peer.Terms.{terms_by, terms_of}
use Rattle.bar_rules.specs.Peer.Ticks.{orders_at_tick}
use Rattle.bar_rules.specs.Runs.{Outcome, begun, sending}
use Rattle.bar_rules.specs.Values.{counts_ok, datagram_of, unsigned}
use Rattle.bar_laws.proofs.Logs.{is_of-is, option_or-some}
use Rattle.bar_progress.proofs.Announcing.{with_body}
use Rattle.bar_progress.proofs.Performing.{IsKept, all-keeps, report-keeps, say-keeps}
use Rattle.bar_progress.proofs.Saying.{now-first, sends-plain}

abbrev pub Known : Type 0
Known = Outcome Knowledge

abbrev Firsts : Type 0
Firsts = Kind → Exchange → Role → Option Datagram

-- ---- what is sent

-- a datagram is among those that are sent, with its receiver
abbrev pub IsAmong : ℕ × Datagram → List (ℕ × Datagram) → Type 0
IsAmong s [] = ⊥
IsAmong s (t ∷ sends) = (t ≡ s) ⊎ IsAmong s sends

among-front : (s : ℕ × Datagram) (xs ys : List (ℕ × Datagram)) → IsAmong s xs → IsAmong s (xs ++ ys)
among-front s [] ys h = absurd h
among-front s (x ∷ xs) ys (inl h) = inl h
among-front s (x ∷ xs) ys (inr h) = inr (among-front s xs ys h)

among-last : (s : ℕ × Datagram) (xs : List (ℕ × Datagram)) → IsAmong s (xs ++ s ∷ [])
among-last s [] = inl refl
among-last s (x ∷ xs) = inr (among-last s xs)

-- a datagram of a kind, exchange and side is sent to a party
pub record Sends (sends : List (ℕ × Datagram)) (to : ℕ) (kind : Kind) (x : Exchange) (role : Role) : Type 0 where
  pub d : Datagram
  pub among : IsAmong (to, d) sends
  pub of : is_of kind x role d.message ≡ true

-- ---- what is heard

module _ (me : Member) where
  heard-kept : (h : Firsts) → IsKept (minds me) (λ out. ◌≡◌ {A = Firsts} out.state.heard h)
  heard-kept h = record { sent = λ out to d e. e; said = λ out d e. e }

  all-heard : (os : List Order) (out : Known) → ◌≡◌ {A = Firsts} (machine.perform_all (minds me) me out os).state.heard out.state.heard
  all-heard os out = all-keeps (minds me) me (λ o. ◌≡◌ {A = Firsts} o.state.heard out.state.heard) (heard-kept out.state.heard) out os refl

  report-heard : (out : Known) (q : ℕ) (o : Option (List (List ℕ))) → ◌≡◌ {A = Firsts} (machine.report_new (minds me) me out q o).state.heard out.state.heard
  report-heard out q o = report-keeps (minds me) me (λ o. ◌≡◌ {A = Firsts} o.state.heard out.state.heard) (heard-kept out.state.heard) out q o refl

  evidence-heard : (k : Knowledge) (q : ℕ) (o : Option (List (List ℕ))) → ◌≡◌ {A = Firsts} (machine.with_evidence (minds me) k q o).heard k.heard
  evidence-heard k q None = refl
  evidence-heard k q (Some v) = refl

  terms-kept : (k : Knowledge) (q : ℕ) (v : List (List ℕ)) (x : Exchange) (kind : XKind) → terms_by kind me (with_kept q v k) x ≡ terms_by kind me k x
  terms-kept k q v x Balanced = refl
  terms-kept k q v x Push = refl

  -- evidence doesn't affect admission
  kept-admits : (k : Knowledge) (q : ℕ) (v : List (List ℕ)) (d : Datagram) (b : Body) → is_admitted me (with_kept q v k) (with_body d b) ≡ is_admitted me k (with_body d b)
  unfolding is_admitted
  kept-admits k q v d (Manifest r ds) = refl
  kept-admits k q v d (Block u c) = refl
  kept-admits k q v d (Request r s c) = refl
  kept-admits k q v d (Response r hb) = refl
  kept-admits k q v d (Divulge r n ha) = refl
  kept-admits k q v d (Query r s y o) = refl
  kept-admits k q v d (Reply r w g z) = refl
  kept-admits k q v d (Case c) =
      let y : Exchange = exchange_by c.round c.kind c.role d.message.from d.message.to in
      let e : Datagram = with_body d (Case c) in
      ap (λ (o : Option Terms).
      (is_for me e.message && not (k.is_announced e.message.from) && has_valid_signature me.session e && not (is_heard_again k e.message))
      && (has_said_of k kinds.Case y (other_role c.role) && are_terms c.terms o && counts_ok me.session c && is_in_time me.session k kinds.Case c.round))
      (terms-kept k q v y y.kind)
  kept-admits k q v d (KeyReq r kind role) = refl
  kept-admits k q v d (Key g) = refl
  kept-admits k q v d (Evidence ds) = refl
  kept-admits k q v d (Evict r ps) = refl

  evidence-admits : (k : Knowledge) (q : ℕ) (o : Option (List (List ℕ))) (d : Datagram) → is_admitted me (machine.with_evidence (minds me) k q o) d ≡ is_admitted me k d
  evidence-admits k q None d = refl
  evidence-admits k q (Some v) d = kept-admits k q v d d.message.body

  unheld : {A : Type 0} (o : Option A) → o ≡ None → is_some o ≡ true → ⊥
  unheld None e s = cc
  unheld (Some a) e s = cc

  first-new : (o : Option Datagram) (b : Bool) (d : Datagram) → o ≡ None → is_some (option_or o (then_some b d)) ≡ true → b ≡ true
  first-new o true d e s = refl
  first-new None false d e s = cc
  first-new (Some c) false d e s = cc

  -- a message of no exchange isn't of this one
  placeless : (d : Datagram) (kind : Kind) (x : Exchange) (role : Role) → part_of d.message.body ≡ None → is_of kind x role d.message ≡ true → ⊥
  placeless d kind x role none of = unheld (part_of d.message.body) none (ap is_some (is_of-is kind x role d.message of).part)

  -- a datagram adds only itself to what is heard
  learned-new : (d : Datagram) (k : Knowledge) (b : Body) (kind : Kind) (x : Exchange) (role : Role) → k.heard kind x role ≡ None → is_some ((learned me d k b).heard kind x role) ≡ true → is_of kind x role d.message ≡ true
  learned-new d k (Manifest r ds) kind x role e s = absurd (unheld _ e s)
  learned-new d k (Block u c) kind x role e s = absurd (unheld _ e s)
  learned-new d k (Evict r ps) kind x role e s = absurd (unheld _ e s)
  learned-new d k (Request r t c) kind x role e s = first-new _ _ d e s
  learned-new d k (Response r hb) kind x role e s = first-new _ _ d e s
  learned-new d k (Divulge r n ha) kind x role e s = first-new _ _ d e s
  learned-new d k (Query r t y o) kind x role e s = first-new _ _ d e s
  learned-new d k (Reply r w g z) kind x role e s = first-new _ _ d e s
  learned-new d k (Case c) kind x role e s = first-new _ _ d e s
  learned-new d k (KeyReq r l m) kind x role e s = first-new _ _ d e s
  learned-new d k (Key g) kind x role e s = first-new _ _ d e s
  learned-new d k (Evidence ds) kind x role e s = first-new _ _ d e s

  -- ---- one input

  -- the input is a datagram of a kind, exchange and side, which is admitted
  pub record HearsNow (k : Knowledge) (i : Input) (kind : Kind) (x : Exchange) (role : Role) : Type 0 where
    pub bytes : List ℕ
    pub input : i ≡ event.Datagram bytes
    pub d : Datagram
    pub read : datagram_of me.session bytes ≡ Some d
    pub going : k.ticks < last_tick me.session
    pub admitted : is_admitted me k d ≡ true
    pub of : is_of kind x role d.message ≡ true

  taken-new : (k : Knowledge) (bytes : List ℕ) (d : Datagram) (kind : Kind) (x : Exchange) (role : Role) → datagram_of me.session bytes ≡ Some d → k.ticks < last_tick me.session → k.heard kind x role ≡ None
      → is_some ((machine.take_datagram (minds me) me k (Some d)).state.heard kind x role) ≡ true → HearsNow k (event.Datagram bytes) kind x role
  taken-new k bytes d kind x role read going none some = go (is_admitted me kk d) refl (repeated me kk d) (subst (λ (f : Firsts). is_some (f kind x role) ≡ true) (report-heard (machine.answered_to (minds me) me kk d) d.message.from o) some)
    where
      o : Option (List (List ℕ))
      o = new_evidence me k d

      kk : Knowledge
      kk = machine.with_evidence (minds me) k d.message.from o

      same : ◌≡◌ {A = Firsts} kk.heard k.heard
      same = evidence-heard k d.message.from o

      none' : kk.heard kind x role ≡ None
      none' = ap (λ (f : Firsts). f kind x role) same ∙ none

      go : (b : Bool) → is_admitted me kk d ≡ b → (r : Option Datagram) → is_some ((cond b (machine.answer_new (minds me) me (with_heard me d kk) d) (machine.answer_repeat (minds me) me kk r)).state.heard kind x role) ≡ true
          → HearsNow k (event.Datagram bytes) kind x role
      go true e r s = record {
        bytes = bytes;
        input = refl;
        d = d;
        read = read;
        going = going;
        admitted = sym (evidence-admits k d.message.from o d) ∙ e;
        of = learned-new d kk d.message.body kind x role none' (subst (λ (f : Firsts). is_some (f kind x role) ≡ true) (all-heard (reply_orders me (with_heard me d kk) true d) (begun (with_heard me d kk))) s);
      }
      go false e None s = absurd (unheld _ none' s)
      go false e (Some c) s = absurd (unheld _ none' (subst (λ (f : Firsts). is_some (f kind x role) ≡ true) (all-heard (reply_orders me kk false c) (begun kk)) s))

  pub hears-now : (k : Knowledge) (i : Input) (kind : Kind) (x : Exchange) (role : Role) → k.heard kind x role ≡ None → is_some ((step_known me k i).state.heard kind x role) ≡ true → HearsNow k i kind x role
  unfolding machine.step
  hears-now k i kind x role none some = go (nat_le (last_tick me.session) k.ticks) refl i some
    where
      by : (bytes : List ℕ) (o : Option Datagram) → datagram_of me.session bytes ≡ o → k.ticks < last_tick me.session → is_some ((machine.take_datagram (minds me) me k o).state.heard kind x role) ≡ true
          → HearsNow k (event.Datagram bytes) kind x role
      by bytes None read going s = absurd (unheld _ none s)
      by bytes (Some d) read going s = taken-new k bytes d kind x role read going none s

      go : (b : Bool) → nat_le (last_tick me.session) k.ticks ≡ b → (i : Input) → is_some ((cond b (begun k) (machine.take_input (minds me) me k i)).state.heard kind x role) ≡ true → HearsNow k i kind x role
      go true e i s = absurd (unheld _ none s)
      go false e event.Tick s = absurd (unheld _ none (subst (λ (f : Firsts). is_some (f kind x role) ≡ true) (all-heard (orders_at_tick me (with_tick me k)) (begun (with_tick me k))) s))
      go false e (event.Datagram bytes) s = by bytes (datagram_of me.session bytes) refl (leb-false (last_tick me.session) k.ticks e) s

  -- ---- what remains in it

  sent-kept : (s : ℕ × Datagram) → IsKept (minds me) (λ out. IsAmong s out.sends)
  sent-kept s = record { sent = λ out to d h. among-front s out.sends ((to, d) ∷ []) h; said = λ out d h. h }

  report-still : (s : ℕ × Datagram) (out : Known) (q : ℕ) (o : Option (List (List ℕ))) → IsAmong s out.sends → IsAmong s (machine.report_new (minds me) me out q o).sends
  report-still s out q o h = report-keeps (minds me) me (λ z. IsAmong s z.sends) (sent-kept s) out q o h

  say-still : (s : ℕ × Datagram) (out : Known) (y : Exchange) (o : Option Datagram) (b : Option Body) → IsAmong s out.sends → IsAmong s (machine.say_or_repeat (minds me) me out y o b).sends
  say-still s out y o b h = say-keeps (minds me) me (λ z. IsAmong s z.sends) (sent-kept s) out y o b h

  -- what is said is sent, new or again
  say-sends : (out : Known) (kind : Kind) (y : Exchange) (role : Role) (to : ℕ) (o : Option Body) (b : Body) → role_of me y ≡ role → partner_in me y ≡ to → o ≡ Some b
      → ((d : Datagram) → out.state.said kind y role ≡ Some d → is_of kind y role d.message ≡ true) → is_of kind y role (record { from = me.party; to = to; body = b }) ≡ true
      → Sends (machine.say (minds me) me out kind y o).sends to kind y role
  say-sends out kind y role to o b r q e names own =
      subst (λ (z : Option Datagram). Sends (machine.say_or_repeat (minds me) me out y z o).sends to kind y role) (sym (ap (out.state.said kind y) r))
      (subst (λ (z : Option Body). Sends (machine.say_or_repeat (minds me) me out y (out.state.said kind y role) z).sends to kind y role) (sym e)
      (go (out.state.said kind y role) refl))
    where
      go : (z : Option Datagram) → out.state.said kind y role ≡ z → Sends (machine.say_or_repeat (minds me) me out y z (Some b)).sends to kind y role
      go (Some d) f = record { d = d; among = subst (λ p. IsAmong (to, d) (out.sends ++ (p, d) ∷ [])) (sym q) (among-last (to, d) out.sends); of = names d f }
      go None f =
          let d : ℕ → Datagram = λ p. signed me out.state (record { from = me.party; to = p; body = b }) in
          record { d = d to; among = subst (λ p. IsAmong (to, d to) (out.sends ++ (p, d p) ∷ [])) (sym q) (among-last (to, d to) out.sends); of = own }

  -- ---- what an admitted datagram is answered with

  -- by the evidence that it completes
  abbrev pub answers : Knowledge → Datagram → Option (List (List ℕ)) → Known
  answers k d o = machine.report_new (minds me) me (machine.answer_new (minds me) me (with_heard me d (machine.with_evidence (minds me) k d.message.from o)) d) d.message.from o

  pub answer-is : (k : Knowledge) (bytes : List ℕ) (d : Datagram) → k.ticks < last_tick me.session → datagram_of me.session bytes ≡ Some d → is_admitted me k d ≡ true
      → step_known me k (event.Datagram bytes) ≡ answers k d (new_evidence me k d)
  unfolding machine.step
  answer-is k bytes d going read admitted =
      cond-false (nat_le (last_tick me.session) k.ticks) (begun k) (machine.take_input (minds me) me k (event.Datagram bytes)) (lt-leb (last_tick me.session) k.ticks going)
      ∙ ap (machine.take_datagram (minds me) me k) read
      ∙ ap (λ b. machine.report_new (minds me) me (if b then machine.answer_new (minds me) me (with_heard me d kk) d else machine.answer_repeat (minds me) me kk (repeated me kk d)) d.message.from o)
      (evidence-admits k d.message.from o d ∙ admitted)
    where
      o : Option (List (List ℕ))
      o = new_evidence me k d

      kk : Knowledge
      kk = machine.with_evidence (minds me) k d.message.from o

  pub case-asks : (k : Knowledge) (d : Datagram) (c : Briefcase) (o : Option (List (List ℕ))) → let y : Exchange = exchange_by c.round c.kind c.role d.message.from d.message.to in
      IsAmong (partner_in me y, unsigned (record { from = me.party; to = partner_in me y; body = KeyReq y.round y.kind (role_of me y) })) (answers k (with_body d (Case c)) o).sends
  case-asks k d c o = report-still _ _ d.message.from o (inl refl)

  -- what is known with what was heard, apart from evidence
  said-evidence : (k : Knowledge) (q : ℕ) (o : Option (List (List ℕ))) → ◌≡◌ {A = Firsts} (machine.with_evidence (minds me) k q o).said k.said
  said-evidence k q None = refl
  said-evidence k q (Some v) = refl

  pub request-gives : (k : Knowledge) (d : Datagram) (r : ℕ) (kind : XKind) (side : Role) (o : Option (List (List ℕ))) (y : Exchange) (role : Role) (to : ℕ) → exchange_by r kind side d.message.from d.message.to ≡ y
      → role_of me y ≡ role → partner_in me y ≡ to → ((e : Datagram) → k.said kinds.Key y role ≡ Some e → is_of kinds.Key y role e.message ≡ true)
      → is_of kinds.Key y role (record { from = me.party; to = to; body = key_body me y }) ≡ true → Sends (answers k (with_body d (KeyReq r kind side)) o).sends to kinds.Key y role
  request-gives k d r kind side o y role to e p q names own =
      let given = say-sends (begun (with_heard me (with_body d (KeyReq r kind side)) (machine.with_evidence (minds me) k d.message.from o))) kinds.Key y role to (Some (key_body me y)) (key_body me y) p q refl
      (λ c f. names c (sym (ap (λ (s : Firsts). s kinds.Key y role) (said-evidence k d.message.from o)) ∙ f)) own in
      record {
        d = given.d;
        among = report-still (to, given.d) _ d.message.from o
            (subst (λ z. IsAmong (to, given.d) (machine.perform_all (minds me) me (begun (with_heard me (with_body d (KeyReq r kind side)) (machine.with_evidence (minds me) k d.message.from o))) (GiveKey z ∷ [])).sends) (sym e) given.among);
        of = given.of;
      }

  terms-evidence : (k : Knowledge) (d : Datagram) (q : ℕ) (o : Option (List (List ℕ))) (y : Exchange) (kind : XKind) → terms_by kind me (with_heard me d (machine.with_evidence (minds me) k q o)) y ≡ terms_by kind me (with_heard me d k) y
  terms-evidence k d q None y kind = refl
  terms-evidence k d q (Some v) y kind = by kind d.message.body
    where
      by : (kind : XKind) (b : Body) → terms_by kind me (learned me d (with_kept q v k) b) y ≡ terms_by kind me (learned me d k b) y
      by Balanced (Manifest r ds) = refl
      by Balanced (Block u c) = refl
      by Balanced (Request r s c) = refl
      by Balanced (Response r hb) = refl
      by Balanced (Divulge r n ha) = refl
      by Balanced (Query r s y o) = refl
      by Balanced (Reply r w g z) = refl
      by Balanced (Case c) = refl
      by Balanced (KeyReq r kind role) = refl
      by Balanced (Key g) = refl
      by Balanced (Evidence ds) = refl
      by Balanced (Evict r ps) = refl
      by Push (Manifest r ds) = refl
      by Push (Block u c) = refl
      by Push (Request r s c) = refl
      by Push (Response r hb) = refl
      by Push (Divulge r n ha) = refl
      by Push (Query r s y o) = refl
      by Push (Reply r w g z) = refl
      by Push (Case c) = refl
      by Push (KeyReq r kind role) = refl
      by Push (Key g) = refl
      by Push (Evidence ds) = refl
      by Push (Evict r ps) = refl

  -- a briefcase is given, if the terms are complete
  gives-case : (out : Known) (y : Exchange) (role : Role) (to : ℕ) (terms : Terms) → role_of me y ≡ role → partner_in me y ≡ to → terms_of me out.state y ≡ Some terms
      → ((e : Datagram) → out.state.said kinds.Case y role ≡ Some e → is_of kinds.Case y role e.message ≡ true)
      → is_of kinds.Case y role (record { from = me.party; to = to; body = case_body me out.state y terms }) ≡ true → Sends (machine.perform (minds me) me out (GiveCase y)).sends to kinds.Case y role
  gives-case out y role to terms p q t names own =
      say-sends out kinds.Case y role to (option_map (case_body me out.state y) (terms_of me out.state y)) (case_body me out.state y terms) p q (ap (option_map (case_body me out.state y)) t) names own

  revealed-evidence : (k : Knowledge) (q : ℕ) (o : Option (List (List ℕ))) (y : Exchange) → (machine.with_evidence (minds me) k q o).revealed y ≡ k.revealed y
  revealed-evidence k q None y = refl
  revealed-evidence k q (Some v) y = refl

  -- A RESPONSE by which both sides promise something is answered by the DIVULGE and the CASE.
  pub response-gives : (k : Knowledge) (d : Datagram) (r : ℕ) (hb : List UpdateId) (o : Option (List (List ℕ))) (y : Exchange) (to : ℕ) (a : List ℕ × List UpdateId) (terms : Terms) → exchange_by r Balanced Responder d.message.from d.message.to ≡ y
      → role_of me y ≡ Initiator → partner_in me y ≡ to → terms_of me (with_heard me (with_body d (Response r hb)) k) y ≡ Some terms → is_trade_worth me.session (Some terms) ≡ true → k.revealed y ≡ Some a
      → ((e : Datagram) → k.said kinds.Case y Initiator ≡ Some e → is_of kinds.Case y Initiator e.message ≡ true)
      → ((l : Knowledge) → is_of kinds.Case y Initiator (record { from = me.party; to = to; body = case_body me l y terms }) ≡ true)
      → IsAmong (to, unsigned (record { from = me.party; to = to; body = Divulge y.round a.0 a.1 })) (answers k (with_body d (Response r hb)) o).sends
      × Sends (answers k (with_body d (Response r hb)) o).sends to kinds.Case y Initiator
  response-gives k d r hb o y to a terms e p q t worth revealed names own = (
    report-still _ _ d.message.from o (subst (λ (z : Known). IsAmong (to, shown) z.sends) (sym all) (say-still (to, shown) (sending out0 to shown) y _ _ (among-last (to, shown) []))),
    record { d = given.d; among = report-still _ _ d.message.from o (subst (λ (z : Known). IsAmong (to, given.d) z.sends) (sym all) given.among); of = given.of },
  )
    where
      dd : Datagram
      dd = with_body d (Response r hb)

      k1 : Knowledge
      k1 = with_heard me dd (machine.with_evidence (minds me) k d.message.from o)

      out0 : Known
      out0 = begun k1

      shown : Datagram
      shown = unsigned (record { from = me.party; to = to; body = Divulge y.round a.0 a.1 })

      terms1 : terms_of me k1 y ≡ Some terms
      terms1 = terms-evidence k dd d.message.from o y y.kind ∙ t

      orders : reply_orders me k1 true dd ≡ Reveal y ∷ GiveCase y ∷ []
      orders =
          ap (λ z. orders_when (true && is_trade_worth me.session (terms_of me k1 z)) (Reveal z ∷ GiveCase z ∷ [])) e
          ∙ ap (λ z. orders_when (true && is_trade_worth me.session z) (Reveal y ∷ GiveCase y ∷ [])) terms1
          ∙ ap (λ b. orders_when b (Reveal y ∷ GiveCase y ∷ [])) worth

      reveal : machine.perform (minds me) me out0 (Reveal y) ≡ sending out0 to shown
      reveal = sends-plain me out0 to (partner_in me y) _ (Divulge y.round a.0 a.1) q (ap (option_map (λ (z : List ℕ × List UpdateId). Divulge y.round z.0 z.1)) (revealed-evidence k d.message.from o y ∙ revealed))

      all : machine.answer_new (minds me) me k1 dd ≡ machine.perform (minds me) me (sending out0 to shown) (GiveCase y)
      all = ap (machine.perform_all (minds me) me out0) orders ∙ ap (λ z. machine.perform (minds me) me z (GiveCase y)) reveal

      given : Sends (machine.perform (minds me) me (sending out0 to shown) (GiveCase y)).sends to kinds.Case y Initiator
      given = gives-case (sending out0 to shown) y Initiator to terms p q terms1 (λ c f. names c (sym (ap (λ (s : Firsts). s kinds.Case y Initiator) (said-evidence k d.message.from o)) ∙ f)) (own k1)

  -- A DIVULGE by which both sides promise something is answered by the CASE.
  pub divulge-gives : (k : Knowledge) (d : Datagram) (r : ℕ) (n : List ℕ) (ha : List UpdateId) (o : Option (List (List ℕ))) (y : Exchange) (to : ℕ) (terms : Terms) → exchange_by r Balanced Initiator d.message.from d.message.to ≡ y
      → role_of me y ≡ Responder → partner_in me y ≡ to → terms_of me (with_heard me (with_body d (Divulge r n ha)) k) y ≡ Some terms → is_trade_worth me.session (Some terms) ≡ true
      → ((e : Datagram) → k.said kinds.Case y Responder ≡ Some e → is_of kinds.Case y Responder e.message ≡ true)
      → ((l : Knowledge) → is_of kinds.Case y Responder (record { from = me.party; to = to; body = case_body me l y terms }) ≡ true)
      → Sends (answers k (with_body d (Divulge r n ha)) o).sends to kinds.Case y Responder
  divulge-gives k d r n ha o y to terms e p q t worth names own =
      record { d = given.d; among = report-still _ _ d.message.from o (subst (λ (z : Known). IsAmong (to, given.d) z.sends) (sym all) given.among); of = given.of }
    where
      dd : Datagram
      dd = with_body d (Divulge r n ha)

      k1 : Knowledge
      k1 = with_heard me dd (machine.with_evidence (minds me) k d.message.from o)

      terms1 : terms_of me k1 y ≡ Some terms
      terms1 = terms-evidence k dd d.message.from o y y.kind ∙ t

      orders : reply_orders me k1 true dd ≡ GiveCase y ∷ []
      orders =
          ap (λ z. orders_when (true && is_trade_worth me.session (terms_of me k1 z)) (GiveCase z ∷ [])) e
          ∙ ap (λ z. orders_when (true && is_trade_worth me.session z) (GiveCase y ∷ [])) terms1
          ∙ ap (λ b. orders_when b (GiveCase y ∷ [])) worth

      all : machine.answer_new (minds me) me k1 dd ≡ machine.perform (minds me) me (begun k1) (GiveCase y)
      all = ap (machine.perform_all (minds me) me (begun k1)) orders

      given : Sends (machine.perform (minds me) me (begun k1) (GiveCase y)).sends to kinds.Case y Responder
      given = gives-case (begun k1) y Responder to terms p q terms1 (λ c f. names c (sym (ap (λ (s : Firsts). s kinds.Case y Responder) (said-evidence k d.message.from o)) ∙ f)) (own k1)

  -- ---- what is heard after an admitted datagram

  learned-first : (d : Datagram) (k : Knowledge) (b : Body) (kind : Kind) (x : Exchange) (role : Role) → d.message.body ≡ b → k.heard kind x role ≡ None → is_of kind x role d.message ≡ true → (learned me d k b).heard kind x role ≡ Some d
  learned-first d k (Manifest r ds) kind x role f e s = absurd (placeless d kind x role (ap part_of f) s)
  learned-first d k (Block u c) kind x role f e s = absurd (placeless d kind x role (ap part_of f) s)
  learned-first d k (Evict r ps) kind x role f e s = absurd (placeless d kind x role (ap part_of f) s)
  learned-first d k (Request r t c) kind x role f e s = now-first d k.heard kind x role s e
  learned-first d k (Response r hb) kind x role f e s = now-first d k.heard kind x role s e
  learned-first d k (Divulge r n ha) kind x role f e s = now-first d k.heard kind x role s e
  learned-first d k (Query r t y o) kind x role f e s = now-first d k.heard kind x role s e
  learned-first d k (Reply r w g z) kind x role f e s = now-first d k.heard kind x role s e
  learned-first d k (Case c) kind x role f e s = now-first d k.heard kind x role s e
  learned-first d k (KeyReq r l m) kind x role f e s = now-first d k.heard kind x role s e
  learned-first d k (Key g) kind x role f e s = now-first d k.heard kind x role s e
  learned-first d k (Evidence ds) kind x role f e s = now-first d k.heard kind x role s e

  pub answer-hears : (k : Knowledge) (d : Datagram) (o : Option (List (List ℕ))) (kind : Kind) (x : Exchange) (role : Role) → k.heard kind x role ≡ None → is_of kind x role d.message ≡ true
      → (answers k d o).state.heard kind x role ≡ Some d
  answer-hears k d o kind x role none of =
      ap (λ (f : Firsts). f kind x role) (report-heard (machine.answer_new (minds me) me (with_heard me d kk) d) d.message.from o)
      ∙ ap (λ (f : Firsts). f kind x role) (all-heard (reply_orders me (with_heard me d kk) true d) (begun (with_heard me d kk)))
      ∙ learned-first d kk d.message.body kind x role refl (ap (λ (f : Firsts). f kind x role) (evidence-heard k d.message.from o) ∙ none) of
    where
      kk : Knowledge
      kk = machine.with_evidence (minds me) k d.message.from o

  -- ---- what is revealed remains so

  module _ (x : Exchange) (a : List ℕ × List UpdateId) where
    abbrev Reveals : Knowledge → Type 0
    Reveals k = k.revealed x ≡ Some a

    reveals-kept : IsKept (minds me) (λ out. Reveals out.state)
    reveals-kept = record { sent = λ out to d e. e; said = λ out d e. option_or-some (out.state.revealed x) _ a e }

    learned-reveals : (k : Knowledge) (q : ℕ) (o : Option (List (List ℕ))) (d : Datagram) (b : Body) → Reveals (learned me d k b) → Reveals (learned me d (machine.with_evidence (minds me) k q o) b)
    learned-reveals k q None d b e = e
    learned-reveals k q (Some v) d (Manifest r ds) e = e
    learned-reveals k q (Some v) d (Block u c) e = e
    learned-reveals k q (Some v) d (Request r s c) e = e
    learned-reveals k q (Some v) d (Response r hb) e = e
    learned-reveals k q (Some v) d (Divulge r n ha) e = e
    learned-reveals k q (Some v) d (Query r s y o) e = e
    learned-reveals k q (Some v) d (Reply r w g z) e = e
    learned-reveals k q (Some v) d (Case c) e = e
    learned-reveals k q (Some v) d (KeyReq r kind role) e = e
    learned-reveals k q (Some v) d (Key g) e = e
    learned-reveals k q (Some v) d (Evidence ds) e = e
    learned-reveals k q (Some v) d (Evict r ps) e = e

    pub answer-reveals : (k : Knowledge) (d : Datagram) (o : Option (List (List ℕ))) → Reveals (with_heard me d k) → Reveals (answers k d o).state
    answer-reveals k d o e =
        let kk : Knowledge = with_heard me d (machine.with_evidence (minds me) k d.message.from o) in
        report-keeps (minds me) me (λ out. Reveals out.state) reveals-kept (machine.answer_new (minds me) me kk d) d.message.from o
        (all-keeps (minds me) me (λ out. Reveals out.state) reveals-kept (begun kk) (reply_orders me kk true d) (learned-reveals k d.message.from o d d.message.body e))

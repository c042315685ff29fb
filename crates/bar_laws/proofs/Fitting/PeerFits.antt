-- What a peer signs and sends is in the grammar.
use Rattle.bar_rules.specs.Peer.Evidence.{new_evidence}
use Rattle.bar_rules.specs.Runs.{begun}
use Rattle.bar_rules.specs.Peer.Admission.{is_admitted}
use Rattle.bar_rules.specs.Peer.Exchanges.{role_of, partner_in, revealed, open_exchanges, with_exchange, exchange_said, exchanges_said}
use Rattle.bar_rules.specs.Peer.Knowledge.{known}
use Rattle.bar_rules.specs.Peer.Log.{kept, Log, Entry, Ticked, Heard, Said, Kept, said_in, first_said, ticks, round_now, is_announced}
use Rattle.bar_rules.specs.Peer.Machine.{send_if, message_to}
use Rattle.bar_session.specs.Time.{last_tick}
use Rattle.bar_rules.specs.Member.{Member, IsMember}
use Rattle.bar_rules.specs.Peer.Orders.{Order, Ask, Answer, Reveal, GiveCase, AskKey, GiveKey, Resend, Report}
use Rattle.bar_rules.specs.Peer.Replies.{reply_orders, orders_for, orders_when, repeated}
use Rattle.bar_rules.specs.Peer.Rules.{IsObedient}
use Rattle.bar_rules.specs.Peer.Run.{Out, perform, perform_all, say, say_or_repeat, answered_to, answer_repeat, with_evidence, report_new, take_datagram, take_input, step}
use Rattle.bar_rules.specs.Peer.Signing.{MaySay, signed, leaf_for}
use Rattle.bar_rules.specs.Peer.Ticks.{orders_at_tick, again, asking_partner, new_requests, reports}
use Rattle.bar_rules.specs.Values.{datagram_of, message_bytes, unsigned}
use Rattle.bar_rules.specs.Peer.Machine as machine
use Rattle.bar_rules.proofs.Rising.{all-inserted}
use Rattle.bar_window.specs.Exchange.{party_on, other_role}
use Rattle.bar_window.specs.declared.exchange.Exchange.{Exchange}
use Rattle.bar_window.specs.declared.exchange.Role.{Role}
use Rattle.bar_window.specs.declared.exchange.Role.TheVariants.{Initiator, Responder}
use Rattle.bar_window.specs.declared.exchange.XKind.{XKind}
use Rattle.bar_window.specs.declared.exchange.XKind.TheVariants.{Balanced, Push}
use Rattle.bar_window.specs.declared.update.UpdateId.{UpdateId}
use Rattle.bar_wire.specs.declared.kind.Kind.TheVariants as kinds
use Rattle.bar_wire.specs.declared.kind.Kind.{Kind}
use Rattle.bar_wire.specs.Datagram.{Place, place_by, Datagram, Body, Request, Response, Divulge, Query, Reply, Case, KeyReq, Key, Evidence, kind_of, part_of, exchange_by, is_of}
use Rattle.bar_wire.specs.Grammar.{IsDatagram, IsPeer, MaySend}
use Rattle.bar_wire.specs.Inputs.{Input}
use Rattle.bar_wire.specs.Inputs as event
use Rattle.bar_wire.specs.Kinds.{is_signed_kind}
use Rattle.std.proofs.Common.{◌≡◌, ◌≢◌, ℕ, ◌+◌, ◌<◌, ◌≤◌, ◌^◌, Bool, true, false, List, [], ◌∷◌, length, refl, sym, ap, ◌∙◌, subst, inl, eqb, cond, not, arith}
use Rattle.std.specs.Prelude.{Option, Some, None, option_map, map, nat_le}
use Rattle.std.specs.List.{AllByRecursion}
use Rattle.std.proofs.lemmas.Bool.{eqb-true, eq-eqb, both_ways}
use Rattle.bar_wire.proofs.Lists.{AllByRecursion-push}
use Rattle.bar_laws.proofs.Logs.{when-all, again-all, allowed-at, signed_long, IsFormed, IsBetween, between-by, party-peer, fits-formed, revealed-formed, heard-fits, was-heard-fits, part-in-range, first_said-was, said-rule, SaidIn, was-said, said-in, all-both, all-flat-map, all-kept}
use Rattle.bar_laws.proofs.Fitting.EvidenceFits.{evidence-fits}
use Rattle.bar_laws.proofs.Runs.{keeps-leaves, send_if-log, step-obedient, repeated-heard, said-contains}
use Rattle.bar_laws.proofs.Fitting.SaidFits.{sign-formed, all-formed, round-small}

-- ---- what is signed

peer-small : (me : Member) (p : ℕ) → IsMember me → IsPeer me.session.shape p → p < 2 ^ 16
peer-small me p is peer = let high : me.session.shape.peers ≤ 200 = is.session.shape.peers_high in omega (arith, high, peer.1)

say-signed : (me : Member) (before : Log) (to : ℕ) (b : Body) → MaySay me (known me before) to b → is_signed_kind (kind_of b) ≡ true
say-signed me before to (Request r s c) rule = refl
say-signed me before to (Query r s y o) rule = refl
say-signed me before to (Response r hb) rule = refl
say-signed me before to (Reply r w g z) rule = refl
say-signed me before to (Case c) rule = refl
say-signed me before to (Key k) rule = refl
say-signed me before to _ rule = absurd rule

say-between : (me : Member) (before : Log) (from to : ℕ) (b : Body) → MaySay me (known me before) to b → IsPeer me.session.shape from → IsPeer me.session.shape to → from ≢ to → MaySend me.session.shape (kind_of b) from to
say-between me before from to (Request r s c) rule a b n = (a, b, n)
say-between me before from to (Query r s y o) rule a b n = (a, b, n)
say-between me before from to (Response r hb) rule a b n = (a, b, n)
say-between me before from to (Reply r w g z) rule a b n = (a, b, n)
say-between me before from to (Case c) rule a b n = (a, b, n)
say-between me before from to (Key k) rule a b n = (a, b, n)
say-between me before from to _ rule a b n = absurd rule

-- each datagram that a member signed
pub said-fits : (me : Member) (log : Log) (d : Datagram) → IsMember me → IsObedient me log → SaidIn log d → IsDatagram me.session.shape d
said-fits me log d is h s =
    let w = was-said log d s in
    let before : IsObedient me w.before = (allowed-at me log w.before (Said d) w.place h).1 in
    let rule = (said-rule me log d w h).rule in
    let formed : IsFormed me.session.shape d.message = sign-formed me w.before d.message is before (all-formed me w.before is before) rule in
    let leaves = keeps-leaves me log is.session h in
    let contains = said-contains log d s in
    let sealed : d.signature ≡ (signed me (known me log) d.message).signature = ap (λ z. z.signature) (leaves.stays d contains) in
    let long = signed_long me.session.top me.session.params me.session.shape.id me.secret (leaf_for (known me log) d.message) (message_bytes me.session d.message) (leaves.below d contains) in
    record {
      from_fits = peer-small me d.message.from is formed.from;
      to_fits = peer-small me d.message.to is formed.to;
      form = formed.form;
      range = formed.range;
      may_send = say-between me w.before d.message.from d.message.to d.message.body rule.rule formed.from formed.to formed.other;
      signature_long = ap length sealed ∙ long ∙ sym is.session.signatures ∙ rw (say-signed me w.before d.message.to d.message.body rule.rule) refl;
    }

-- ---- what is sent to the partner of an exchange between peers

partner-is : (me : Member) (x : Exchange) → IsBetween me.session.shape x → IsPeer me.session.shape (partner_in me x) × (me.party ≢ partner_in me x)
partner-is me x b = (party-peer me.session.shape x (other_role (role_of me x)) b, go (eqb x.initiator me.party) refl)
  where
    go : (t : Bool) → eqb x.initiator me.party ≡ t → me.party ≢ party_on x (other_role (cond t Initiator Responder))
    go true e same = b.other (eqb-true _ _ e ∙ same)
    go false e same = absurd (both_ways _ e (eq-eqb _ _ (sym same)))

key_request-fits : (me : Member) (x : Exchange) → IsMember me → IsBetween me.session.shape x → IsDatagram me.session.shape (unsigned (record { from = me.party; to = partner_in me x; body = KeyReq x.round x.kind (role_of me x) }))
key_request-fits me x is b =
    let partner = partner-is me x b in
    record {
      from_fits = peer-small me me.party is is.peer;
      to_fits = peer-small me (partner_in me x) is partner.0;
      form = round-small me x.round is b.round;
      range = b.round;
      may_send = (is.peer, partner.0, partner.1);
      signature_long = refl;
    }

divulge-fits : (me : Member) (log : Log) (x : Exchange) (a : List ℕ × List UpdateId) → IsMember me → IsObedient me log → revealed me log x ≡ Some a
    → IsDatagram me.session.shape (unsigned (record { from = me.party; to = partner_in me x; body = Divulge x.round a.0 a.1 }))
divulge-fits me log x a is h e =
    let w = revealed-formed me log x a (all-formed me log is h) e in
    let partner = partner-is me x w.between in
    record {
      from_fits = peer-small me me.party is is.peer;
      to_fits = peer-small me (partner_in me x) is partner.0;
      form = (round-small me x.round is w.between.round, w.nonce, w.set);
      range = w.between.round;
      may_send = (is.peer, partner.0, partner.1);
      signature_long = refl;
    }

-- ---- orders

abbrev Fits : Member → ℕ × Datagram → Type 0
Fits me s = IsDatagram me.session.shape s.1

-- a key is asked for in an exchange between peers
abbrev IsProperOrder : Member → Order → Type 0
IsProperOrder me (AskKey x) = IsBetween me.session.shape x
IsProperOrder me _ = Unit {0}

say-fits : (me : Member) (out : Out) (kind : Kind) (x : Exchange) (b : Option Body) → IsMember me → IsObedient me (say me out kind x b).state → AllByRecursion (Fits me) out.sends → AllByRecursion (Fits me) (say me out kind x b).sends
say-fits me out kind x b is h a = go (first_said (is_of kind x (role_of me x)) out.state) b refl h
  where
    go : (q : Option Datagram) (b : Option Body) → first_said (is_of kind x (role_of me x)) out.state ≡ q → IsObedient me (say_or_repeat me out x q b).state → AllByRecursion (Fits me) (say_or_repeat me out x q b).sends
    go (Some d) b e h = AllByRecursion-push (Fits me) out.sends (partner_in me x, d) a (said-fits me out.state d is h (said-in out.state d (first_said-was (is_of kind x (role_of me x)) out.state d e).0))
    go None None e h = a
    go None (Some b) e h =
        let d : Datagram = signed me (known me out.state) (message_to me x b) in
        AllByRecursion-push (Fits me) out.sends (partner_in me x, d) a (said-fits me (Said d ∷ out.state) d is h (inl refl))

reveal-fits : (me : Member) (out : Out) (x : Exchange) → IsMember me → IsObedient me out.state → AllByRecursion (Fits me) out.sends → AllByRecursion (Fits me) (perform me out (Reveal x)).sends
reveal-fits me out x is h a = go (revealed me out.state x) refl
  where
    go : (o : Option (List ℕ × List UpdateId)) → revealed me out.state x ≡ o → AllByRecursion (Fits me) (send_if me out (partner_in me x) (option_map (λ a. Divulge x.round a.0 a.1) o)).sends
    go None e = a
    go (Some v) e = AllByRecursion-push (Fits me) out.sends (partner_in me x, unsigned (record { from = me.party; to = partner_in me x; body = Divulge x.round v.0 v.1 })) a (divulge-fits me out.state x v is h e)

report-fits : (me : Member) (out : Out) (q : ℕ) → IsMember me → IsObedient me out.state → AllByRecursion (Fits me) out.sends → AllByRecursion (Fits me) (perform me out (Report q)).sends
report-fits me out q is h a = go (kept out.state q) refl
  where
    go : (o : Option (List (List ℕ))) → kept out.state q ≡ o → AllByRecursion (Fits me) (send_if me out 0 (option_map Evidence o)).sends
    go None e = a
    go (Some v) e = AllByRecursion-push (Fits me) out.sends (0, unsigned (record { from = me.party; to = 0; body = Evidence v })) a (evidence-fits me out.state q v is h e)

-- if the log after an order is obedient, so is the log before it
say-before : (me : Member) (out : Out) (kind : Kind) (x : Exchange) (b : Option Body) → IsObedient me (say me out kind x b).state → IsObedient me out.state
say-before me out kind x b h = go (first_said (is_of kind x (role_of me x)) out.state) b h
  where
    go : (q : Option Datagram) (b : Option Body) → IsObedient me (say_or_repeat me out x q b).state → IsObedient me out.state
    go (Some d) b h = h
    go None None h = h
    go None (Some b) h = h.1

if-before : (me : Member) (out : Out) (to : ℕ) (o : Option Body) → IsObedient me (send_if me out to o).state → IsObedient me out.state
if-before me out to o h = subst (λ l. IsObedient me l) (send_if-log me out to o) h

pub perform-before : (me : Member) (out : Out) (o : Order) → IsObedient me (perform me out o).state → IsObedient me out.state
perform-before me out (Ask x) h = say-before me out _ x _ h
perform-before me out (Answer x) h = say-before me out _ x _ h
perform-before me out (GiveCase x) h = say-before me out kinds.Case x _ h
perform-before me out (GiveKey x) h = say-before me out kinds.Key x _ h
perform-before me out (Resend kind x) h = say-before me out kind x None h
perform-before me out (Reveal x) h = if-before me out _ _ h
perform-before me out (AskKey x) h = h
perform-before me out (Report q) h = if-before me out 0 _ h

pub perform_all-before : (me : Member) (os : List Order) (out : Out) → IsObedient me (perform_all me out os).state → IsObedient me out.state
perform_all-before me [] out h = h
perform_all-before me (o ∷ os) out h = perform-before me out o (perform_all-before me os (perform me out o) h)

perform-fits : (me : Member) (out : Out) (o : Order) → IsMember me → IsObedient me (perform me out o).state → IsProperOrder me o → AllByRecursion (Fits me) out.sends → AllByRecursion (Fits me) (perform me out o).sends
perform-fits me out (Ask x) is h p a = say-fits me out _ x _ is h a
perform-fits me out (Answer x) is h p a = say-fits me out _ x _ is h a
perform-fits me out (GiveCase x) is h p a = say-fits me out kinds.Case x _ is h a
perform-fits me out (GiveKey x) is h p a = say-fits me out kinds.Key x _ is h a
perform-fits me out (Resend kind x) is h p a = say-fits me out kind x None is h a
perform-fits me out (Reveal x) is h p a = reveal-fits me out x is (perform-before me out (Reveal x) h) a
perform-fits me out (AskKey x) is h p a = AllByRecursion-push (Fits me) out.sends (partner_in me x, unsigned (record { from = me.party; to = partner_in me x; body = KeyReq x.round x.kind (role_of me x) })) a (key_request-fits me x is p)
perform-fits me out (Report q) is h p a = report-fits me out q is (perform-before me out (Report q) h) a

perform_all-fits : (me : Member) (os : List Order) (out : Out) → IsMember me → IsObedient me (perform_all me out os).state → AllByRecursion (IsProperOrder me) os → AllByRecursion (Fits me) out.sends → AllByRecursion (Fits me) (perform_all me out os).sends
perform_all-fits me [] out is h p a = a
perform_all-fits me (o ∷ os) out is h p a =
    perform_all-fits me os (perform me out o) is h p.1 (perform-fits me out o is (perform_all-before me os (perform me out o) h) p.0 a)

-- ---- the orders of a datagram

reply-proper : (me : Member) (log : Log) (is_new : Bool) (d : Datagram) → IsDatagram me.session.shape d → AllByRecursion (IsProperOrder me) (reply_orders me (known me log) is_new d)
reply-proper me log is_new d fits = go d.message.body refl
  where
    between : (b : Body) (p : ℕ × XKind × Role) → d.message.body ≡ b → part_of b ≡ Some p → IsBetween me.session.shape (exchange_by p.0 p.1 p.2 d.message.from d.message.to)
    between b p e f =
        let part : part_of d.message.body ≡ Some p = ap part_of e ∙ f in
        let formed : IsFormed me.session.shape d.message = fits-formed me.session.shape d p fits part in
        between-by me.session.shape p.0 p.1 p.2 d.message.from d.message.to (part-in-range me.session.shape d.message.body p part formed.range) formed.from formed.to formed.other

    go : (b : Body) → d.message.body ≡ b → AllByRecursion (IsProperOrder me) (orders_for me (known me log) is_new d.message.from d.message.to b)
    go (Request r seed c) e = when-all (IsProperOrder me) _ (Answer (exchange_by r Balanced Initiator d.message.from d.message.to) ∷ []) (λ _. (tt, tt))
    go (Response r hb) e = when-all (IsProperOrder me) _ (Reveal (exchange_by r Balanced Responder d.message.from d.message.to) ∷ GiveCase (exchange_by r Balanced Responder d.message.from d.message.to) ∷ []) (λ _. (tt, (tt, tt)))
    go (Divulge r nonce ha) e = when-all (IsProperOrder me) _ (GiveCase (exchange_by r Balanced Initiator d.message.from d.message.to) ∷ []) (λ _. (tt, tt))
    go (Query r seed young aged) e = when-all (IsProperOrder me) _ (Answer (exchange_by r Push Initiator d.message.from d.message.to) ∷ GiveCase (exchange_by r Push Initiator d.message.from d.message.to) ∷ []) (λ _. (tt, (tt, tt)))
    go (Reply r want give junk) e = when-all (IsProperOrder me) _ (GiveCase (exchange_by r Push Responder d.message.from d.message.to) ∷ []) (λ _. (tt, tt))
    go (Case c) e = when-all (IsProperOrder me) _ (AskKey (exchange_by c.round c.kind c.role d.message.from d.message.to) ∷ []) (λ _. (between (Case c) (c.round, c.kind, c.role) e refl, tt))
    go (KeyReq r k role) e = when-all (IsProperOrder me) _ (GiveKey (exchange_by r k role d.message.from d.message.to) ∷ []) (λ _. (tt, tt))
    go _ e = tt

-- ---- the orders of a tick

-- each exchange in which a member signed a message is between peers
opened-between : (me : Member) (log : Log) → IsMember me → IsObedient me log → AllByRecursion (IsBetween me.session.shape) (exchanges_said log)
opened-between me [] is h = tt
opened-between me (e ∷ log) is h = go e h (opened-between me log is h.1)
  where
    part : (d : Datagram) (o : Option (ℕ × XKind × Role)) → IsObedient me (Said d ∷ log) → part_of d.message.body ≡ o → AllByRecursion (IsBetween me.session.shape) (exchanges_said log)
        → AllByRecursion (IsBetween me.session.shape) (with_exchange (option_map (λ (q : Place). q.exchange) (option_map (place_by d.message.from d.message.to) o)) (exchanges_said log))
    part d None h f a = a
    part d (Some p) h f a =
        let formed : IsFormed me.session.shape d.message = all-formed me (Said d ∷ log) is h d p (inl refl) f in
        all-inserted (IsBetween me.session.shape) (exchange_by p.0 p.1 p.2 d.message.from d.message.to) (exchanges_said log)
        (between-by me.session.shape p.0 p.1 p.2 d.message.from d.message.to (part-in-range me.session.shape d.message.body p f formed.range) formed.from formed.to formed.other) a

    go : (e : Entry) → IsObedient me (e ∷ log) → AllByRecursion (IsBetween me.session.shape) (exchanges_said log) → AllByRecursion (IsBetween me.session.shape) (with_exchange (exchange_said (said_in e)) (exchanges_said log))
    go (Said d) h a = part d (part_of d.message.body) h refl a
    go Ticked h a = a
    go (Heard d) h a = a
    go (Kept q v) h a = a

again-proper : (me : Member) (log : Log) (x : Exchange) → IsBetween me.session.shape x → AllByRecursion (IsProperOrder me) (again me (known me log) x)
again-proper me log x b = again-all (IsProperOrder me) me (known me log) x tt (λ _. (tt, tt)) (λ _. b)

asking-proper : (me : Member) (log : Log) (kind : XKind) → AllByRecursion (IsProperOrder me) (asking_partner me (known me log) (round_now log) kind)
asking-proper me log kind = when-all (IsProperOrder me) _ (Ask _ ∷ []) (λ _. (tt, tt))

reports-proper : (me : Member) (qs : List ℕ) → AllByRecursion (IsProperOrder me) (map Report qs)
reports-proper me [] = tt
reports-proper me (q ∷ qs) = (tt, reports-proper me qs)

tick-proper : (me : Member) (log : Log) → IsMember me → IsObedient me log → AllByRecursion (IsProperOrder me) (orders_at_tick me (known me log))
tick-proper me log is h =
    all-both (IsProperOrder me) _ _
    (all-both (IsProperOrder me) _ _
    (all-flat-map (IsBetween me.session.shape) (IsProperOrder me) (λ x. orders_when (not (is_announced log (partner_in me x))) (again me (known me log) x)) (open_exchanges me log)
    (λ x b. when-all (IsProperOrder me) (not (is_announced log (partner_in me x))) (again me (known me log) x) (λ _. again-proper me log x b))
    (all-kept (IsBetween me.session.shape) (λ x. nat_le (round_now log) (x.round + me.session.shape.life)) (exchanges_said log) (opened-between me log is h)))
    (when-all (IsProperOrder me) _ (new_requests me (known me log) (round_now log))
    (λ _. all-both (IsProperOrder me) _ _ (asking-proper me log Balanced) (when-all (IsProperOrder me) _ (asking_partner me (known me log) (round_now log) Push) (λ _. asking-proper me log Push)))))
    (when-all (IsProperOrder me) _ (reports me (known me log)) (λ _. reports-proper me _))

-- ---- one input

answered-fits : (me : Member) (log : Log) (d : Datagram) → IsMember me → IsObedient me (answered_to me log d).state → AllByRecursion (Fits me) (answered_to me log d).sends
answered-fits me log d is h = go (is_admitted me (known me log) d) h
  where
    repeat : (o : Option Datagram) → repeated me (known me log) d ≡ o → IsObedient me (answer_repeat me log o).state → AllByRecursion (Fits me) (answer_repeat me log o).sends
    repeat None e h = tt
    repeat (Some c) e h =
        let before : IsObedient me log = perform_all-before me (reply_orders me (known me log) false c) (begun log) h in
        perform_all-fits me (reply_orders me (known me log) false c) (begun log) is h (reply-proper me log false c (was-heard-fits me log c (repeated-heard me log d c e) before)) tt

    go : (b : Bool) → IsObedient me (cond b (perform_all me (begun (Heard d ∷ log)) (reply_orders me (known me (Heard d ∷ log)) true d)) (answer_repeat me log (repeated me (known me log) d))).state
        → AllByRecursion (Fits me) (cond b (perform_all me (begun (Heard d ∷ log)) (reply_orders me (known me (Heard d ∷ log)) true d)) (answer_repeat me log (repeated me (known me log) d))).sends
    go true h =
        let before : IsObedient me (Heard d ∷ log) = perform_all-before me (reply_orders me (known me (Heard d ∷ log)) true d) (begun (Heard d ∷ log)) h in
        perform_all-fits me (reply_orders me (known me (Heard d ∷ log)) true d) (begun (Heard d ∷ log)) is h (reply-proper me (Heard d ∷ log) true d (heard-fits me log d before.0)) tt
    go false h = repeat (repeated me (known me log) d) refl h

datagram-fits : (me : Member) (log : Log) (o : Option Datagram) → IsMember me → IsObedient me (take_datagram me log o).state → AllByRecursion (Fits me) (take_datagram me log o).sends
datagram-fits me log None is h = tt
datagram-fits me log (Some d) is h = go (new_evidence me (known me log) d) h
  where
    go : (e : Option (List (List ℕ))) → IsObedient me (report_new me (answered_to me (with_evidence me log d.message.from e) d) d.message.from e).state
        → AllByRecursion (Fits me) (report_new me (answered_to me (with_evidence me log d.message.from e) d) d.message.from e).sends
    go None h = answered-fits me log d is h
    go (Some e) h =
        let out : Out = answered_to me (Kept d.message.from e ∷ log) d in
        let before : IsObedient me out.state = perform-before me out (Report d.message.from) h in
        report-fits me out d.message.from is before (answered-fits me (Kept d.message.from e ∷ log) d is before)

input-fits : (me : Member) (log : Log) (i : Input) → IsMember me → IsObedient me log → IsObedient me (take_input me log i).state → AllByRecursion (Fits me) (take_input me log i).sends
input-fits me log event.Tick is h after = perform_all-fits me (orders_at_tick me (known me (Ticked ∷ log))) (begun (Ticked ∷ log)) is after (tick-proper me (Ticked ∷ log) is (tt, h)) tt
input-fits me log (event.Datagram bytes) is h after = datagram-fits me log (datagram_of me.session bytes) is after

-- each datagram that a step sends
pub step-fits : (me : Member) (log : Log) (i : Input) → IsMember me → IsObedient me log → AllByRecursion (λ (s : ℕ × Datagram). IsDatagram me.session.shape s.1) (step me log i).sends
unfolding machine.step
step-fits me log i is h = go (nat_le (last_tick me.session) (ticks log)) (step-obedient me log i h)
  where
    go : (b : Bool) → IsObedient me (cond b (begun log) (take_input me log i)).state → AllByRecursion (Fits me) (cond b (begun log) (take_input me log i)).sends
    go true after = tt
    go false after = input-fits me log i is h after

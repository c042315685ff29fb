-- Nothing is sent to an announced party.
use Rattle.std.proofs.Common.{◌≡◌, ◌≢◌, ◌∙◌, ℕ, Bool, true, false, List, [], ◌∷◌, is_some, refl, sym, ap, subst, cond}
use Rattle.std.specs.Prelude.{Option, Some, None, not, map, nat_le, ◌||◌}
use Rattle.std.specs.Bool.{then_some}
use Rattle.std.specs.List.{AllByRecursion}
use Rattle.std.specs.Str.{bytes_eq}
use Rattle.std.proofs.lemmas.Bool.{both_ways, not-true, or_parts}
use Rattle.bar_bytes.proofs.Options.{or-none}
use Rattle.bar_session.specs.Time.{last_tick}
use Rattle.bar_window.specs.Exchange.{other_role, party_on}
use Rattle.bar_window.specs.declared.exchange.Exchange.{Exchange}
use Rattle.bar_window.specs.declared.exchange.Role.{Role}
use Rattle.bar_window.specs.declared.exchange.Role.TheVariants.{Initiator, Responder}
use Rattle.bar_window.specs.declared.exchange.XKind.{XKind}
use Rattle.bar_window.specs.declared.exchange.XKind.TheVariants.{Balanced, Push}
use Rattle.bar_wire.proofs.Lists.{AllByRecursion-push}
use Rattle.bar_wire.specs.Datagram.{Body, Case, Datagram, Divulge, KeyReq, Query, Reply, Request, Response, exchange_by, part_of, place_of}
use Rattle.bar_wire.specs.Inputs as event
use Rattle.bar_rules.specs.Member.{Member}
use Rattle.bar_rules.specs.Secrets.{partner_of, seed_of}
use Rattle.bar_rules.specs.Peer.Admission.{is_admitted}
use Rattle.bar_rules.specs.Peer.Debts.{owes}
use Rattle.bar_rules.specs.Peer.Evidence.{new_evidence}
use Rattle.bar_rules.specs.Peer.Exchanges.{partner_in, role_of}
use Rattle.bar_rules.specs.Peer.Knowledge.{Knowledge, known, this_round}
use Rattle.bar_rules.specs.Peer.Log.{Heard, Log, Ticked, first_heard, is_announced, names_party, ticks}
use Rattle.bar_rules.specs.Peer.Machine as machine
use Rattle.bar_rules.specs.Peer.Machine.{message_to, send_if}
use Rattle.bar_rules.specs.Peer.Orders.{Answer, Ask, AskKey, GiveCase, GiveKey, Order, Report, Resend, Reveal}
use Rattle.bar_rules.specs.Peer.Replies.{heard_like, if_same, orders_for, orders_when, repeated, reply_orders}
use Rattle.bar_rules.specs.Peer.Rules.{IsObedient}
use Rattle.bar_rules.specs.Peer.Run.{Out, answer_repeat, answered_to, log_after, perform, perform_all, report_new, say_or_repeat, step, take_datagram, take_input, with_evidence}
use Rattle.bar_rules.specs.Peer.Signing.{signed}
use Rattle.bar_rules.specs.Peer.Ticks.{again, asking_partner, new_requests, orders_at_tick, reports}
use Rattle.bar_rules.specs.Runs.{begun}
use Rattle.bar_rules.specs.Values.{datagram_bytes, datagram_of, unsigned}
use Rattle.bar_laws.specs.Obedience.{SignedByRule}
use Rattle.bar_laws.proofs.Logs.{again-all, all-both, all-flat, fits-back, heard-own, reads-back, receiver-partner, role-initiator, same_bytes-is, some-equal, unannounced, was-heard-fits, was-heard-own, when-all}
use Rattle.bar_laws.proofs.Runs.{evidence-obedient, repeated-heard}
use Rattle.bar_progress.specs.Evictions.{AnnouncedAreIgnored, AnnouncedGetNothing, IsSpared}

-- the party to which an order's datagram is sent
abbrev receiver : Member → Order → ℕ
receiver me (Ask x) = partner_in me x
receiver me (Answer x) = partner_in me x
receiver me (Reveal x) = partner_in me x
receiver me (GiveCase x) = partner_in me x
receiver me (AskKey x) = partner_in me x
receiver me (GiveKey x) = partner_in me x
receiver me (Resend kind x) = partner_in me x
receiver me (Report q) = 0

-- what is repeated is the same datagram
repeats-same : (me : Member) (log : Log) (d c : Datagram) → datagram_of me.session (datagram_bytes me.session c) ≡ Some c
    → datagram_of me.session (datagram_bytes me.session d) ≡ Some d → repeated me (known me log) d ≡ Some c → c ≡ d
repeats-same me log d c mine yours e = some-equal c d (sym mine ∙ ap (datagram_of me.session) (bytes (is_announced log d.message.from) e) ∙ yours)
  where
    same : (o : Option Datagram) → if_same me.session d o ≡ Some c → datagram_bytes me.session c ≡ datagram_bytes me.session d
    same None e = cc
    same (Some a) e = go (bytes_eq (datagram_bytes me.session a) (datagram_bytes me.session d)) refl e
      where
        go : (b : Bool) → bytes_eq (datagram_bytes me.session a) (datagram_bytes me.session d) ≡ b → then_some b a ≡ Some c → datagram_bytes me.session c ≡ datagram_bytes me.session d
        go true f e = ap (datagram_bytes me.session) (sym (some-equal a c e)) ∙ same_bytes-is _ _ f
        go false f e = cc

    bytes : (b : Bool) → cond b None (if_same me.session d (heard_like (known me log) d.message.body (place_of d.message))) ≡ Some c → datagram_bytes me.session c ≡ datagram_bytes me.session d
    bytes true e = cc
    bytes false e = same (heard_like (known me log) d.message.body (place_of d.message)) e

module _ (me : Member) (party : ℕ) where
  -- ---- what orders send

  abbrev Spares : List (ℕ × Datagram) → Type 0
  Spares sends = AllByRecursion (IsSpared party) sends

  abbrev IsElsewhere : Order → Type 0
  IsElsewhere o = receiver me o ≢ party

  say-spares : (out : Out) (x : Exchange) (o : Option Datagram) (b : Option Body) → partner_in me x ≢ party → Spares out.sends → Spares (say_or_repeat me out x o b).sends
  say-spares out x (Some d) b n h = AllByRecursion-push (IsSpared party) out.sends (partner_in me x, d) h n
  say-spares out x None None n h = h
  say-spares out x None (Some b) n h = AllByRecursion-push (IsSpared party) out.sends (partner_in me x, signed me (known me out.state) (message_to me x b)) h n

  if-spares : (out : Out) (to : ℕ) (b : Option Body) → to ≢ party → Spares out.sends → Spares (send_if me out to b).sends
  if-spares out to None n h = h
  if-spares out to (Some b) n h = AllByRecursion-push (IsSpared party) out.sends (to, unsigned (record { from = me.party; to = to; body = b })) h n

  perform-spares : (out : Out) (o : Order) → IsElsewhere o → Spares out.sends → Spares (perform me out o).sends
  perform-spares out (Ask x) n h = say-spares out x _ _ n h
  perform-spares out (Answer x) n h = say-spares out x _ _ n h
  perform-spares out (GiveCase x) n h = say-spares out x _ _ n h
  perform-spares out (GiveKey x) n h = say-spares out x _ _ n h
  perform-spares out (Resend kind x) n h = say-spares out x _ _ n h
  perform-spares out (Reveal x) n h = if-spares out (partner_in me x) _ n h
  perform-spares out (AskKey x) n h = if-spares out (partner_in me x) (Some (KeyReq x.round x.kind (role_of me x))) n h
  perform-spares out (Report q) n h = if-spares out 0 _ n h

  all-spares : (out : Out) (os : List Order) → AllByRecursion IsElsewhere os → Spares out.sends → Spares (perform_all me out os).sends
  all-spares out [] a h = h
  all-spares out (o ∷ os) a h = all-spares (perform me out o) os a.1 (perform-spares out o a.0 h)

  -- ---- at a tick

  again-elsewhere : (k : Knowledge) (x : Exchange) → partner_in me x ≢ party → AllByRecursion IsElsewhere (again me k x)
  again-elsewhere k x n = again-all IsElsewhere me k x n (λ e. (n, n)) (λ e. n)

  module _ (k : Knowledge) (announced : k.is_announced party ≡ true) (caster : k.is_announced 0 ≡ false) where
    other : (q : ℕ) → k.is_announced q ≡ false → q ≢ party
    other q e same = both_ways (k.is_announced q) e (ap k.is_announced same ∙ announced)

    asking-elsewhere : (round : ℕ) (kind : XKind) → AllByRecursion IsElsewhere (asking_partner me k round kind)
    asking-elsewhere round kind =
        when-all IsElsewhere (not (k.is_announced to || owes me k to)) (Ask x ∷ [])
        (λ e. (λ same. other to (or_parts (k.is_announced to) (owes me k to) (not-true _ e)).0 (sym partner ∙ same), tt))
      where
        to : ℕ
        to = partner_of me.session (seed_of me round) kind me.party

        x : Exchange
        x = record { round = round; kind = kind; initiator = me.party; responder = to }

        partner : partner_in me x ≡ to
        partner = ap (λ r. party_on x (other_role r)) (role-initiator me x refl)

    reports-elsewhere : (qs : List ℕ) → AllByRecursion IsElsewhere (map Report qs)
    reports-elsewhere [] = tt
    reports-elsewhere (q ∷ qs) = (other 0 caster, reports-elsewhere qs)

    tick-elsewhere : AllByRecursion IsElsewhere (orders_at_tick me k)
    tick-elsewhere =
        all-both IsElsewhere _ _
        (all-both IsElsewhere _ _
        (all-flat IsElsewhere (λ x. orders_when (not (k.is_announced (partner_in me x))) (again me k x)) k.opens
        (λ x. when-all IsElsewhere (not (k.is_announced (partner_in me x))) (again me k x) (λ e. again-elsewhere k x (other (partner_in me x) (not-true _ e)))))
        (when-all IsElsewhere _ (new_requests me k (this_round k))
        (λ e. all-both IsElsewhere _ _ (asking-elsewhere (this_round k) Balanced) (when-all IsElsewhere _ (asking_partner me k (this_round k) Push) (λ f. asking-elsewhere (this_round k) Push)))))
        (when-all IsElsewhere _ (reports me k) (λ e. reports-elsewhere _))

  -- ---- at a datagram

  -- an answer to another party's datagram is sent to that party
  module _ (k : Knowledge) (is_new : Bool) (from to : ℕ) (other : from ≢ party) where
    abbrev AreOthers : Body → Type 0
    AreOthers body = (p : ℕ × XKind × Role) → part_of body ≡ Some p → (to ≡ me.party) × (from ≡ me.party → ⊥)

    partner : (r : ℕ) (kind : XKind) (role : Role) → (to ≡ me.party) × (from ≡ me.party → ⊥) → partner_in me (exchange_by r kind role from to) ≢ party
    partner r kind role own same = other (sym (receiver-partner me r kind role from to own.0 own.1) ∙ same)

    replies-elsewhere : (body : Body) → AreOthers body → AllByRecursion IsElsewhere (orders_for me k is_new from to body)
    replies-elsewhere (Request r seed c) own =
        when-all IsElsewhere _ (Answer (exchange_by r Balanced Initiator from to) ∷ []) (λ e. (partner r Balanced Initiator (own _ refl), tt))
    replies-elsewhere (Response r hb) own =
        let n = partner r Balanced Responder (own _ refl) in
        when-all IsElsewhere _ (Reveal (exchange_by r Balanced Responder from to) ∷ GiveCase (exchange_by r Balanced Responder from to) ∷ []) (λ e. (n, (n, tt)))
    replies-elsewhere (Divulge r nonce ha) own =
        when-all IsElsewhere _ (GiveCase (exchange_by r Balanced Initiator from to) ∷ []) (λ e. (partner r Balanced Initiator (own _ refl), tt))
    replies-elsewhere (Query r seed young aged) own =
        let n = partner r Push Initiator (own _ refl) in
        when-all IsElsewhere _ (Answer (exchange_by r Push Initiator from to) ∷ GiveCase (exchange_by r Push Initiator from to) ∷ []) (λ e. (n, (n, tt)))
    replies-elsewhere (Reply r want give junk) own =
        when-all IsElsewhere _ (GiveCase (exchange_by r Push Responder from to) ∷ []) (λ e. (partner r Push Responder (own _ refl), tt))
    replies-elsewhere (Case c) own =
        when-all IsElsewhere _ (AskKey (exchange_by c.round c.kind c.role from to) ∷ []) (λ e. (partner c.round c.kind c.role (own _ refl), tt))
    replies-elsewhere (KeyReq r kind role) own =
        when-all IsElsewhere _ (GiveKey (exchange_by r kind role from to) ∷ []) (λ e. (partner r kind role (own _ refl), tt))
    replies-elsewhere _ own = tt

  module _ (log : Log) (d : Datagram) (other : d.message.from ≢ party) (caster : 0 ≢ party) (read : datagram_of me.session (datagram_bytes me.session d) ≡ Some d) (h : IsObedient me log) where
    repeat-spares : (o : Option Datagram) → repeated me (known me log) d ≡ o → Spares (answer_repeat me log o).sends
    repeat-spares None e = tt
    repeat-spares (Some c) e =
        let was = repeated-heard me log d c e in
        let same : c ≡ d = repeats-same me log d c (fits-back me.session c (was-heard-fits me log c was h)) read e in
        all-spares (begun log) (reply_orders me (known me log) false c)
        (replies-elsewhere (known me log) false c.message.from c.message.to (λ z. other (ap (λ (y : Datagram). y.message.from) (sym same) ∙ z)) c.message.body
        (λ p f. let own = was-heard-own me log c p was h f in (own.to, own.other)))
        tt

    answered-spares : Spares (answered_to me log d).sends
    answered-spares = go (is_admitted me (known me log) d) refl
      where
        go : (b : Bool) → is_admitted me (known me log) d ≡ b
            → Spares (cond b (perform_all me (begun (Heard d ∷ log)) (reply_orders me (known me (Heard d ∷ log)) true d)) (answer_repeat me log (repeated me (known me log) d))).sends
        go true e =
            all-spares (begun (Heard d ∷ log)) (reply_orders me (known me (Heard d ∷ log)) true d)
            (replies-elsewhere (known me (Heard d ∷ log)) true d.message.from d.message.to other d.message.body
            (λ p f. let own = heard-own me log d p (e, read) f in (own.to, own.other)))
            tt
        go false e = repeat-spares (repeated me (known me log) d) refl

    report-spares : (q : ℕ) (o : Option (List (List ℕ))) → Spares (report_new me (answered_to me log d) q o).sends
    report-spares q None = answered-spares
    report-spares q (Some evidence) = perform-spares (answered_to me log d) (Report q) caster answered-spares

  -- ---- at any input

  datagram-spares : AnnouncedAreIgnored → (log : Log) (bytes : List ℕ) → IsObedient me log → is_announced log party ≡ true → Spares (step me log (event.Datagram bytes)).sends
  unfolding machine.step
  datagram-spares ignored log bytes h announced = go (datagram_of me.session bytes) refl
    where
      caster : 0 ≢ party
      caster same = both_ways (is_announced log 0) (unannounced me log h) (ap (is_announced log) same ∙ announced)

      late : Bool
      late = nat_le (last_tick me.session) (ticks log)

      by : (o : Option Datagram) → datagram_of me.session bytes ≡ o → Spares (take_datagram me log o).sends → Spares (step me log (event.Datagram bytes)).sends
      by o e s = pick late
        where
          pick : (b : Bool) → Spares (cond b (begun log) (take_input me log (event.Datagram bytes))).sends
          pick true = tt
          pick false = subst (λ z. Spares (take_datagram me log z).sends) (sym e) s

      go : (o : Option Datagram) → datagram_of me.session bytes ≡ o → Spares (step me log (event.Datagram bytes)).sends
      go None e = by None e tt
      go (Some d) e = from (is_announced log d.message.from) refl
        where
          from : (b : Bool) → is_announced log d.message.from ≡ b → Spares (step me log (event.Datagram bytes)).sends
          from true f = subst (λ (out : Out). Spares out.sends) (sym (ignored me log bytes d e f)) tt
          from false f =
              by (Some d) e
              (report-spares (with_evidence me log d.message.from (new_evidence me (known me log) d)) d
              (λ same. both_ways (is_announced log d.message.from) f (ap (is_announced log) same ∙ announced)) caster (reads-back me.session bytes d e)
              (evidence-obedient me log d (new_evidence me (known me log) d) refl h) d.message.from (new_evidence me (known me log) d))

  tick-spares : (log : Log) → IsObedient me log → is_announced log party ≡ true → Spares (step me log event.Tick).sends
  unfolding machine.step
  tick-spares log h announced = go (nat_le (last_tick me.session) (ticks log))
    where
      go : (b : Bool) → Spares (cond b (begun log) (take_input me log event.Tick)).sends
      go true = tt
      go false =
          all-spares (begun (Ticked ∷ log)) (orders_at_tick me (known me (Ticked ∷ log)))
          (tick-elsewhere (known me (Ticked ∷ log)) (still party ∙ announced) (still 0 ∙ unannounced me log h)) tt
        where
          still : (q : ℕ) → is_announced (Ticked ∷ log) q ≡ is_announced log q
          still q = ap is_some (or-none (first_heard (names_party q) log))

pub announced-spared : SignedByRule → AnnouncedAreIgnored → AnnouncedGetNothing
announced-spared ruled ignored me is inputs party event.Tick announced = tick-spares me party (log_after me [] inputs) (ruled me is inputs).obedient announced
announced-spared ruled ignored me is inputs party (event.Datagram bytes) announced =
    datagram-spares me party ignored (log_after me [] inputs) bytes (ruled me is inputs).obedient announced

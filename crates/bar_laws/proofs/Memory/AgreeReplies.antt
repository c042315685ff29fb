-- A log, and knowledge that agrees with it in what a peer keeps, answer a datagram alike.
use Rattle.bar_wire.specs.Bodies.{is_peer_kind}
use Rattle.bar_wire.specs.declared.kind.Kind.{Kind}
use Rattle.bar_window.specs.Exchange.{other_role, same_exchange}
use Rattle.bar_window.specs.declared.exchange.Exchange.{Exchange}
use Rattle.bar_window.specs.declared.exchange.Role.{Role}
use Rattle.bar_window.specs.declared.exchange.Role.TheVariants.{Initiator, Responder}
use Rattle.bar_window.specs.declared.exchange.XKind.{XKind}
use Rattle.bar_window.specs.declared.exchange.XKind.TheVariants.{Balanced, Push}
use Rattle.bar_wire.specs.declared.kind.Kind.TheVariants as kinds
use Rattle.bar_wire.specs.Datagram.{Place, Datagram, Body, Request, Response, Divulge, Query, Reply, Case, KeyReq, Key, is_of, kind_of, part_of, exchange_by, round_of, place_of, place_by}
use Rattle.bar_rules.specs.Runs.{Outcome, begun}
use Rattle.bar_rules.specs.Peer.Agreement.{AgreesWith, IsRecent}
use Rattle.bar_rules.specs.Peer.Admission.{is_admitted}
use Rattle.bar_rules.specs.Peer.Evidence.{is_tried, pair_with, pairs_in, pairs_by, pairs_among, pairs_elsewhere, pairs_of, shared_from, shared_with, if_accuses, new_evidence}
use Rattle.bar_rules.proofs.Shared.{IsShared, shared_are}
use Rattle.bar_rules.specs.Peer.Exchanges.{opening_kind, role_of}
use Rattle.bar_rules.specs.Peer.Knowledge.{table_of, Knowledge, known, this_round, with_heard, with_kept, request_deadline, answer_deadline}
use Rattle.bar_rules.specs.Peer.Log.{Log, Heard, Kept, round_now}
use Rattle.bar_rules.specs.Peer.Machine.{Keeping, logs, minds}
use Rattle.bar_rules.specs.Peer.Machine as machine
use Rattle.bar_rules.specs.Peer.Orders.{Order, Answer, Reveal, GiveCase, AskKey, GiveKey, Report}
use Rattle.bar_rules.specs.Peer.Replies.{is_trade_worth, orders_when, orders_for, reply_orders, if_same, heard_like, repeated}
use Rattle.bar_rules.specs.Peer.Terms.{terms_of}
use Rattle.bar_rules.specs.Member.{Member}
use Rattle.bar_rules.specs.Values.{datagram_bytes, is_signed_by}
use Rattle.std.proofs.Common.{◌≡◌, ℕ, ◌<◌, ◌≤◌, ◌+◌, ◌-◌, Bool, true, false, List, [], ◌∷◌, refl, sym, ap, ◌∙◌, subst, ◌&&◌, ◌||◌, not, eqb, cond, arith}
use Rattle.std.specs.Prelude.{option_map, Option, Some, None, is_some, nat_le, if◌then◌else◌}
use Rattle.std.specs.Bool.{then_some}
use Rattle.std.specs.Option.{option_or}
use Rattle.std.specs.List.{AllByRecursion}
use Rattle.std.proofs.lemmas.Bool.{and_parts, leb-true, lt-leb, leb-false}
use Rattle.bar_laws.proofs.Memory.AgreeLogs.{now, IsInTime, kept-agree, heard-agree}
use Rattle.bar_laws.proofs.Memory.AgreeRows.{terms-same, admitted-same, row-in-time, and_last}
use Rattle.bar_laws.proofs.Memory.AgreeOrders.{IsTimely, IsAlike, perform-alike, perform_all-alike}
use Rattle.bar_laws.proofs.Logs.{no-value, is_of-is, first_heard-was, parts-of, part-round, admitted-row, round-by}
use Rattle.bar_laws.proofs.Memory.InLife.{BodyInLife, LogInLife, of-round}

-- ---- the orders for a datagram

-- new messages are in time; repeated ones may be late
abbrev IsNewInTime : ℕ → ℕ → Bool → Body → Type 0
IsNewInTime life at is_new b = is_new ≡ true → IsInTime life at b

pub when-timely : (life at : ℕ) (b : Bool) (os : List Order) → (b ≡ true → AllByRecursion (IsTimely life at) os) → AllByRecursion (IsTimely life at) (orders_when b os)
when-timely life at true os f = f refl
when-timely life at false os f = tt

-- new and in time, or within the bound
in-bound : (round at bound : ℕ) (is_new : Bool) → round ≡ at → (is_new ≡ true → at ≤ bound) → (is_new || nat_le round bound) ≡ true → at ≤ bound
in-bound round at bound true e f h = f refl
in-bound round at bound false e f h = subst (λ n. n ≤ bound) e (leb-true round bound h)

at-round : (life at r : ℕ) (k : XKind) (role : Role) (from to more : ℕ) → at ≤ r + more → at ≤ (exchange_by r k role from to).round + more
at-round life at r k role from to more h = subst (λ z. at ≤ z + more) (sym (round-by r k role from to)) h

orders-timely : (me : Member) (k : Knowledge) (at : ℕ) (is_new : Bool) (from to : ℕ) (b : Body) → 2 ≤ me.session.shape.life → this_round k ≡ at → IsNewInTime me.session.shape.life at is_new b
    → AllByRecursion (IsTimely me.session.shape.life at) (orders_for me k is_new from to b)
orders-timely me k at is_new from to (Request r seed c) life e f =
    when-timely me.session.shape.life at _ (Answer (exchange_by r Balanced Initiator from to) ∷ []) (λ h. (in-bound (this_round k) at (r + request_deadline) is_new e f h, tt))
orders-timely me k at is_new from to (Response r hb) life e f =
    let x : Exchange = exchange_by r Balanced Responder from to in
    when-timely me.session.shape.life at _ (Reveal x ∷ GiveCase x ∷ []) (λ h. let soon : at ≤ r + answer_deadline = f (and_parts _ _ h).0 in (omega (arith, soon), (soon, tt)))
orders-timely me k at is_new from to (Divulge r nonce ha) life e f =
    let x : Exchange = exchange_by r Balanced Initiator from to in
    when-timely me.session.shape.life at _ (GiveCase x ∷ []) (λ h. (in-bound (this_round k) at (r + answer_deadline) is_new e f (and_parts _ _ h).0, tt))
orders-timely me k at is_new from to (Query r seed young aged) life e f =
    let x : Exchange = exchange_by r Push Initiator from to in
    when-timely me.session.shape.life at _ (Answer x ∷ GiveCase x ∷ []) (λ h. let soon : at ≤ r + request_deadline = in-bound (this_round k) at (r + request_deadline) is_new e f h in (soon, (omega (arith, soon), tt)))
orders-timely me k at is_new from to (Reply r want give junk) life e f =
    when-timely me.session.shape.life at _ (GiveCase (exchange_by r Push Responder from to) ∷ []) (λ h. (f h, tt))
orders-timely me k at is_new from to (Case c) life e f =
    when-timely me.session.shape.life at _ (AskKey (exchange_by c.round c.kind c.role from to) ∷ []) (λ h. (tt, tt))
orders-timely me k at is_new from to (KeyReq r kind role) life e f =
    when-timely me.session.shape.life at _ (GiveKey (exchange_by r kind role from to) ∷ [])
    (λ h. (at-round me.session.shape.life at r kind role from to me.session.shape.life (in-bound (this_round k) at (r + me.session.shape.life) is_new e f h), tt))
orders-timely me k at is_new from to _ life e f = tt

-- a repeated message of a round that isn't recent is not answered
stale-orders : (me : Member) (k : Knowledge) (from to : ℕ) (b : Body) (p : ℕ × XKind × Role) → 2 ≤ me.session.shape.life → part_of b ≡ Some p → p.0 + me.session.shape.life < this_round k → orders_for me k false from to b ≡ []
stale-orders me k from to (Request r seed c) p life e h =
    let same : r ≡ p.0 = (parts-of (r, Balanced, Initiator) p e).0 in ap (λ z. orders_when z (Answer (exchange_by r Balanced Initiator from to) ∷ [])) (lt-leb (this_round k) (r + request_deadline) (omega (arith, same, h, life)))
stale-orders me k from to (Response r hb) p life e h = refl
stale-orders me k from to (Divulge r nonce ha) p life e h =
    let same : r ≡ p.0 = (parts-of (r, Balanced, Initiator) p e).0 in
    let x : Exchange = exchange_by r Balanced Initiator from to in
    ap (λ z. orders_when (z && is_trade_worth me.session (terms_of me k x)) (GiveCase x ∷ [])) (lt-leb (this_round k) (r + answer_deadline) (omega (arith, same, h, life)))
stale-orders me k from to (Query r seed young aged) p life e h =
    let same : r ≡ p.0 = (parts-of (r, Push, Initiator) p e).0 in
    let x : Exchange = exchange_by r Push Initiator from to in
    ap (λ z. orders_when z (Answer x ∷ GiveCase x ∷ [])) (lt-leb (this_round k) (r + request_deadline) (omega (arith, same, h, life)))
stale-orders me k from to (Reply r want give junk) p life e h = refl
stale-orders me k from to (Case c) p life e h = refl
stale-orders me k from to (KeyReq r kind role) p life e h =
    let same : r ≡ p.0 = (parts-of (r, kind, role) p e).0 in ap (λ z. orders_when z (GiveKey (exchange_by r kind role from to) ∷ [])) (lt-leb (this_round k) (r + me.session.shape.life) (omega (arith, same, h)))
stale-orders me k from to (Key g) p life e h = refl
stale-orders me k from to b p life e h = absurd (no-value (part_of b) p refl e)

module _ (me : Member) (one two : Knowledge) (same : AgreesWith me one two) (life : 2 ≤ me.session.shape.life) where
  orders-same : (is_new : Bool) (from to : ℕ) (b : Body) → IsNewInTime me.session.shape.life (this_round one) is_new b → orders_for me one is_new from to b ≡ orders_for me two is_new from to b
  orders-same is_new from to (Request r seed c) f = ap (λ n. orders_when (is_new || nat_le n (r + request_deadline)) (Answer (exchange_by r Balanced Initiator from to) ∷ [])) (now me one two same)
  orders-same true from to (Response r hb) f =
      let x : Exchange = exchange_by r Balanced Responder from to in
      let soon : this_round one ≤ r + answer_deadline = f refl in
      ap (λ o. orders_when (true && is_trade_worth me.session o) (Reveal x ∷ GiveCase x ∷ [])) (terms-same me one two same x (omega (arith, soon)))
  orders-same false from to (Response r hb) f = refl
  orders-same is_new from to (Divulge r nonce ha) f =
      let x : Exchange = exchange_by r Balanced Initiator from to in
      let orders : Bool → List Order = (λ z. orders_when z (GiveCase x ∷ [])) in
      ap orders
      (and_last (is_new || nat_le (this_round one) (r + answer_deadline)) (is_trade_worth me.session (terms_of me one x)) (is_trade_worth me.session (terms_of me two x))
      (λ h. let soon : this_round one ≤ r + answer_deadline = in-bound (this_round one) (this_round one) (r + answer_deadline) is_new refl f h in ap (is_trade_worth me.session) (terms-same me one two same x (omega (arith, soon))))
      ∙ ap (λ n. (is_new || nat_le n (r + answer_deadline)) && is_trade_worth me.session (terms_of me two x)) (now me one two same))
  orders-same is_new from to (Query r seed young aged) f = ap (λ n. orders_when (is_new || nat_le n (r + request_deadline)) (Answer (exchange_by r Push Initiator from to) ∷ GiveCase (exchange_by r Push Initiator from to) ∷ [])) (now me one two same)
  orders-same is_new from to (Reply r want give junk) f = refl
  orders-same is_new from to (Case c) f = refl
  orders-same is_new from to (KeyReq r kind role) f = ap (λ n. orders_when (is_new || nat_le n (r + me.session.shape.life)) (GiveKey (exchange_by r kind role from to) ∷ [])) (now me one two same)
  orders-same is_new from to _ f = refl

  -- ---- evidence

  tried-same : (d : Datagram) → is_tried me one d ≡ is_tried me two d
  tried-same d =
      λ i.
      ((((is_peer_kind d.message.body && eqb d.message.to me.party) && not (same.announced d.message.from i)) && is_signed_by me.session d) && not (is_some (same.evidence d.message.from i)))
      && nat_le (now me one two same i) (round_of d.message.body + me.session.shape.life)

  pairs-same : (d : Datagram) → this_round one ≤ round_of d.message.body + me.session.shape.life → pairs_by me.session one d (place_of d.message) ≡ pairs_by me.session two d (place_of d.message)
  pairs-same d h = go (part_of d.message.body) refl
    where
      go : (o : Option (ℕ × XKind × Role)) → part_of d.message.body ≡ o
          → pairs_by me.session one d (option_map (place_by d.message.from d.message.to) o) ≡ pairs_by me.session two d (option_map (place_by d.message.from d.message.to) o)
      go None e = refl
      go (Some p) e =
          let x : Exchange = exchange_by p.0 p.1 p.2 d.message.from d.message.to in
          let round : round_of d.message.body ≡ x.round = part-round d.message.body p.0 p.1 p.2 e ∙ sym (round-by p.0 p.1 p.2 d.message.from d.message.to) in
          let r : IsRecent me one x.round = subst (λ z. this_round one ≤ z + me.session.shape.life) round h in
          (λ i.
          option_or (pair_with me.session (same.table i) d (same.heard (opening_kind x.kind p.2) x p.2 r i))
          (option_or (pair_with me.session (same.table i) d (same.heard kinds.Case x p.2 r i)) (pair_with me.session (same.table i) d (same.heard kinds.Key x p.2 r i))))

  pairs_in-same : (d : Datagram) (y : Exchange) (role : Role) → IsRecent me one y.round → pairs_in me.session one d y role ≡ pairs_in me.session two d y role
  pairs_in-same d y role r =
      λ i.
      option_or (pair_with me.session (same.table i) d (same.heard (opening_kind y.kind role) y role r i))
      (option_or (pair_with me.session (same.table i) d (same.heard kinds.Case y role r i)) (pair_with me.session (same.table i) d (same.heard kinds.Key y role r i)))

  among-same : (d : Datagram) (x : Exchange) (low : ℕ) (ys : List Exchange) → this_round one ≤ low + me.session.shape.life
      → AllByRecursion (IsShared me.party d.message.from low) ys → pairs_among me one d x ys ≡ pairs_among me two d x ys
  among-same d x low [] h a = refl
  among-same d x low (y ∷ ys) h a =
      let recent : IsRecent me one y.round = let late : low ≤ y.round = a.0.late in omega (arith, h, late) in
      λ i. option_or (if same_exchange x y then None else pairs_in-same d y (other_role (role_of me y)) recent i) (among-same d x low ys h a.1 i)

  elsewhere-same : (d : Datagram) (o : Option Place) → pairs_elsewhere me one d o ≡ pairs_elsewhere me two d o
  elsewhere-same d None = refl
  elsewhere-same d (Some p) =
      let low : ℕ = this_round one - me.session.shape.life in
      among-same d p.exchange low (shared_with me one d.message.from) (omega arith)
      (shared_are me.party d.message.from low low (me.session.shape.life + 2) (omega arith))
      ∙ ap (λ n. pairs_among me two d p.exchange (shared_from me.party d.message.from (n - me.session.shape.life) (me.session.shape.life + 2))) (now me one two same)

  completed-same : (d : Datagram) → new_evidence me one d ≡ new_evidence me two d
  unfolding new_evidence
  completed-same d = go (is_tried me one d) refl ∙ ap (λ t. cond t (found two) None) (tried-same d)
    where
      found : Knowledge → Option (List (List ℕ))
      found k = option_or (if_accuses me.session (table_of k) d.message.from (datagram_bytes me.session d ∷ [])) (pairs_of me k d (place_of d.message))

      go : (b : Bool) → is_tried me one d ≡ b → cond b (found one) None ≡ cond (is_tried me one d) (found two) None
      go false e = rw e refl
      go true e =
          let h : this_round one ≤ round_of d.message.body + me.session.shape.life = leb-true (this_round one) (round_of d.message.body + me.session.shape.life) (and_parts _ _ e).1 in
          rw e (λ i. option_or (if_accuses me.session (same.table i) d.message.from (datagram_bytes me.session d ∷ [])) (option_or (pairs-same d h i) (elsewhere-same d (place_of d.message) i)))

-- ---- one datagram

module _ (me : Member) (one : Log) (two : Knowledge) (same : AgreesWith me (known me one) two) (life : 2 ≤ me.session.shape.life) where
  -- nothing is done yet
  pub begun-alike : LogInLife me.session.shape.life one → IsAlike me (round_now one) (begun one) (begun two)
  begun-alike lives = record { agree = same; moment = refl; sends = refl; contents = refl; lives = lives }

  -- the orders for a datagram are carried out alike
  reply-alike : (is_new : Bool) (d : Datagram) → LogInLife me.session.shape.life one → IsNewInTime me.session.shape.life (round_now one) is_new d.message.body
      → IsAlike me (round_now one) (machine.perform_all (logs me) me (begun one) (reply_orders me (known me one) is_new d)) (machine.perform_all (minds me) me (begun two) (reply_orders me two is_new d))
  reply-alike is_new d lives f =
      subst (λ os. IsAlike me (round_now one) (machine.perform_all (logs me) me (begun one) (reply_orders me (known me one) is_new d)) (machine.perform_all (minds me) me (begun two) os)) (orders-same me (known me one) two same life is_new d.message.from d.message.to d.message.body f)
      (perform_all-alike me (round_now one) (reply_orders me (known me one) is_new d) (begun one) (begun two) life (begun-alike lives) (orders-timely me (known me one) (round_now one) is_new d.message.from d.message.to d.message.body life refl f))

-- what is repeated was heard of the same kind, exchange and side
repeated-like : (me : Member) (k : Knowledge) (d c : Datagram) → repeated me k d ≡ Some c → heard_like k d.message.body (place_of d.message) ≡ Some c
repeated-like me k d c e = go (k.is_announced d.message.from) (heard_like k d.message.body (place_of d.message)) e
  where
    tested : (b : Bool) (a : Datagram) → then_some b a ≡ Some c → Some a ≡ Some c
    tested true a e = e
    tested false a e = cc

    go : (b : Bool) (o : Option Datagram) → cond b None (if_same me.session d o) ≡ Some c → o ≡ Some c
    go true o e = cc
    go false None e = cc
    go false (Some a) e = tested _ a e

-- a repeated datagram of a round that isn't recent is not answered
stale-answer : {S : Type 0} (w : Keeping S) (me : Member) (s : S) (d : Datagram) (p : ℕ × XKind × Role) → 2 ≤ me.session.shape.life
    → ((kind : Kind) (x : Exchange) (role : Role) (c : Datagram) → (w.reads s).heard kind x role ≡ Some c → is_of kind x role c.message ≡ true)
    → part_of d.message.body ≡ Some p → p.0 + me.session.shape.life < this_round (w.reads s) → machine.answer_repeat w me s (repeated me (w.reads s) d) ≡ begun s
stale-answer {S} w me s d p life own e h = go (repeated me k d) refl
  where
    k : Knowledge
    k = w.reads s

    x : Exchange
    x = exchange_by p.0 p.1 p.2 d.message.from d.message.to

    none : (c : Datagram) → is_of (kind_of d.message.body) x p.2 c.message ≡ true → orders_for me k false c.message.from c.message.to c.message.body ≡ []
    none c is =
        let w = is_of-is (kind_of d.message.body) x p.2 c.message is in
        let q : ℕ × XKind × Role = (w.round, w.sort, p.2) in
        let round : q.0 ≡ p.0 = of-round (kind_of d.message.body) x p.2 c.message q is w.part ∙ round-by p.0 p.1 p.2 d.message.from d.message.to in
        stale-orders me k c.message.from c.message.to c.message.body q life w.part (subst (λ z. z + me.session.shape.life < this_round k) (sym round) h)

    go : (o : Option Datagram) → repeated me k d ≡ o → machine.answer_repeat w me s o ≡ begun s
    go None f = refl
    go (Some c) f =
        let like : k.heard (kind_of d.message.body) x p.2 ≡ Some c = subst (λ o. heard_like k d.message.body (option_map (place_by d.message.from d.message.to) o) ≡ Some c) e (repeated-like me k d c f) in
        ap (machine.perform_all w me (begun s)) (none c (own (kind_of d.message.body) x p.2 c like))

module _ (me : Member) (one : Log) (two : Knowledge) (same : AgreesWith me (known me one) two) (life : 2 ≤ me.session.shape.life) where
  repeat-alike : (d : Datagram) → LogInLife me.session.shape.life one → IsAlike me (round_now one) (machine.answer_repeat (logs me) me one (repeated me (known me one) d)) (machine.answer_repeat (minds me) me two (repeated me two d))
  repeat-alike d lives = go (part_of d.message.body) refl
    where
      -- the same is repeated
      alike : repeated me (known me one) d ≡ repeated me two d → IsAlike me (round_now one) (machine.answer_repeat (logs me) me one (repeated me (known me one) d)) (machine.answer_repeat (minds me) me two (repeated me two d))
      alike e = subst (λ o. IsAlike me (round_now one) (machine.answer_repeat (logs me) me one (repeated me (known me one) d)) (machine.answer_repeat (minds me) me two o)) e (by (repeated me (known me one) d))
        where
          by : (o : Option Datagram) → IsAlike me (round_now one) (machine.answer_repeat (logs me) me one o) (machine.answer_repeat (minds me) me two o)
          by None = begun-alike me one two same life lives
          by (Some c) = reply-alike me one two same life false c lives (λ h. cc)

      at : Option (ℕ × XKind × Role) → Option Place
      at o = option_map (place_by d.message.from d.message.to) o

      like : (o : Option (ℕ × XKind × Role)) → part_of d.message.body ≡ o → heard_like (known me one) d.message.body (at o) ≡ heard_like two d.message.body (at o) → repeated me (known me one) d ≡ repeated me two d
      like o e h =
          let read : (k : Knowledge) → cond (k.is_announced d.message.from) None (if_same me.session d (heard_like k d.message.body (at o))) ≡ repeated me k d = (λ k. ap (λ z. cond (k.is_announced d.message.from) None (if_same me.session d (heard_like k d.message.body (at z)))) (sym e)) in
          sym (read (known me one)) ∙ (λ i. cond (same.announced d.message.from i) None (if_same me.session d (h i))) ∙ read two

      recent : (p : ℕ × XKind × Role) (b : Bool) → nat_le (round_now one) (p.0 + me.session.shape.life) ≡ b → part_of d.message.body ≡ Some p → IsAlike me (round_now one) (machine.answer_repeat (logs me) me one (repeated me (known me one) d)) (machine.answer_repeat (minds me) me two (repeated me two d))
      recent p true b e =
          let x : Exchange = exchange_by p.0 p.1 p.2 d.message.from d.message.to in
          let r : IsRecent me (known me one) x.round = subst (λ z. round_now one ≤ z + me.session.shape.life) (sym (round-by p.0 p.1 p.2 d.message.from d.message.to)) (leb-true (round_now one) (p.0 + me.session.shape.life) b) in
          alike (like (Some p) e (same.heard (kind_of d.message.body) x p.2 r))
      recent p false b e =
          let late : p.0 + me.session.shape.life < round_now one = leb-false (round_now one) (p.0 + me.session.shape.life) b in
          subst (λ a. IsAlike me (round_now one) a (machine.answer_repeat (minds me) me two (repeated me two d))) (sym (stale-answer (logs me) me one d p life (λ kind x role c f. (first_heard-was (is_of kind x role) one c f).1) e late))
          (subst (λ a. IsAlike me (round_now one) (begun one) a) (sym (stale-answer (minds me) me two d p life same.own e (subst (λ n. p.0 + me.session.shape.life < n) (now me (known me one) two same) late)))
          (begun-alike me one two same life lives))

      go : (o : Option (ℕ × XKind × Role)) → part_of d.message.body ≡ o → IsAlike me (round_now one) (machine.answer_repeat (logs me) me one (repeated me (known me one) d)) (machine.answer_repeat (minds me) me two (repeated me two d))
      go None e = alike (like None e refl)
      go (Some p) e = recent p (nat_le (round_now one) (p.0 + me.session.shape.life)) refl e

  answered-alike : (d : Datagram) → LogInLife me.session.shape.life one → BodyInLife me.session.shape.life d.message.body → IsAlike me (round_now one) (machine.answered_to (logs me) me one d) (machine.answered_to (minds me) me two d)
  answered-alike d lives body = subst (λ b. IsAlike me (round_now one) (machine.answered_to (logs me) me one d) (cond b (taken (minds me) two) (again (minds me) two))) (admitted-same me (known me one) two same life d) (go (is_admitted me (known me one) d) refl)
    where
      taken : {S : Type 0} → Keeping S → S → Outcome S
      taken w s = machine.answer_new w me (w.adds (Heard d) s) d

      again : {S : Type 0} → Keeping S → S → Outcome S
      again w s = machine.answer_repeat w me s (repeated me (w.reads s) d)

      go : (b : Bool) → is_admitted me (known me one) d ≡ b → IsAlike me (round_now one) (cond b (taken (logs me) one) (again (logs me) one)) (cond b (taken (minds me) two) (again (minds me) two))
      go false e = repeat-alike d lives
      go true e =
          let time : IsInTime me.session.shape.life (round_now one) d.message.body = row-in-time me (known me one) d.message.from d.message.to d.message.body (admitted-row me one d e) in
          let still : round_now (Heard d ∷ one) ≡ round_now one = omega arith in
          subst (λ n. IsAlike me n (taken (logs me) one) (taken (minds me) two)) still
          (reply-alike me (Heard d ∷ one) (with_heard me d two) (heard-agree me one two same d time) life true d (body, lives) (λ z. subst (λ n. IsInTime me.session.shape.life n d.message.body) (sym still) time))

report-alike : (me : Member) (at : ℕ) (a : Outcome Log) (b : Outcome Knowledge) (q : ℕ) (o : Option (List (List ℕ))) → 2 ≤ me.session.shape.life → IsAlike me at a b → IsAlike me at (machine.report_new (logs me) me a q o) (machine.report_new (minds me) me b q o)
report-alike me at a b q None life w = w
report-alike me at a b q (Some e) life w = perform-alike me at a b (Report q) life w tt

-- a datagram is taken alike
pub taken-alike : (me : Member) (one : Log) (two : Knowledge) (d : Datagram) → AgreesWith me (known me one) two → 2 ≤ me.session.shape.life → LogInLife me.session.shape.life one → BodyInLife me.session.shape.life d.message.body
    → IsAlike me (round_now one) (machine.take_datagram (logs me) me one (Some d)) (machine.take_datagram (minds me) me two (Some d))
taken-alike me one two d same life lives body =
    subst (λ o. IsAlike me (round_now one) (machine.take_datagram (logs me) me one (Some d)) (machine.report_new (minds me) me (machine.answered_to (minds me) me (machine.with_evidence (minds me) two d.message.from o) d) d.message.from o)) (completed-same me (known me one) two same life d)
    (report-alike me (round_now one) _ _ d.message.from (new_evidence me (known me one) d) life (go (new_evidence me (known me one) d)))
  where
    go : (o : Option (List (List ℕ))) → IsAlike me (round_now one) (machine.answered_to (logs me) me (machine.with_evidence (logs me) one d.message.from o) d) (machine.answered_to (minds me) me (machine.with_evidence (minds me) two d.message.from o) d)
    go None = answered-alike me one two same life d lives body
    go (Some e) =
        let still : round_now (Kept d.message.from e ∷ one) ≡ round_now one = omega arith in
        subst (λ n. IsAlike me n (machine.answered_to (logs me) me (Kept d.message.from e ∷ one) d) (machine.answered_to (minds me) me (with_kept d.message.from e two) d)) still
        (answered-alike me (Kept d.message.from e ∷ one) (with_kept d.message.from e two) (kept-agree me one two same d.message.from e) life d (tt, lives) body)

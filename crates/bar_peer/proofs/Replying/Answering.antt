-- How a peer answers a datagram, once it is decoded.
use Rattle.std.proofs.Common.{◌≡◌, ◌≤◌, ◌+◌, ℕ, ◌∙◌, Bool, true, false, List, [], ◌∷◌, length, Option, Some, None, refl, sym, ap, subst, arith, inl, inr}
use Rattle.std.specs.Prelude.{nat_le, IfSome, if◌then◌else◌}
use Rattle.std.specs.List.{AllByRecursion}
use Rattle.std.proofs.lemmas.Bool.{cases_Bool, false≢true, eqb-true}
use Rattle.std.specs.Bool.{then_some}
use Rattle.bar_laws.specs.Soundness.{IsSound}
use Rattle.bar_window.specs.declared.exchange.Exchange.{Exchange}
use Rattle.bar_wire.specs.Datagram.{Datagram, Body, Manifest, Block, Request, Response, Divulge, Query, Reply, Case, KeyReq, Key, Evidence, Evict, kind_of, round_of, exchange_of, Place, place_of}
use Rattle.bar_wire.specs.declared.kind.Kind.{Kind}
use Rattle.bar_wire.specs.Grammar.{SpellsDatagram, IsDatagram, MaySend}
use Rattle.bar_wire.specs.declared.shape.Shape.{Shape}
use Rattle.bar_balanced.specs.Code.Balanced.{AreSpelled}
use Rattle.bar_session.specs.Time.{round_after}
use Rattle.bar_rules.specs.Member.{Member, IsMember}
use Rattle.bar_rules.specs.Peer.Admission.{is_admitted, is_for, is_row_met}
use Rattle.bar_rules.specs.Peer.Agreement.{IsRecent}
use Rattle.bar_rules.specs.Peer.Knowledge.{Knowledge, known, this_round, is_in_time, deadline}
use Rattle.bar_rules.specs.Peer.Log.{Log, Heard, ticks}
use Rattle.bar_rules.specs.Peer.Orders.{Order}
use Rattle.bar_rules.specs.Peer.Replies.{reply_orders, repeated, if_same, heard_like}
use Rattle.bar_rules.specs.Peer.Rules.{IsObedient}
use Rattle.bar_rules.specs.Peer.Run.{Out, perform_all, answered_to, answer_repeat}
use Rattle.bar_rules.specs.Runs.{begun}
use Rattle.bar_exchange.specs.declared.says.Says.{Says}
use Rattle.bar_exchange.specs.Code.Says.{orders_of_reply, says_in, AreFitting}
use Rattle.bar_peer.specs.declared.memory.Memory.{Memory}
use Rattle.bar_peer.specs.Code.Orders.{Orders}
use Rattle.bar_peer.specs.Code.Memory.{Represents, IsMemoryOf, member_of}
use Rattle.bar_peer.specs.Code.Repeats.{IsInTime, is_of_exchange}
use Rattle.bar_peer.specs.Code.Sending.{HasOutcome, MaySayNow}
use Rattle.bar_peer.proofs.Hearing.Keys.{admitted_row, admitted_for}
use Rattle.bar_peer.proofs.Admitting.Rows.{in_time as row_in_time}
use Rattle.bar_peer.proofs.Admitting.Namesakes.{SpellOne}
use Rattle.bar_peer.proofs.Replying.Stale.{in-time-by, stale-orders, repeated-is}
use Rattle.bar_laws.proofs.Fitting.{perform_all-before}
use Rattle.bar_peer.proofs.Orders.Sendings.{none_stand}
use Rattle.bar_peer.proofs.Replying.Sayable.{IsDue, says-due, orders-due, row-deadline}

-- ---- the log was obedient before

repeat-before : (me : Member) (log : Log) (o : Option Datagram) → IsObedient me (answer_repeat me log o).state → IsObedient me log
repeat-before me log None h = h
repeat-before me log (Some d) h = perform_all-before me (reply_orders me (known me log) false d) (begun log) h

-- the outcome for a datagram, depending on whether it is admitted
abbrev answered-by : Member → Log → Datagram → Bool → Out
answered-by me log d b =
    if b then perform_all me (begun (Heard d ∷ log)) (reply_orders me (known me (Heard d ∷ log)) true d) else answer_repeat me log (repeated me (known me log) d)

by-before : (me : Member) (log : Log) (d : Datagram) (b : Bool) → IsObedient me (answered-by me log d b).state → IsObedient me log
by-before me log d true h = (perform_all-before me (reply_orders me (known me (Heard d ∷ log)) true d) (begun (Heard d ∷ log)) h).1
by-before me log d false h = repeat-before me log (repeated me (known me log) d) h

pub answered-before : (me : Member) (log : Log) (d : Datagram) → IsObedient me (answered_to me log d).state → IsObedient me log
answered-before me log d h = by-before me log d (is_admitted me (known me log) d) h

pub answered-new : (me : Member) (log : Log) (d : Datagram) → is_admitted me (known me log) d ≡ true
    → answered_to me log d ≡ perform_all me (begun (Heard d ∷ log)) (reply_orders me (known me (Heard d ∷ log)) true d)
answered-new me log d e = ap (answered-by me log d) e

pub answered-again : (me : Member) (log : Log) (d : Datagram) → is_admitted me (known me log) d ≡ false
    → answered_to me log d ≡ answer_repeat me log (repeated me (known me log) d)
answered-again me log d e = ap (answered-by me log d) e

-- ---- replies carried out

-- the effect of carrying out replies
abbrev pub CarriesOut : Memory → Orders → Says → Memory → Orders → Type 0
CarriesOut m o says n p =
    (out : Out) → IsObedient (member_of m.who) (perform_all (member_of m.who) out (orders_of_reply says)).state → HasOutcome out m o
    → AllByRecursion (MaySayNow (member_of m.who) (known (member_of m.who) out.state)) (says_in says) → length o.list.items + 2 ≤ o.room
    → HasOutcome (perform_all (member_of m.who) out (orders_of_reply says)) n p

pub replied : (log : Log) (m n : Memory) (o p : Orders) (says : Says) (os : List Order) → 2 ≤ m.who.session.shape.life → AreFitting says
    → CarriesOut m o says n p → orders_of_reply says ≡ os → Represents log m → o.list.items ≡ [] → 2 ≤ o.room → AllByRecursion (IsDue (member_of m.who) (known (member_of m.who) log)) os
    → IsObedient (member_of m.who) (perform_all (member_of m.who) (begun log) os).state → HasOutcome (perform_all (member_of m.who) (begun log) os) n p
replied log m n o p says os life fits does same tells empty room due obeys =
    let me : Member = member_of m.who in
    let own : AllByRecursion (MaySayNow me (known me log)) (says_in says) =
    says-due me (known me log) (says_in says) life fits (subst (AllByRecursion (IsDue me (known me log))) (sym same) due)
    in
    let before : IsObedient me (perform_all me (begun log) (orders_of_reply says)).state = subst (λ os. IsObedient me (perform_all me (begun log) os).state) (sym same) obeys in
    let none : length o.list.items ≡ 0 = ap length empty in
    subst (λ os. HasOutcome (perform_all me (begun log) os) n p) same
    (does (begun log) before (none_stand log m o tells empty) own (omega (arith, none, room)))

-- ---- time

-- hearing a datagram doesn't change the time
pub same-round : (me : Member) (log : Log) (d : Datagram) → this_round (known me (Heard d ∷ log)) ≡ this_round (known me log)
same-round me log d = ap round_after (same-ticks (ticks log))
  where
    same-ticks : (n : ℕ) → n + 0 ≡ n
    same-ticks n = omega arith

in-time-later : (me : Member) (log : Log) (d : Datagram) (kind : Kind) (round : ℕ) → is_in_time me.session (known me log) kind round ≡ true
    → is_in_time me.session (known me (Heard d ∷ log)) kind round ≡ true
in-time-later me log d kind round e = ap (λ (now : ℕ). nat_le now (round + deadline me.session kind)) (same-round me log d) ∙ e

-- if its exchange may be asked about before it is heard, so it may afterwards
in-time-kept : (me : Member) (log : Log) (d : Datagram) → IsInTime me (known me log) d.message → IsInTime me (known me (Heard d ∷ log)) d.message
in-time-kept me log d h = go (exchange_of d.message) h
  where
    go : (o : Option Exchange) → IfSome o (λ x. IsRecent me (known me log) x.round) → IfSome o (λ x. IsRecent me (known me (Heard d ∷ log)) x.round)
    go None h = tt
    go (Some x) h = subst (λ (now : ℕ). now ≤ x.round + me.session.shape.life) (sym (same-round me log d)) h

-- the receiver of a datagram of an exchange is this member
receiver : (me : Member) (from to : ℕ) (b : Body) → is_of_exchange b ≡ true → is_for me (record { from = from; to = to; body = b }) ≡ true → to ≡ me.party
receiver me from to (Request r s c) x e = eqb-true _ _ e
receiver me from to (Response r hb) x e = eqb-true _ _ e
receiver me from to (Divulge r n ha) x e = eqb-true _ _ e
receiver me from to (Query r s y o) x e = eqb-true _ _ e
receiver me from to (Reply r w g z) x e = eqb-true _ _ e
receiver me from to (Case c) x e = eqb-true _ _ e
receiver me from to (KeyReq r kind role) x e = eqb-true _ _ e
receiver me from to (Key g) x e = eqb-true _ _ e
receiver me from to (Manifest r ds) x e = absurd (false≢true x)
receiver me from to (Block u b) x e = absurd (false≢true x)
receiver me from to (Evidence ds) x e = absurd (false≢true x)
receiver me from to (Evict r ps) x e = absurd (false≢true x)

-- the sender and the receiver of a datagram of an exchange differ
two-parties : (s : Shape) (from to : ℕ) (b : Body) → is_of_exchange b ≡ true → MaySend s (kind_of b) from to → from ≡ to → ⊥
two-parties s from to (Request r seed c) x may = may.2
two-parties s from to (Response r hb) x may = may.2
two-parties s from to (Divulge r n ha) x may = may.2
two-parties s from to (Query r seed y o) x may = may.2
two-parties s from to (Reply r w g z) x may = may.2
two-parties s from to (Case c) x may = may.2
two-parties s from to (KeyReq r kind role) x may = may.2
two-parties s from to (Key g) x may = may.2
two-parties s from to (Manifest r ds) x may = absurd (false≢true x)
two-parties s from to (Block u b) x may = absurd (false≢true x)
two-parties s from to (Evidence ds) x may = absurd (false≢true x)
two-parties s from to (Evict r ps) x may = absurd (false≢true x)

pub apart : (s : Shape) (d : Datagram) (party : ℕ) → IsDatagram s d → (is_of_exchange d.message.body ≡ true → d.message.to ≡ party)
    → is_of_exchange d.message.body ≡ true → d.message.from ≡ party → ⊥
apart s d party fits mine x same = two-parties s d.message.from d.message.to d.message.body x fits.may_send (same ∙ sym (mine x))

pub received : (me : Member) (k : Knowledge) (d : Datagram) → is_admitted me k d ≡ true → is_of_exchange d.message.body ≡ true → d.message.to ≡ me.party
received me k d admitted x = receiver me d.message.from d.message.to d.message.body x (admitted_for me k d admitted)

-- the messages to be said are the replies to the datagram
abbrev pub Tell : Memory → Datagram → Bool → Says → Type 0
Tell m d is_new says =
    (k : Knowledge) → IsMemoryOf (member_of m.who) k m → (is_new ≡ true → IsInTime (member_of m.who) k d.message)
    → orders_of_reply says ≡ reply_orders (member_of m.who) k is_new d

-- an admitted datagram is answered
pub new-replied : (log : Log) (d : Datagram) (before m n : Memory) (o p : Orders) (says : Says) → IsMember (member_of before.who) → AreFitting says
    → (is_of_exchange d.message.body ≡ true → d.message.from ≡ before.who.secrets.party → ⊥) → m.who ≡ before.who
    → is_admitted (member_of before.who) (known (member_of before.who) log) d ≡ true → Represents (Heard d ∷ log) m → Tell m d true says
    → CarriesOut m o says n p → o.list.items ≡ [] → 2 ≤ o.room
    → IsObedient (member_of before.who)
    (perform_all (member_of before.who) (begun (Heard d ∷ log)) (reply_orders (member_of before.who) (known (member_of before.who) (Heard d ∷ log)) true d)).state
    → HasOutcome (perform_all (member_of before.who) (begun (Heard d ∷ log)) (reply_orders (member_of before.who) (known (member_of before.who) (Heard d ∷ log)) true d)) n p
new-replied log d before m n o p says is_member fits other who admitted tells tell does empty room obeys =
    let me : Member = member_of before.who in
    let k : Knowledge = known me (Heard d ∷ log) in
    let same : member_of m.who ≡ me = ap member_of who in
    let life : 2 ≤ me.session.shape.life = is_member.session.shape.life_low in
    let row : is_row_met me (known me log) d.message.from d.message.to d.message.body ≡ true = admitted_row me (known me log) d admitted in
    let soon : is_of_exchange d.message.body ≡ true → is_in_time me.session k (kind_of d.message.body) (round_of d.message.body) ≡ true =
    λ x. in-time-later me log d (kind_of d.message.body) (round_of d.message.body) (row-deadline me (known me log) d.message.from d.message.to d.message.body x row)
    in
    let due : AllByRecursion (IsDue me k) (reply_orders me k true d) =
    orders-due me k true d.message.from d.message.to d.message.body (λ x. (received me (known me log) d admitted x, other x)) life (λ n x. soon x)
    in
    let in_time : IsInTime me k d.message = in-time-kept me log d (row_in_time me (known me log) d.message.from d.message.to d.message.body life row) in
    subst (λ (me : Member). HasOutcome (perform_all me (begun (Heard d ∷ log)) (reply_orders me (known me (Heard d ∷ log)) true d)) n p) same
    (replied (Heard d ∷ log) m n o p says _ (subst (λ (me : Member). 2 ≤ me.session.shape.life) (sym same) life) fits does
    (tell (known (member_of m.who) (Heard d ∷ log)) tells (λ n. subst (λ (me : Member). IsInTime me (known me (Heard d ∷ log)) d.message) (sym same) in_time))
    tells empty room
    (subst (λ (me : Member). AllByRecursion (IsDue me (known me (Heard d ∷ log))) (reply_orders me (known me (Heard d ∷ log)) true d)) (sym same) due)
    (subst (λ (me : Member). IsObedient me (perform_all me (begun (Heard d ∷ log)) (reply_orders me (known me (Heard d ∷ log)) true d)).state) (sym same) obeys))

-- ---- repeats

-- if its exchange can't be asked about any more, a datagram isn't answered
pub stale-repeat : (me : Member) (log : Log) (d : Datagram) (bytes : List ℕ) → SpellOne → AreSpelled me (known me log) → SpellsDatagram me.session.shape d bytes
    → 2 ≤ me.session.shape.life → nat_le (this_round (known me log)) (round_of d.message.body + me.session.shape.life) ≡ false
    → answer_repeat me log (repeated me (known me log) d) ≡ begun log
stale-repeat me log d bytes one spelled spells life t = go (repeated me (known me log) d) refl
  where
    go : (o : Option Datagram) → repeated me (known me log) d ≡ o → answer_repeat me log o ≡ begun log
    go None e = refl
    go (Some c) e =
        let same : c ≡ d = repeated-is me (known me log) d c bytes one spelled spells e in
        ap (λ c. answer_repeat me log (Some c)) same
        ∙ ap (perform_all me (begun log)) (stale-orders me (known me log) d.message.from d.message.to d.message.body life t)

-- a repeat is answered again
pub again-replied : (log : Log) (d : Datagram) (m n : Memory) (o p : Orders) (says : Says) → 2 ≤ m.who.session.shape.life
    → AreFitting says → (is_of_exchange d.message.body ≡ true → (d.message.to ≡ m.who.secrets.party) × (d.message.from ≡ m.who.secrets.party → ⊥))
    → Represents log m → Tell m d false says → CarriesOut m o says n p
    → o.list.items ≡ [] → 2 ≤ o.room
    → IsObedient (member_of m.who) (perform_all (member_of m.who) (begun log) (reply_orders (member_of m.who) (known (member_of m.who) log) false d)).state
    → HasOutcome (perform_all (member_of m.who) (begun log) (reply_orders (member_of m.who) (known (member_of m.who) log) false d)) n p
again-replied log d m n o p says life fits mine tells tell does empty room obeys =
    let me : Member = member_of m.who in
    replied log m n o p says (reply_orders me (known me log) false d) life fits does (tell (known me log) tells (λ n. absurd (false≢true n))) tells empty room
    (orders-due me (known me log) false d.message.from d.message.to d.message.body mine life (λ n x. absurd (false≢true n)))
    obeys

-- a repeated datagram is addressed to this member
pub repeated-received : (me : Member) (k : Knowledge) (d : Datagram) → IsSound me k → repeated me k d ≡ Some d → is_of_exchange d.message.body ≡ true
    → d.message.to ≡ me.party
repeated-received me k d sound e x = elim (cases_Bool (k.is_announced d.message.from)) [
  | inl t ↦ absurd (none (sym (ap (λ b. if b then None else if_same me.session d like) t) ∙ e))
  | inr f ↦ go (place_of d.message) like refl (sym (ap (λ b. if b then None else if_same me.session d like) f) ∙ e)
]
  where
    like : Option Datagram
    like = heard_like k d.message.body (place_of d.message)

    none : None ≡ Some d → ⊥
    none e = cc

    then-same : (b : Bool) (c : Datagram) → then_some b c ≡ Some d → c ≡ d
    then-same true c h = cc
    then-same false c h = absurd (cc)

    go : (p : Option Place) (o : Option Datagram) → heard_like k d.message.body p ≡ o → if_same me.session d o ≡ Some d → d.message.to ≡ me.party
    go None None h f = absurd (cc)
    go None (Some c) h f = absurd (cc)
    go (Some p) None h f = absurd (cc)
    go (Some p) (Some c) h f =
        let same : c ≡ d = then-same _ c f in
        ap (λ (c : Datagram). c.message.to) (sym same) ∙ sound.received (kind_of d.message.body) p.exchange p.role c h

spelled-of : (me : Member) (k : Knowledge) → IsSound me k → AreSpelled me k
spelled-of me k sound = record { spelled = sound.spelled }

-- a datagram that isn't a repeat has no answer
pub not-repeated : (me : Member) (log : Log) (d : Datagram) (bytes : List ℕ) → IsMember me → IsSound me (known me log) → SpellOne → SpellsDatagram me.session.shape d bytes
    → (IsInTime me (known me log) d.message → repeated me (known me log) d ≡ None) → answer_repeat me log (repeated me (known me log) d) ≡ begun log
not-repeated me log d bytes is_member sound one spells unless = elim (cases_Bool (nat_le (this_round (known me log)) (round_of d.message.body + me.session.shape.life))) [
  | inl t ↦ ap (answer_repeat me log) (unless (in-time-by me (known me log) d.message.from d.message.to d.message.body t))
  | inr f ↦ stale-repeat me log d bytes one (spelled-of me (known me log) sound) spells is_member.session.shape.life_low f
]

-- if the code finds a repeat, it is answered again if it is in time; otherwise there is nothing to say
pub repeat-answered : (log : Log) (d : Datagram) (m n : Memory) (o p : Orders) (says : Says) (bytes : List ℕ) → IsMember (member_of m.who)
    → IsSound (member_of m.who) (known (member_of m.who) log) → SpellOne → SpellsDatagram m.who.session.shape d bytes → AreFitting says → Tell m d false says
    → CarriesOut m o says n p → (IsInTime (member_of m.who) (known (member_of m.who) log) d.message → repeated (member_of m.who) (known (member_of m.who) log) d ≡ Some d)
    → Represents log m → o.list.items ≡ [] → 2 ≤ o.room
    → IsObedient (member_of m.who) (answer_repeat (member_of m.who) log (repeated (member_of m.who) (known (member_of m.who) log) d)).state
    → HasOutcome (answer_repeat (member_of m.who) log (repeated (member_of m.who) (known (member_of m.who) log) d)) n p
repeat-answered log d m n o p says bytes is_member sound one spells fits tell does again tells empty room obeys =
    elim (cases_Bool (nat_le (this_round (known me log)) (round_of d.message.body + me.session.shape.life))) [
      | inl t ↦
          let is : repeated me (known me log) d ≡ Some d = again (in-time-by me (known me log) d.message.from d.message.to d.message.body t) in
          let mine = repeated-received me (known me log) d sound is in
          subst (λ o'. HasOutcome (answer_repeat me log o') n p) (sym is)
          (again-replied log d m n o p says life fits (λ x. (mine x, apart me.session.shape d me.party spells.fits mine x)) tells tell does empty room
          (subst (λ o'. IsObedient me (answer_repeat me log o').state) is obeys))
      | inr f ↦
          let none = stale-orders me (known me log) d.message.from d.message.to d.message.body life f in
          subst (λ out. HasOutcome out n p) (sym (stale-repeat me log d bytes one (spelled-of me (known me log) sound) spells life f))
          (replied log m n o p says [] life fits does (tell (known me log) tells (λ n. absurd (false≢true n)) ∙ none) tells empty room tt
          (repeat-before me log (repeated me (known me log) d) obeys))
    ]
  where
    me : Member
    me = member_of m.who

    life : 2 ≤ me.session.shape.life
    life = is_member.session.shape.life_low

-- if the code finds a repeat and there is none, its exchange can't be asked about any more, and there is nothing to say
pub nothing-changed : (log : Log) (d : Datagram) (m n : Memory) (says : Says) → IsMember (member_of m.who) → Tell m d false says
    → (orders_of_reply says ≡ [] → n ≡ m)
    → (IsInTime (member_of m.who) (known (member_of m.who) log) d.message → repeated (member_of m.who) (known (member_of m.who) log) d ≡ Some d)
    → Represents log m → repeated (member_of m.who) (known (member_of m.who) log) d ≡ None → n ≡ m
nothing-changed log d m n says is_member tell nothing again tells none =
    elim (cases_Bool (nat_le (this_round (known me log)) (round_of d.message.body + me.session.shape.life))) [
      | inl t ↦
          let both : None ≡ Some d = sym none ∙ again (in-time-by me (known me log) d.message.from d.message.to d.message.body t) in
          absurd (cc)
      | inr f ↦
          nothing (tell (known me log) tells (λ n. absurd (false≢true n))
          ∙ stale-orders me (known me log) d.message.from d.message.to d.message.body is_member.session.shape.life_low f)
    ]
  where
    me : Member
    me = member_of m.who

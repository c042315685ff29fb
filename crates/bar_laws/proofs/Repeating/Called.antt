-- A KEY is said for a KEYREQ, and a KEYREQ is sent for a CASE.
use Rattle.bar_wire.specs.Datagram.{Message, Datagram, Body, Request, Response, Divulge, Query, Reply, Case, KeyReq, Evidence, is_of, kind_number, part_of, exchange_by}
use Rattle.bar_wire.specs.Inputs.{Input}
use Rattle.bar_wire.specs.Inputs as event
use Rattle.bar_wire.specs.Kinds.{code_of}
use Rattle.bar_wire.specs.declared.kind.Kind.TheVariants as kinds
use Rattle.bar_wire.specs.declared.kind.Kind.{Kind}
use Rattle.bar_window.specs.Exchange.{other_role, party_on}
use Rattle.bar_window.specs.declared.exchange.Exchange.{Exchange}
use Rattle.bar_window.specs.declared.exchange.Role.{Role}
use Rattle.bar_window.specs.declared.exchange.Role.TheVariants.{Initiator, Responder}
use Rattle.bar_window.specs.declared.exchange.XKind.{XKind}
use Rattle.bar_window.specs.declared.exchange.XKind.TheVariants.{Balanced, Push}
use Rattle.bar_window.specs.declared.update.UpdateId.{UpdateId}
use Rattle.bar_window.proofs.Exchanges.{other-other}
use Rattle.bar_session.specs.Time.{last_tick}
use Rattle.bar_rules.specs.Member.{Member}
use Rattle.bar_rules.specs.Runs.{begun, sends_from}
use Rattle.bar_rules.specs.Peer.Admission.{is_admitted}
use Rattle.bar_rules.specs.Peer.Evidence.{new_evidence}
use Rattle.bar_rules.specs.Peer.Exchanges.{role_of, partner_in, request_kind, answer_kind}
use Rattle.bar_rules.specs.Peer.Knowledge.{known}
use Rattle.bar_rules.specs.Peer.Log.{Log, Entry, Ticked, Heard, Said, Kept, first_said, has_heard, has_said, if_passes, said_in, ticks}
use Rattle.bar_rules.specs.Peer.Machine.{send_if, message_to}
use Rattle.bar_rules.specs.Peer.Machine as machine
use Rattle.bar_rules.specs.Peer.Orders.{Order, Ask, Answer, Reveal, GiveCase, AskKey, GiveKey, Resend, Report, ask_body, answer_body, reply_to, reply_body, case_body, key_body}
use Rattle.bar_rules.specs.Peer.Replies.{orders_for, reply_orders, repeated}
use Rattle.bar_rules.specs.Peer.Rules.{IsObedient}
use Rattle.bar_rules.specs.Peer.Run.{Out, perform, perform_all, say, say_or_repeat, answered_to, answer_repeat, with_evidence, report_new, take_datagram, take_input, step, log_after}
use Rattle.bar_rules.specs.Peer.Signing.{signed}
use Rattle.bar_rules.specs.Peer.Terms.{terms_of}
use Rattle.bar_rules.specs.Peer.Ticks.{orders_at_tick, lacks_key}
use Rattle.bar_rules.specs.Values.{datagram_of, datagram_bytes, unsigned}
use Rattle.std.specs.Option.{option_or}
use Rattle.std.proofs.Common.{◌≡◌, ℕ, ◌+◌, Bool, true, false, List, [], ◌∷◌, refl, sym, ap, ◌∙◌, subst, inl, inr, eqb, cond, map}
use Rattle.std.specs.Prelude.{Option, Some, None, ◌⊎◌, is_some, option_map, option_and_then, nat_le}
use Rattle.std.specs.Bool.{then_some}
use Rattle.std.specs.List.{AllByRecursion}
use Rattle.std.proofs.lemmas.Bool.{and_parts, and_left, both_ways, eqb-true}
use Rattle.bar_wire.proofs.Lists.{AllByRecursion-push}
use Rattle.bar_laws.specs.Growing.{IsLater}
use Rattle.bar_laws.proofs.Logs.{all-both, all-map, all-of, when-all, again-all, tick-all, some-more, some-is, heard-found, first_said-was, saying, party-on, party-over, is_of-is, parts-of, receiver-role, was-heard-own, WasHeard, some-equal, reads-back}
use Rattle.bar_laws.proofs.Runs.{evidence-obedient, repeated-heard, heard-more, names-itself, step-obedient, run-later}

-- ---- what is said and sent, and what it answers

-- the partner's message of a kind is admitted
abbrev pub HasTheirs : Member → Log → Kind → Exchange → Type 0
HasTheirs me log kind x = has_heard (is_of kind x (other_role (role_of me x))) log ≡ true

-- a message of this side of an exchange is of a kind
abbrev pub is_own : Member → Kind → Exchange → Message → Bool
is_own me kind x m = is_of kind x (role_of me x) m

-- each KEY that was said was asked for
abbrev pub KeysAreCalled : Member → Log → Type 0
KeysAreCalled me log = (x : Exchange) → has_said (is_own me kinds.Key x) log ≡ true → HasTheirs me log kinds.KeyReq x

-- a KEYREQ is sent by a member that has the CASE
abbrev pub IsCalled : Member → Log → ℕ × Datagram → Type 0
IsCalled me log send = (x : Exchange) → is_own me kinds.KeyReq x send.1.message ≡ true → HasTheirs me log kinds.Case x

record AreCalled (me : Member) (out : Out) : Type 0 where
  keys : KeysAreCalled me out.state
  requests : AllByRecursion (IsCalled me out.state) out.sends

-- the exchange is one of this member's, on the side of its role
abbrev IsOwn : Member → Exchange → Type 0
IsOwn me x = party_on x (role_of me x) ≡ me.party

-- each order answers something
abbrev MayCall : Member → Log → Order → Type 0
MayCall me log (GiveKey x) = IsOwn me x × HasTheirs me log kinds.KeyReq x
MayCall me log (AskKey x) = IsOwn me x × HasTheirs me log kinds.Case x
MayCall me log (Resend kind x) = eqb (code_of kind) 9 ≡ false
MayCall me log _ = Unit {0}

-- ---- one message more

theirs-said : (me : Member) (log : Log) (d : Datagram) (kind : Kind) (x : Exchange) → HasTheirs me log kind x → HasTheirs me (Said d ∷ log) kind x
theirs-said me log d kind x h = some-more _ _ h

said-either : (p : Message → Bool) (log : Log) (d : Datagram) → has_said p (Said d ∷ log) ≡ true → (has_said p log ≡ true) ⊎ (p d.message ≡ true)
said-either p log d e = go (first_said p log) (p d.message) refl e
  where
    go : (o : Option Datagram) (b : Bool) → p d.message ≡ b → is_some (option_or o (then_some b d)) ≡ true → (is_some o ≡ true) ⊎ (p d.message ≡ true)
    go (Some c) b f e = inl refl
    go None true f e = inr f
    go None false f e = cc

other-number : (kind : Kind) (x : Exchange) (role : Role) (m : Message) (n : ℕ) → kind_number m.body ≡ n → eqb n (code_of kind) ≡ false → is_of kind x role m ≡ false
other-number kind x role m n e f = and_left _ _ (subst (λ z. eqb z (code_of kind) ≡ false) (sym e) f)

-- a message to the partner names its exchange
own-exchange : (me : Member) (x y : Exchange) (kind : Kind) (b : Body) → IsOwn me x → part_of b ≡ Some (x.round, x.kind, role_of me x) → is_own me kind y (message_to me x b) ≡ true → x ≡ y
own-exchange me x y kind b own part e =
    let at = is_of-is kind y (role_of me y) (message_to me x b) e in
    let names = parts-of (at.round, at.sort, role_of me y) (x.round, x.kind, role_of me x) (sym at.part ∙ part) in
    sym (to-itself (role_of me x) own) ∙ (λ i. exchange_by (sym names.0 i) (sym names.1 i) (sym names.2 i) me.party (partner_in me x)) ∙ at.exchange
  where
    to-itself : (r : Role) → party_on x r ≡ me.party → exchange_by x.round x.kind r me.party (party_on x (other_role r)) ≡ x
    to-itself Initiator e = ap (λ i. exchange_by x.round x.kind Initiator i x.responder) (sym e)
    to-itself Responder e = ap (λ i. exchange_by x.round x.kind Responder i x.initiator) (sym e)

-- what may be said in answer to an order: a KEY for a KEYREQ
abbrev MayAnswer : Member → Log → Exchange → Body → Type 0
MayAnswer me log x b = (eqb (kind_number b) 9 ≡ false) × ((eqb (kind_number b) 10 ≡ false) ⊎ (IsOwn me x × (part_of b ≡ Some (x.round, x.kind, role_of me x)) × HasTheirs me log kinds.KeyReq x))

say-called : (me : Member) (out : Out) (kind : Kind) (x : Exchange) (o : Option Body) → eqb (code_of kind) 9 ≡ false → ((b : Body) → o ≡ Some b → MayAnswer me out.state x b) → AreCalled me out → AreCalled me (say me out kind x o)
say-called me out kind x o other f c = go (first_said (is_own me kind x) out.state) refl o f
  where
    go : (q : Option Datagram) → first_said (is_own me kind x) out.state ≡ q → (o : Option Body) → ((b : Body) → o ≡ Some b → MayAnswer me out.state x b) → AreCalled me (say_or_repeat me out x q o)
    go (Some d) e o f =
        let number : kind_number d.message.body ≡ code_of kind = eqb-true _ _ (and_parts _ _ (first_said-was (is_own me kind x) out.state d e).1).0 in
        record { keys = c.keys; requests = AllByRecursion-push (IsCalled me out.state) out.sends (partner_in me x, d) c.requests (λ y i. absurd (both_ways _ (other-number kinds.KeyReq y (role_of me y) d.message (code_of kind) number other) i)) }
    go None e None f = c
    go None e (Some b) f =
        let d : Datagram = signed me (known me out.state) (message_to me x b) in
        let may : MayAnswer me out.state x b = f b refl in
        record {
          keys = λ y h. theirs-said me out.state d kinds.KeyReq y (new y b may (said-either (is_own me kinds.Key y) out.state d h));
          requests = AllByRecursion-push (IsCalled me (Said d ∷ out.state)) out.sends (partner_in me x, d)
              (all-map (IsCalled me out.state) (IsCalled me (Said d ∷ out.state)) out.sends (λ s k y i. theirs-said me out.state d kinds.Case y (k y i)) c.requests)
              (λ y i. absurd (both_ways _ (and_left _ _ may.0) i));
        }
      where
        new : (y : Exchange) (b : Body) → MayAnswer me out.state x b → (has_said (is_own me kinds.Key y) out.state ≡ true) ⊎ (is_own me kinds.Key y (message_to me x b) ≡ true) → HasTheirs me out.state kinds.KeyReq y
        new y b may (inl old) = c.keys y old
        new y b (n, inl no_key) (inr i) = absurd (both_ways _ (and_left _ _ no_key) i)
        new y b (n, inr (own, part, theirs)) (inr i) = subst (λ z. HasTheirs me out.state kinds.KeyReq z) (own-exchange me x y kinds.Key b own part i) theirs

if-called : (me : Member) (out : Out) (to : ℕ) (o : Option Body) → ((b : Body) → o ≡ Some b → eqb (kind_number b) 9 ≡ false) → AreCalled me out → AreCalled me (send_if me out to o)
if-called me out to None f c = c
if-called me out to (Some b) f c =
    record { keys = c.keys; requests = AllByRecursion-push (IsCalled me out.state) out.sends (to, unsigned (record { from = me.party; to = to; body = b })) c.requests (λ y i. absurd (both_ways _ (and_left _ _ (f b refl)) i)) }

-- ---- the bodies of orders

plain : (me : Member) (log : Log) (x : Exchange) (b c : Body) → b ≡ c → eqb (kind_number b) 9 ≡ false → eqb (kind_number b) 10 ≡ false → MayAnswer me log x c
plain me log x b c e f g = (subst (λ z. eqb (kind_number z) 9 ≡ false) e f, inl (subst (λ z. eqb (kind_number z) 10 ≡ false) e g))

ask-plain : (me : Member) (log : Log) (x : Exchange) (b : Body) → Some (ask_body me (known me log) x x.kind) ≡ Some b → MayAnswer me log x b
ask-plain me log x b e = go x.kind (some-equal _ b e)
  where
    go : (k : XKind) → ask_body me (known me log) x k ≡ b → MayAnswer me log x b
    go Balanced e = plain me log x (ask_body me (known me log) x Balanced) b e refl refl
    go Push e = plain me log x (ask_body me (known me log) x Push) b e refl refl

answer-plain : (me : Member) (log : Log) (x : Exchange) (b : Body) → answer_body me (known me log) x x.kind ≡ Some b → MayAnswer me log x b
answer-plain me log x b e = go x.kind e
  where
    given : (q : List UpdateId × List UpdateId) (w : Bool) → then_some w (reply_body me (known me log) x.round q) ≡ Some b → MayAnswer me log x b
    given q true e = plain me log x (reply_body me (known me log) x.round q) b (some-equal _ b e) refl refl
    given q false e = cc

    reply : (o : Option (List UpdateId × List UpdateId)) → option_and_then (reply_to me (known me log) x.round) o ≡ Some b → MayAnswer me log x b
    reply None e = cc
    reply (Some q) e = given q _ e

    go : (k : XKind) → answer_body me (known me log) x k ≡ Some b → MayAnswer me log x b
    go Balanced e = plain me log x _ b (some-equal _ b e) refl refl
    go Push e = reply _ e

case-plain : (me : Member) (log : Log) (x : Exchange) (b : Body) → option_map (case_body me (known me log) x) (terms_of me (known me log) x) ≡ Some b → MayAnswer me log x b
case-plain me log x b e = go (terms_of me (known me log) x) e
  where
    go : (o : Option _) → option_map (case_body me (known me log) x) o ≡ Some b → MayAnswer me log x b
    go None e = cc
    go (Some t) e = plain me log x (case_body me (known me log) x t) b (some-equal _ b e) refl refl

key-called : (me : Member) (log : Log) (x : Exchange) (b : Body) → MayCall me log (GiveKey x) → Some (key_body me x) ≡ Some b → MayAnswer me log x b
key-called me log x b may e = let same : key_body me x ≡ b = some-equal _ b e in subst (λ z. MayAnswer me log x z) same (refl, inr (may.0, refl, may.1))

reveal-plain : (r : ℕ) (o : Option (List ℕ × List UpdateId)) (b : Body) → option_map (λ (a : List ℕ × List UpdateId). Divulge r a.0 a.1) o ≡ Some b → eqb (kind_number b) 9 ≡ false
reveal-plain r None b e = cc
reveal-plain r (Some a) b e = subst (λ z. eqb (kind_number z) 9 ≡ false) (some-equal (Divulge r a.0 a.1) b e) refl

report-plain : (o : Option (List (List ℕ))) (b : Body) → option_map Evidence o ≡ Some b → eqb (kind_number b) 9 ≡ false
report-plain None b e = cc
report-plain (Some v) b e = subst (λ z. eqb (kind_number z) 9 ≡ false) (some-equal (Evidence v) b e) refl

asked-number : (k : XKind) → eqb (code_of (request_kind k)) 9 ≡ false
asked-number Balanced = refl
asked-number Push = refl

answered-number : (k : XKind) → eqb (code_of (answer_kind k)) 9 ≡ false
answered-number Balanced = refl
answered-number Push = refl

-- a KEYREQ for the exchange
request-called : (me : Member) (out : Out) (x : Exchange) → MayCall me out.state (AskKey x) → AreCalled me out → AreCalled me (perform me out (AskKey x))
request-called me out x may c = record {
  keys = c.keys;
  requests = AllByRecursion-push (IsCalled me out.state) out.sends (partner_in me x, unsigned (message_to me x (KeyReq x.round x.kind (role_of me x)))) c.requests
      (λ y i. subst (λ z. HasTheirs me out.state kinds.Case z) (own-exchange me x y kinds.KeyReq (KeyReq x.round x.kind (role_of me x)) may.0 refl i) may.1);
}

perform-called : (me : Member) (out : Out) (o : Order) → MayCall me out.state o → AreCalled me out → AreCalled me (perform me out o)
perform-called me out (Ask x) may c = say-called me out _ x _ (asked-number x.kind) (ask-plain me out.state x) c
perform-called me out (Answer x) may c = say-called me out _ x _ (answered-number x.kind) (answer-plain me out.state x) c
perform-called me out (GiveCase x) may c = say-called me out kinds.Case x _ refl (case-plain me out.state x) c
perform-called me out (GiveKey x) may c = say-called me out kinds.Key x _ refl (λ b e. key-called me out.state x b may e) c
perform-called me out (Resend kind x) may c = say-called me out kind x None may (λ b e. cc) c
perform-called me out (Reveal x) may c = if-called me out _ _ (reveal-plain x.round _) c
perform-called me out (AskKey x) may c = request-called me out x may c
perform-called me out (Report q) may c = if-called me out 0 _ (report-plain _) c

-- ---- orders that follow

later-may : (me : Member) (log : Log) (d : Datagram) (o : Order) → MayCall me log o → MayCall me (Said d ∷ log) o
later-may me log d (GiveKey x) m = (m.0, theirs-said me log d kinds.KeyReq x m.1)
later-may me log d (AskKey x) m = (m.0, theirs-said me log d kinds.Case x m.1)
later-may me log d (Resend kind x) m = m
later-may me log d (Ask x) m = tt
later-may me log d (Answer x) m = tt
later-may me log d (Reveal x) m = tt
later-may me log d (GiveCase x) m = tt
later-may me log d (Report q) m = tt

-- the log after an order contains what was there before
say-may : (me : Member) (out : Out) (kind : Kind) (x : Exchange) (o : Option Body) (p : Order) → MayCall me out.state p → MayCall me (say me out kind x o).state p
say-may me out kind x o p m = go (first_said (is_own me kind x) out.state) o
  where
    go : (q : Option Datagram) (o : Option Body) → MayCall me (say_or_repeat me out x q o).state p
    go (Some d) o = m
    go None None = m
    go None (Some b) = later-may me out.state (signed me (known me out.state) (message_to me x b)) p m

if-may : (me : Member) (out : Out) (to : ℕ) (o : Option Body) (p : Order) → MayCall me out.state p → MayCall me (send_if me out to o).state p
if-may me out to None p m = m
if-may me out to (Some b) p m = m

perform-may : (me : Member) (out : Out) (o p : Order) → MayCall me out.state p → MayCall me (perform me out o).state p
perform-may me out (Ask x) p m = say-may me out _ x _ p m
perform-may me out (Answer x) p m = say-may me out _ x _ p m
perform-may me out (GiveCase x) p m = say-may me out kinds.Case x _ p m
perform-may me out (GiveKey x) p m = say-may me out kinds.Key x _ p m
perform-may me out (Resend kind x) p m = say-may me out kind x None p m
perform-may me out (Reveal x) p m = if-may me out _ _ p m
perform-may me out (AskKey x) p m = m
perform-may me out (Report q) p m = if-may me out 0 _ p m

all-called : (me : Member) (os : List Order) (out : Out) → AllByRecursion (MayCall me out.state) os → AreCalled me out → AreCalled me (perform_all me out os)
all-called me [] out m c = c
all-called me (o ∷ os) out m c =
    all-called me os (perform me out o) (all-map (MayCall me out.state) (MayCall me (perform me out o).state) os (perform-may me out o) m.1) (perform-called me out o m.0 c)

-- ---- the orders of an input

tick-may : (me : Member) (log : Log) → IsObedient me log → AllByRecursion (MayCall me log) (orders_at_tick me (known me log))
tick-may me log h =
    tick-all (MayCall me log) (λ x. Unit {0}) me (known me log) (all-of (λ x. Unit {0}) (known me log).opens (λ x c. tt)) (λ x r. again-all (MayCall me log) me (known me log) x (asked-number x.kind) (λ _. (tt, refl)) (asks x))
    (λ kind. when-all (MayCall me log) _ (Ask _ ∷ []) (λ _. (tt, tt))) (λ q. tt)
  where
    asks : (x : Exchange) → lacks_key me (known me log) x ≡ true → IsOwn me x × HasTheirs me log kinds.Case x
    asks x e =
        let both = and_parts _ _ (and_parts _ _ (and_parts _ _ e).0).0 in
        let f = some-is (first_said (is_own me kinds.Case x) log) both.0 in
        let was = first_said-was (is_own me kinds.Case x) log f.0 f.1 in
        let s = saying me log f.0 kinds.Case x (role_of me x) h was.0 was.1 in
        (sym (ap (λ z. party_on z (role_of me x)) s.exchange) ∙ party-on x.round x.kind (role_of me x) me.party f.0.message.to, both.1)

reply-may : (me : Member) (log : Log) (is_new : Bool) (d : Datagram) → IsObedient me log → WasHeard log d → AllByRecursion (MayCall me log) (reply_orders me (known me log) is_new d)
reply-may me log is_new d h w = go d.message.body refl
  where
    side : (b : Body) (p : ℕ × XKind × Role) → d.message.body ≡ b → part_of b ≡ Some p → role_of me (exchange_by p.0 p.1 p.2 d.message.from d.message.to) ≡ other_role p.2
    side b p e f = let o = was-heard-own me log d p w h (ap part_of e ∙ f) in receiver-role me p.0 p.1 p.2 d.message.from d.message.to o.to o.other

    own : (b : Body) (p : ℕ × XKind × Role) → d.message.body ≡ b → part_of b ≡ Some p → IsOwn me (exchange_by p.0 p.1 p.2 d.message.from d.message.to)
    own b p e f =
        let o = was-heard-own me log d p w h (ap part_of e ∙ f) in
        ap (λ r. party_on (exchange_by p.0 p.1 p.2 d.message.from d.message.to) r) (side b p e f) ∙ party-over p.0 p.1 p.2 d.message.from d.message.to ∙ o.to

    theirs : (b : Body) (p : ℕ × XKind × Role) (kind : Kind) → d.message.body ≡ b → part_of b ≡ Some p → kind_number d.message.body ≡ code_of kind → HasTheirs me log kind (exchange_by p.0 p.1 p.2 d.message.from d.message.to)
    theirs b p kind e f n =
        subst (λ r. has_heard (is_of kind (exchange_by p.0 p.1 p.2 d.message.from d.message.to) r) log ≡ true) (sym (ap other_role (side b p e f) ∙ other-other p.2))
        (heard-found (is_of kind (exchange_by p.0 p.1 p.2 d.message.from d.message.to) p.2) log d w (names-itself d.message kind p.0 p.1 p.2 n (ap part_of e ∙ f)))

    go : (b : Body) → d.message.body ≡ b → AllByRecursion (MayCall me log) (orders_for me (known me log) is_new d.message.from d.message.to b)
    go (Request r seed c) e = when-all (MayCall me log) _ (Answer _ ∷ []) (λ _. (tt, tt))
    go (Response r hb) e = when-all (MayCall me log) _ (Reveal _ ∷ GiveCase _ ∷ []) (λ _. (tt, (tt, tt)))
    go (Divulge r nonce ha) e = when-all (MayCall me log) _ (GiveCase _ ∷ []) (λ _. (tt, tt))
    go (Query r seed young aged) e = when-all (MayCall me log) _ (Answer _ ∷ GiveCase _ ∷ []) (λ _. (tt, (tt, tt)))
    go (Reply r want give junk) e = when-all (MayCall me log) _ (GiveCase _ ∷ []) (λ _. (tt, tt))
    go (Case c) e = when-all (MayCall me log) _ (AskKey (exchange_by c.round c.kind c.role d.message.from d.message.to) ∷ []) (λ _. ((own (Case c) (c.round, c.kind, c.role) e refl, theirs (Case c) (c.round, c.kind, c.role) kinds.Case e refl (ap kind_number e)), tt))
    go (KeyReq r kind role) e = when-all (MayCall me log) _ (GiveKey (exchange_by r kind role d.message.from d.message.to) ∷ []) (λ _. ((own (KeyReq r kind role) (r, kind, role) e refl, theirs (KeyReq r kind role) (r, kind, role) kinds.KeyReq e refl (ap kind_number e)), tt))
    go _ e = tt

-- ---- one input

-- an entry in which nothing is said
other-keys : (me : Member) (log : Log) (e : Entry) → said_in e ≡ None → KeysAreCalled me log → KeysAreCalled me (e ∷ log)
other-keys me log e none k x h = some-more _ _ (k x (go (first_said (is_own me kinds.Key x) log) (subst (λ o. is_some (option_or (first_said (is_own me kinds.Key x) log) (if_passes (is_own me kinds.Key x) o)) ≡ true) none h)))
  where
    go : (o : Option Datagram) → is_some (option_or o None) ≡ true → is_some o ≡ true
    go (Some d) e = refl
    go None e = cc

answered-called : (me : Member) (log : Log) (d : Datagram) → datagram_of me.session (datagram_bytes me.session d) ≡ Some d → IsObedient me log → KeysAreCalled me log → AreCalled me (answered_to me log d)
answered-called me log d reads h k = go (is_admitted me (known me log) d) refl
  where
    repeat : (o : Option Datagram) → repeated me (known me log) d ≡ o → AreCalled me (answer_repeat me log o)
    repeat None e = record { keys = k; requests = tt }
    repeat (Some c) e = all-called me (reply_orders me (known me log) false c) (begun log) (reply-may me log false c h (repeated-heard me log d c e)) (record { keys = k; requests = tt })

    go : (b : Bool) → is_admitted me (known me log) d ≡ b → AreCalled me (cond b (perform_all me (begun (Heard d ∷ log)) (reply_orders me (known me (Heard d ∷ log)) true d)) (answer_repeat me log (repeated me (known me log) d)))
    go true e =
        all-called me (reply_orders me (known me (Heard d ∷ log)) true d) (begun (Heard d ∷ log))
        (reply-may me (Heard d ∷ log) true d ((e, reads), h) (record { before = log; place = record { after = []; split = refl } })) (record { keys = other-keys me log (Heard d) refl k; requests = tt })
    go false e = repeat _ refl

kept-keys : (me : Member) (log : Log) (q : ℕ) (o : Option (List (List ℕ))) → KeysAreCalled me log → KeysAreCalled me (with_evidence me log q o)
kept-keys me log q None k = k
kept-keys me log q (Some v) k = other-keys me log (Kept q v) refl k

report-called : (me : Member) (out : Out) (q : ℕ) (o : Option (List (List ℕ))) → AreCalled me out → AreCalled me (report_new me out q o)
report-called me out q None c = c
report-called me out q (Some v) c = perform-called me out (Report q) tt c

datagram-called : (me : Member) (log : Log) (bytes : List ℕ) (o : Option Datagram) → datagram_of me.session bytes ≡ o → IsObedient me log → KeysAreCalled me log → AreCalled me (take_datagram me log o)
datagram-called me log bytes None r h k = record { keys = k; requests = tt }
datagram-called me log bytes (Some d) r h k =
    report-called me _ d.message.from (new_evidence me (known me log) d)
    (answered-called me (with_evidence me log d.message.from (new_evidence me (known me log) d)) d (reads-back me.session bytes d r) (evidence-obedient me log d _ refl h) (kept-keys me log d.message.from (new_evidence me (known me log) d) k))

step-called : (me : Member) (log : Log) (i : Input) → IsObedient me log → KeysAreCalled me log → AreCalled me (step me log i)
unfolding machine.step
step-called me log i h k = go (nat_le (last_tick me.session) (ticks log)) i
  where
    go : (b : Bool) (i : Input) → AreCalled me (cond b (begun log) (take_input me log i))
    go true i = record { keys = k; requests = tt }
    go false event.Tick =
        let c = all-called me (orders_at_tick me (known me (Ticked ∷ log))) (begun (Ticked ∷ log)) (tick-may me (Ticked ∷ log) (tt, h)) (record { keys = other-keys me log Ticked refl k; requests = tt }) in
        record { keys = c.keys; requests = c.requests }
    go false (event.Datagram bytes) = datagram-called me log bytes (datagram_of me.session bytes) refl h k

-- ---- any inputs

numbered-called : (me : Member) (log before : Log) (n : ℕ) (sends : List (ℕ × Datagram)) → IsLater log before → AllByRecursion (IsCalled me before) sends
    → AllByRecursion (λ (s : ℕ × ℕ × Datagram). IsCalled me log (s.1, s.2)) (map (λ (s : ℕ × Datagram). (n, s.0, s.1)) sends)
numbered-called me log before n [] later c = tt
numbered-called me log before n (s ∷ sends) later c = ((λ x i. heard-more _ log before later (c.0 x i)), numbered-called me log before n sends later c.1)

pub run-called : (me : Member) (log : Log) (n : ℕ) (inputs : List Input) → IsObedient me log → KeysAreCalled me log
    → KeysAreCalled me (log_after me log inputs) × AllByRecursion (λ (s : ℕ × ℕ × Datagram). IsCalled me (log_after me log inputs) (s.1, s.2)) (sends_from (step me) log n inputs)
run-called me log n [] h k = (k, tt)
run-called me log n (i ∷ is) h k =
    let one = step-called me log i h k in
    let rest = run-called me (step me log i).state (n + 1) is (step-obedient me log i h) one.keys in (
      rest.0,
      all-both (λ (s : ℕ × ℕ × Datagram). IsCalled me (log_after me log (i ∷ is)) (s.1, s.2)) _ _
          (numbered-called me (log_after me log (i ∷ is)) (step me log i).state n (step me log i).sends (run-later me (step me log i).state is) one.requests) rest.1,
    )

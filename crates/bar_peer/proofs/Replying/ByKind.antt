-- What a reply says for the first time, by kind.
use Rattle.std.proofs.Common.{◌≡◌, ◌∙◌, ◌≤◌, ◌+◌, Bool, true, false, is_some, Option, Some, None, refl, sym, ap, subst}
use Rattle.std.specs.Prelude.{option_map}
use Rattle.bar_window.specs.declared.exchange.Exchange.{Exchange}
use Rattle.bar_window.specs.declared.exchange.Role.TheVariants.{Initiator, Responder}
use Rattle.bar_window.specs.declared.exchange.XKind.TheVariants.{Balanced}
use Rattle.bar_window.specs.Terms.{Terms}
use Rattle.bar_wire.specs.Datagram.{Datagram, Body, Response, place_by, place_of, kind_of}
use Rattle.bar_wire.specs.declared.kind.Kind.{Kind}
use Rattle.bar_wire.specs.declared.kind.Kind.TheVariants as kinds
use Rattle.bar_rules.specs.Member.{Member}
use Rattle.bar_rules.specs.Peer.Agreement.{IsRecent}
use Rattle.bar_rules.specs.Peer.Exchanges.{role_of, partner_in, answer_kind}
use Rattle.bar_rules.specs.Peer.Holdings.{history}
use Rattle.bar_rules.specs.Peer.Knowledge.{Knowledge, known, with_said, this_round, answer_deadline, has_heard_of, has_said_of}
use Rattle.bar_rules.specs.Peer.Machine.{message_to}
use Rattle.bar_rules.specs.Peer.Orders.{answer_body, case_body, key_body}
use Rattle.bar_rules.specs.Peer.Rules.{IsObedient}
use Rattle.bar_rules.specs.Peer.Run.{Out, say, say_new, say_or_repeat, perform}
use Rattle.bar_rules.specs.Peer.Signing.{signed, MaySay}
use Rattle.bar_rules.specs.Peer.Terms.{terms_of}
use Rattle.bar_laws.specs.Knowing.{EntryIsLearned}
use Rattle.bar_laws.proofs.Memory.{found-heard}
use Rattle.bar_ledger.specs.Code.Recalls.{Recalls}
use Rattle.bar_exchange.specs.Code.Keeping.{IsSaidNow}
use Rattle.bar_exchange.specs.Code.Says.{order_by}
use Rattle.bar_peer.specs.declared.memory.Memory.{Memory}
use Rattle.bar_peer.specs.Code.Memory.{IsMemoryOf, member_of, HasOtherLedger}
use Rattle.bar_peer.specs.Code.Sending.{send_now, MaySayNow, IsCarriedOut}
use Rattle.bar_peer.proofs.Orders.Recency.{recent_by_time}
use Rattle.bar_peer.proofs.Orders.CarryingOut.{say_of, carried_not, carried_first, unsaid, placed, said_memory, kept_memory, IsToldAsSaid}

-- the signed datagram of a body, given the log
abbrev pub signed_in : Member → Out → Exchange → Body → Datagram
signed_in me out x body = signed me (known me out.state) (message_to me x body)

-- An order of a kind of which nothing was said is carried out, with a result and another ledger.
abbrev pub CarriesOut : Memory → Memory → Exchange → Bool → Kind → Type 0
CarriesOut old m x result kind =
    (out : Out) → is_some (send_now (member_of m.who) (known (member_of m.who) out.state) (say_of kind x)) ≡ false
    → IsObedient (member_of m.who) (perform (member_of m.who) out (order_by kind x)).state
    → IsMemoryOf (member_of m.who) (known (member_of m.who) out.state) old
    → MaySayNow (member_of m.who) (known (member_of m.who) out.state) (say_of kind x)
    → IsCarriedOut (member_of m.who) (say_of kind x) out (perform (member_of m.who) out (order_by kind x)) result m

pub at_kind : (old m : Memory) (x : Exchange) (result : Bool) (kind now : Kind) → kind ≡ now → CarriesOut old m x result now
    → CarriesOut old m x result kind
at_kind old m x result kind now is carries = subst (CarriesOut old m x result) (sym is) carries

-- after a datagram is said, the ledger recalls the new knowledge
abbrev pub Learns : Memory → Knowledge → Datagram → Type 0
Learns m k d = Recalls (member_of m.who) (with_said (member_of m.who) d k) m.ledger

-- if nothing of its kind was said, a message is new
pub said_new : (me : Member) (kind : Kind) (x : Exchange) (body : Option Body) (out new : Out) → new ≡ say me out kind x body
    → (known me out.state).said kind x (role_of me x) ≡ None → new ≡ say_new me out x body
said_new me kind x body out new is none = is ∙ (λ i. say_or_repeat me out x (none i) body)

-- ---- obedience

pub allowed : (me : Member) (x : Exchange) (body : Body) (out new : Out) → IsObedient me new.state → new ≡ say_new me out x (Some body)
    → MaySay me (known me out.state) (partner_in me x) body
allowed me x body out new obeys is = (subst (λ (o : Out). IsObedient me o.state) is obeys).0.rule.rule

-- the message of a body is on this member's side of the exchange
pub says_now : (me : Member) (k : Knowledge) (x : Exchange) (body : Body) (kind : Kind) → kind_of body ≡ kind
    → place_of (message_to me x body) ≡ Some (record { exchange = x; role = role_of me x }) → k.said kind x (role_of me x) ≡ None
    → IsRecent me k x.round → IsSaidNow me k (signed me k (message_to me x body)) kind x
says_now me k x body kind is place new recent = record { mine = refl; kind_is = is; place_is = place; new = new; recent = recent }

-- a message that is said for the first time is sent
pub carried_new : (kind : Kind) (x : Exchange) (body : Body) (out new : Out) (old m : Memory) → EntryIsLearned → IsToldAsSaid kind
    → HasOtherLedger old m → IsMemoryOf (member_of m.who) (known (member_of m.who) out.state) old
    → IsSaidNow (member_of m.who) (known (member_of m.who) out.state) (signed_in (member_of m.who) out x body) kind x
    → Learns m (known (member_of m.who) out.state) (signed_in (member_of m.who) out x body)
    → new ≡ say_new (member_of m.who) out x (Some body) → IsCarriedOut (member_of m.who) (say_of kind x) out new true m
carried_new kind x body out new old m learned told same holds says learns is =
    carried_first kind x body out new m learned told says
    (said_memory (member_of m.who) (known (member_of m.who) out.state) (signed_in (member_of m.who) out x body) old m holds same learns)
    is

-- ---- by kind

-- a RESPONSE answers the REQUEST that was heard
pub gives_response : (old m : Memory) (x : Exchange) → EntryIsLearned → HasOtherLedger old m → 2 ≤ m.who.session.shape.life
    → ((k : Knowledge) (d : Datagram) → IsMemoryOf (member_of m.who) k old → IsSaidNow (member_of m.who) k d kinds.Response x
    → d.message.body ≡ Response x.round (history m.who.session k.block x.round) → has_heard_of k kinds.Request x Initiator ≡ true
    → this_round k ≤ x.round + answer_deadline → Learns m k d)
    → CarriesOut old m x true kinds.Response
gives_response old m x learned same life teach out lacks obeys holds own =
    carried_new kinds.Response x body out _ old m learned (λ me k x. refl) same holds says
    (teach k (signed_in me out x body) holds says refl asked own.answers.early)
    is
  where
    me : Member
    me = member_of m.who

    k : Knowledge
    k = known me out.state

    body : Body
    body = Response x.round (history me.session k.block x.round)

    new : k.said kinds.Response x (role_of me x) ≡ None
    new = unsaid me k kinds.Response x (λ me k x. refl) lacks

    is : perform me out (order_by kinds.Response x) ≡ say_new me out x (Some body)
    is =
        said_new me kinds.Response x (Some body) out _
        (λ i. say me out (answer_kind (own.answers.kind_is i)) x (answer_body me k x (own.answers.kind_is i)))
        new

    place : place_by me.party (partner_in me x) (x.round, Balanced, Responder) ≡ record { exchange = x; role = role_of me x }
    place = placed me x Balanced Responder own.answers.kind_is own.answers.side own.ours

    says : IsSaidNow me k (signed_in me out x body) kinds.Response x
    says =
        says_now me k x body kinds.Response refl (ap (λ p. Some p) place) new
        (recent_by_time me k kinds.Response x.round life own.timely)

    asked : has_heard_of k kinds.Request x Initiator ≡ true
    asked = (λ i. has_heard_of k kinds.Request ((sym place i).exchange) Initiator) ∙ (allowed me x body out _ obeys is).asked

-- if the terms are complete, a CASE contains them
pub gives_case : (old m : Memory) (x : Exchange) (result : Bool) → EntryIsLearned → HasOtherLedger old m → 2 ≤ m.who.session.shape.life
    → ((k : Knowledge) (d : Datagram) → IsMemoryOf (member_of m.who) k old → IsSaidNow (member_of m.who) k d kinds.Case x
    → is_some (terms_of (member_of m.who) k x) ≡ true → (result ≡ true) × Learns m k d)
    → ((k : Knowledge) → IsMemoryOf (member_of m.who) k old → IsRecent (member_of m.who) k x.round → terms_of (member_of m.who) k x ≡ None
    → (result ≡ false) × (m.ledger ≡ old.ledger))
    → CarriesOut old m x result kinds.Case
gives_case old m x result learned same life teach without out lacks obeys holds own = go (terms_of me k x) refl
  where
    me : Member
    me = member_of m.who

    k : Knowledge
    k = known me out.state

    new : k.said kinds.Case x (role_of me x) ≡ None
    new = unsaid me k kinds.Case x (λ me k x. refl) lacks

    recent : IsRecent me k x.round
    recent = recent_by_time me k kinds.Case x.round life own.timely

    is : (o : Option Terms) → terms_of me k x ≡ o
        → perform me out (order_by kinds.Case x) ≡ say_new me out x (option_map (case_body me k x) o)
    is o e =
        said_new me kinds.Case x (option_map (case_body me k x) o) out _
        (λ i. say me out kinds.Case x (option_map (case_body me k x) (e i)))
        new

    says : (t : Terms) → IsSaidNow me k (signed_in me out x (case_body me k x t)) kinds.Case x
    says t =
        says_now me k x (case_body me k x t) kinds.Case refl
        (ap (λ p. Some p) (placed me x x.kind (role_of me x) refl refl own.ours))
        new
        recent

    go : (o : Option Terms) → terms_of me k x ≡ o
        → IsCarriedOut me (say_of kinds.Case x) out (perform me out (order_by kinds.Case x)) result m
    go None e =
        let none = without k holds recent e in
        subst (λ (b : Bool). IsCarriedOut me (say_of kinds.Case x) out (perform me out (order_by kinds.Case x)) b m) (sym none.0)
        (carried_not (say_of kinds.Case x) out _ m (kept_memory me k old m holds same none.1) (is None e))
    go (Some t) e =
        let some = teach k (signed_in me out x (case_body me k x t)) holds (says t) (ap (λ o. is_some o) e) in
        subst (λ (b : Bool). IsCarriedOut me (say_of kinds.Case x) out (perform me out (order_by kinds.Case x)) b m) (sym some.0)
        (carried_new kinds.Case x (case_body me k x t) out _ old m learned (λ me k x. refl) same holds (says t) some.1
        (is (Some t) e))

-- a KEY follows this member's CASE
pub gives_key : (old m : Memory) (x : Exchange) (result : Bool) → EntryIsLearned → HasOtherLedger old m → 2 ≤ m.who.session.shape.life
    → ((k : Knowledge) (d : Datagram) → IsMemoryOf (member_of m.who) k old → IsSaidNow (member_of m.who) k d kinds.Key x
    → has_said_of k kinds.Case x (role_of (member_of m.who) x) ≡ true → (result ≡ true) × Learns m k d)
    → CarriesOut old m x result kinds.Key
gives_key old m x result learned same life teach out lacks obeys holds own =
    subst (λ (b : Bool). IsCarriedOut me (say_of kinds.Key x) out (perform me out (order_by kinds.Key x)) b m) (sym given.0)
    (carried_new kinds.Key x (key_body me x) out _ old m learned (λ me k x. refl) same holds says given.1 is)
  where
    me : Member
    me = member_of m.who

    k : Knowledge
    k = known me out.state

    new : k.said kinds.Key x (role_of me x) ≡ None
    new = unsaid me k kinds.Key x (λ me k x. refl) lacks

    is : perform me out (order_by kinds.Key x) ≡ say_new me out x (Some (key_body me x))
    is = said_new me kinds.Key x (Some (key_body me x)) out _ refl new

    place : place_by me.party (partner_in me x) (x.round, x.kind, role_of me x) ≡ record { exchange = x; role = role_of me x }
    place = placed me x x.kind (role_of me x) refl refl own.ours

    says : IsSaidNow me k (signed_in me out x (key_body me x)) kinds.Key x
    says =
        says_now me k x (key_body me x) kinds.Key refl (ap (λ p. Some p) place) new
        (recent_by_time me k kinds.Key x.round life own.timely)

    case_said : has_said_of k kinds.Case x (role_of me x) ≡ true
    case_said =
        let rule = allowed me x (key_body me x) out _ obeys is in
        (λ i. has_said_of k kinds.Case ((sym place i).exchange) (role_of me x)) ∙ found-heard _ rule.ours rule.said

    given : (result ≡ true) × Learns m k (signed_in me out x (key_body me x))
    given = teach k (signed_in me out x (key_body me x)) holds says case_said

-- The REPLY that is said for the first time, and when there is none.
use Rattle.std.proofs.Common.{◌≡◌, ◌∙◌, ◌≤◌, ◌+◌, Bool, true, false, is_some, List, length, Option, Some, None, refl, sym, ap, subst}
use Rattle.std.specs.Prelude.{option_and_then, IfSome, nat_lt, if◌then◌else◌}
use Rattle.std.specs.Bool.{then_some}
use Rattle.std.specs.Option.{option_map_or}
use Rattle.std.proofs.lemmas.Bool.{false≢true}
use Rattle.bar_window.specs.declared.exchange.Exchange.{Exchange}
use Rattle.bar_window.specs.declared.exchange.Role.TheVariants.{Responder}
use Rattle.bar_window.specs.declared.exchange.XKind.TheVariants.{Push}
use Rattle.bar_window.specs.declared.update.UpdateId.{UpdateId}
use Rattle.bar_window.specs.Terms.{Terms, plain_terms}
use Rattle.bar_window.specs.Terms as forms
use Rattle.bar_wire.specs.Datagram.{Datagram, Body}
use Rattle.bar_wire.specs.declared.kind.Kind.TheVariants as kinds
use Rattle.bar_rules.specs.Member.{Member}
use Rattle.bar_rules.specs.Peer.Agreement.{IsRecent}
use Rattle.bar_rules.specs.Peer.Choices.{wanted_of}
use Rattle.bar_rules.specs.Peer.Exchanges.{role_of, answer_kind}
use Rattle.bar_rules.specs.Peer.Knowledge.{Knowledge, known, this_round, answer_deadline}
use Rattle.bar_rules.specs.Peer.Orders.{answer_body, reply_to, reply_body}
use Rattle.bar_rules.specs.Peer.Run.{say, say_new, perform}
use Rattle.bar_rules.specs.Peer.Writing.{offer_of}
use Rattle.bar_laws.specs.Knowing.{EntryIsLearned}
use Rattle.bar_ledger.specs.declared.ledger.Ledger.{Ledger}
use Rattle.bar_ledger.specs.Code.Kept.{Kept}
use Rattle.bar_ledger.specs.Code.Lookups.{knows_offer, if_known, is_known_in}
use Rattle.bar_ledger.specs.Code.Lookups as lookups
use Rattle.bar_ledger.specs.Code.Memory.{find_in}
use Rattle.bar_ledger.specs.Code.Recalls.{Recalls, IsKeptBy, kind_of_terms}
use Rattle.bar_exchange.specs.Code.Keeping.{IsSaidNow}
use Rattle.bar_exchange.specs.Code.Says.{order_by}
use Rattle.bar_peer.specs.declared.memory.Memory.{Memory}
use Rattle.bar_peer.specs.Code.Memory.{IsMemoryOf, member_of, HasOtherLedger}
use Rattle.bar_peer.specs.Code.Sending.{IsCarriedOut}
use Rattle.bar_peer.proofs.Replying.ByKind.{CarriesOut, Learns, signed_in, said_new, says_now, carried_new}
use Rattle.bar_peer.proofs.Orders.Recency.{recent_by_time}
use Rattle.bar_peer.proofs.Orders.CarryingOut.{say_of, carried_not, unsaid, placed, kept_memory}

-- ---- whether the offer is known

abbrev Offer : Type 0
Offer = List UpdateId × List UpdateId

has_offer : (t : Terms) → kind_of_terms t ≡ Push → is_some (lookups.offer_of t) ≡ true
has_offer (forms.Push young aged want give junk) form = refl
has_offer (forms.Balanced nonce ha hb) form = absurd (cc)

is_some_if : (b : Bool) (o : Option Offer) → is_some o ≡ true → is_some (if b then o else None) ≡ b
is_some_if true o some = some
is_some_if false o some = refl

offer_by : (me : Member) (x : Exchange) (found : Option Kept) → IfSome found (IsKeptBy me x) → x.kind ≡ Push
    → is_some (option_and_then (λ kept. if_known (knows_offer kept.entry.role kept) lookups.offer_of kept) found)
    ≡ option_map_or (λ kept. knows_offer kept.entry.role kept) found false
offer_by me x None own push = refl
offer_by me x (Some kept) own push =
    is_some_if (knows_offer kept.entry.role kept) _ (has_offer (plain_terms kept.entry.terms) (own.form ∙ push))

pub offer_known : (me : Member) (k : Knowledge) (l : Ledger) (x : Exchange) → Recalls me k l → IsRecent me k x.round → x.kind ≡ Push
    → is_some (offer_of me k x) ≡ is_known_in knows_offer l x
offer_known me k l x h recent push = ap (λ o. is_some o) (h.offers x recent) ∙ offer_by me x (find_in l x) (h.kept x) push

-- ---- the reply

abbrev replied_to : Member → Knowledge → Exchange → Option Offer → Option Body
replied_to me k x o = option_and_then (reply_to me k x.round) o

-- if the offer isn't known, nothing is said
pub gives_none : (m : Memory) (x : Exchange)
    → 2 ≤ m.who.session.shape.life
    → ((k : Knowledge) → IsMemoryOf (member_of m.who) k m → IsRecent (member_of m.who) k x.round → x.kind ≡ Push
    → is_some (offer_of (member_of m.who) k x) ≡ false)
    → CarriesOut m m x false kinds.Reply
gives_none m x life lacking out lacks obeys holds own =
    go (offer_of me k x) refl (lacking k holds (recent_by_time me k kinds.Reply x.round life own.timely) own.answers.kind_is)
  where
    me : Member
    me = member_of m.who

    k : Knowledge
    k = known me out.state

    is : perform me out (order_by kinds.Reply x) ≡ say_new me out x (replied_to me k x (offer_of me k x))
    is =
        said_new me kinds.Reply x (replied_to me k x (offer_of me k x)) out _
        (λ i. say me out (answer_kind (own.answers.kind_is i)) x (answer_body me k x (own.answers.kind_is i)))
        (unsaid me k kinds.Reply x (λ me k x. refl) lacks)

    go : (o : Option Offer) → offer_of me k x ≡ o → is_some (offer_of me k x) ≡ false
        → IsCarriedOut me (say_of kinds.Reply x) out (perform me out (order_by kinds.Reply x)) false m
    go None e none = carried_not (say_of kinds.Reply x) out _ m holds (is ∙ (λ i. say_new me out x (replied_to me k x (e i))))
    go (Some q) e none = absurd (false≢true (sym none ∙ ap (λ o. is_some o) e))

-- if something of the offer is wanted, the REPLY is said; otherwise nothing is
pub gives_reply : (old m : Memory) (x : Exchange) (result : Bool) → EntryIsLearned → HasOtherLedger old m → 2 ≤ m.who.session.shape.life
    → ((k : Knowledge) → IsMemoryOf (member_of m.who) k old → IsRecent (member_of m.who) k x.round → x.kind ≡ Push
    → is_some (offer_of (member_of m.who) k x) ≡ true)
    → ((k : Knowledge) (d : Datagram) (q : Offer) → IsMemoryOf (member_of m.who) k old → IsSaidNow (member_of m.who) k d kinds.Reply x
    → offer_of (member_of m.who) k x ≡ Some q → reply_to (member_of m.who) k x.round q ≡ Some d.message.body
    → this_round k ≤ x.round + answer_deadline → (result ≡ true) × Learns m k d)
    → ((k : Knowledge) (q : Offer) → IsMemoryOf (member_of m.who) k old → offer_of (member_of m.who) k x ≡ Some q
    → reply_to (member_of m.who) k x.round q ≡ None → this_round k ≤ x.round + answer_deadline → (result ≡ false) × (m.ledger ≡ old.ledger))
    → CarriesOut old m x result kinds.Reply
gives_reply old m x result learned same life offered teach without out lacks obeys holds own =
    go (offer_of me k x) refl (offered k holds recent own.answers.kind_is)
  where
    me : Member
    me = member_of m.who

    k : Knowledge
    k = known me out.state

    recent : IsRecent me k x.round
    recent = recent_by_time me k kinds.Reply x.round life own.timely

    new : k.said kinds.Reply x (role_of me x) ≡ None
    new = unsaid me k kinds.Reply x (λ me k x. refl) lacks

    is : perform me out (order_by kinds.Reply x) ≡ say_new me out x (replied_to me k x (offer_of me k x))
    is =
        said_new me kinds.Reply x (replied_to me k x (offer_of me k x)) out _
        (λ i. say me out (answer_kind (own.answers.kind_is i)) x (answer_body me k x (own.answers.kind_is i)))
        new

    says : (q : Offer) → IsSaidNow me k (signed_in me out x (reply_body me k x.round q)) kinds.Reply x
    says q =
        says_now me k x (reply_body me k x.round q) kinds.Reply refl
        (ap (λ p. Some p) (placed me x Push Responder own.answers.kind_is own.answers.side own.ours))
        new
        recent

    by_want : (q : Offer) → offer_of me k x ≡ Some q → (wants : Bool) → nat_lt 0 (length (wanted_of me k q.0)) ≡ wants
        → IsCarriedOut me (say_of kinds.Reply x) out (perform me out (order_by kinds.Reply x)) result m
    by_want q e true w =
        let reply : reply_to me k x.round q ≡ Some (reply_body me k x.round q) = λ i. then_some (w i) (reply_body me k x.round q) in
        let some = teach k (signed_in me out x (reply_body me k x.round q)) q holds (says q) e reply own.answers.early in
        subst (λ (b : Bool). IsCarriedOut me (say_of kinds.Reply x) out (perform me out (order_by kinds.Reply x)) b m) (sym some.0)
        (carried_new kinds.Reply x (reply_body me k x.round q) out _ old m learned (λ me k x. refl) same holds (says q) some.1
        (is ∙ (λ i. say_new me out x (replied_to me k x (e i))) ∙ (λ i. say_new me out x (reply i))))
    by_want q e false w =
        let reply : reply_to me k x.round q ≡ None = λ i. then_some (w i) (reply_body me k x.round q) in
        let none = without k q holds e reply own.answers.early in
        subst (λ (b : Bool). IsCarriedOut me (say_of kinds.Reply x) out (perform me out (order_by kinds.Reply x)) b m) (sym none.0)
        (carried_not (say_of kinds.Reply x) out _ m (kept_memory me k old m holds same none.1)
        (is ∙ (λ i. say_new me out x (replied_to me k x (e i))) ∙ (λ i. say_new me out x (reply i))))

    go : (o : Option Offer) → offer_of me k x ≡ o → is_some (offer_of me k x) ≡ true
        → IsCarriedOut me (say_of kinds.Reply x) out (perform me out (order_by kinds.Reply x)) result m
    go None e some = absurd (false≢true (sym (ap (λ o. is_some o) e) ∙ some))
    go (Some q) e some = by_want q e (nat_lt 0 (length (wanted_of me k q.0))) refl

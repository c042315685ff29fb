-- Asking for an exchange: a REQUEST or a QUERY is sent again, or said for the first time.
use Rattle.std.proofs.Common.{◌≡◌, ◌∙◌, ◌≤◌, ◌+◌, ◌==◌, ℕ, Bool, true, false, is_some, ◌∷◌, Some, None, refl, sym, ap, subst, arith}
use Rattle.std.specs.Prelude.{option_map, if◌then◌else◌}
use Rattle.std.proofs.lemmas.Bool.Decides.{nat_tests}
use Rattle.bar_window.specs.declared.exchange.Exchange.{Exchange}
use Rattle.bar_window.specs.declared.exchange.Role.TheVariants.{Initiator, Responder}
use Rattle.bar_window.specs.declared.exchange.XKind.{XKind}
use Rattle.bar_window.specs.declared.exchange.XKind.TheVariants.{Balanced, Push}
use Rattle.bar_window.specs.Exchange.{party_on}
use Rattle.bar_wire.specs.Datagram.{Datagram, Body, kind_of, part_of, place_of, place_by}
use Rattle.bar_rules.specs.Member.{Member}
use Rattle.bar_rules.specs.Peer.Agreement.{IsRecent}
use Rattle.bar_rules.specs.Peer.Exchanges.{role_of, partner_in, request_kind}
use Rattle.bar_rules.specs.Peer.Knowledge.{Knowledge, known, this_round, answer_deadline}
use Rattle.bar_rules.specs.Peer.Log.{Said}
use Rattle.bar_rules.specs.Peer.Machine.{message_to}
use Rattle.bar_rules.specs.Peer.Orders.{Ask, ask_body}
use Rattle.bar_rules.specs.Peer.Rules.{IsObedient}
use Rattle.bar_rules.specs.Peer.Run.{Out, say_new, perform}
use Rattle.bar_laws.specs.Knowing.{EntryIsLearned}
use Rattle.bar_laws.specs.Rooms.{LogLeavesRoom}
use Rattle.bar_laws.specs.Soundness.{LogIsSound}
use Rattle.bar_exchange.specs.declared.say.Say.{Say}
use Rattle.bar_exchange.specs.Code.Keeping.{IsSaidNow, HasRoomLeft}
use Rattle.bar_peer.specs.declared.memory.Memory.{Memory}
use Rattle.bar_peer.specs.Code.Memory.{IsMemoryOf, Represents, member_of, HasOtherLedger}
use Rattle.bar_peer.specs.Code.Sending.{send_now, IsCarriedOut}
use Rattle.bar_peer.proofs.Replying.ByKind.{Learns, signed_in, said_new, says_now, carried_new}
use Rattle.bar_peer.proofs.Hearing.RoomLeft.{room-left, kept_asked}
use Rattle.bar_peer.proofs.Orders.CarryingOut.{IsToldAsSaid, say_of, said_again, unsaid, placed, first_said}

told_request : (kind : XKind) → IsToldAsSaid (request_kind kind)
told_request Balanced = λ me k x. refl
told_request Push = λ me k x. refl

pub asked_again : (x : Exchange) (out : Out) (m : Memory) → Represents out.state m
    → is_some (send_now (member_of m.who) (known (member_of m.who) out.state) (say_of (request_kind x.kind) x)) ≡ true
    → IsCarriedOut (member_of m.who) (say_of (request_kind x.kind) x) out (perform (member_of m.who) out (Ask x)) true m
asked_again x out m tells has =
    said_again (request_kind x.kind) x (Some (ask_body (member_of m.who) (known (member_of m.who) out.state) x x.kind)) out _ m
    (told_request x.kind)
    tells
    has
    refl

-- ---- for the first time

kind_asked : (me : Member) (k : Knowledge) (x : Exchange) (kind : XKind) → kind_of (ask_body me k x kind) ≡ request_kind kind
kind_asked me k x Balanced = refl
kind_asked me k x Push = refl

part_asked : (me : Member) (k : Knowledge) (x : Exchange) (kind : XKind) → part_of (ask_body me k x kind) ≡ Some (x.round, kind, Initiator)
part_asked me k x Balanced = refl
part_asked me k x Push = refl

initiated : (x : Exchange) (party : ℕ) (own : Bool) → (x.initiator == party) ≡ own → (if own then Initiator else Responder) ≡ Initiator
    → x.initiator ≡ party
initiated x party true is role = grind (arith, nat_tests, is)
initiated x party false is role = absurd (cc)

-- this member is on the initiator's side
ours_asked : (me : Member) (x : Exchange) → role_of me x ≡ Initiator → party_on x (role_of me x) ≡ me.party
ours_asked me x own = ap (party_on x) own ∙ initiated x me.party (x.initiator == me.party) refl own

-- An exchange of this round is asked for that wasn't before, with another ledger.
pub gives_request : (old m : Memory) (x : Exchange) → EntryIsLearned → LogLeavesRoom → LogIsSound → HasOtherLedger old m
    → ((k : Knowledge) (d : Datagram) → IsMemoryOf (member_of m.who) k old → IsSaidNow (member_of m.who) k d (request_kind x.kind) x
    → d.message.body ≡ ask_body (member_of m.who) k x x.kind → HasRoomLeft (member_of m.who) k → this_round k ≤ x.round + answer_deadline
    → Learns m k d)
    → (out : Out) → is_some (send_now (member_of m.who) (known (member_of m.who) out.state) (say_of (request_kind x.kind) x)) ≡ false
    → IsObedient (member_of m.who) (perform (member_of m.who) out (Ask x)).state
    → IsMemoryOf (member_of m.who) (known (member_of m.who) out.state) old
    → x.round ≡ this_round (known (member_of m.who) out.state) → role_of (member_of m.who) x ≡ Initiator
    → IsCarriedOut (member_of m.who) (say_of (request_kind x.kind) x) out (perform (member_of m.who) out (Ask x)) true m
gives_request old m x learned leaves sound same teach out lacks obeys holds now own =
    carried_new (request_kind x.kind) x body out _ old m learned (told_request x.kind) same holds says
    (teach k d holds says refl room (omega (arith, now)))
    is
  where
    me : Member
    me = member_of m.who

    k : Knowledge
    k = known me out.state

    body : Body
    body = ask_body me k x x.kind

    d : Datagram
    d = signed_in me out x body

    new : k.said (request_kind x.kind) x (role_of me x) ≡ None
    new = unsaid me k (request_kind x.kind) x (told_request x.kind) lacks

    is : perform me out (Ask x) ≡ say_new me out x (Some body)
    is = said_new me (request_kind x.kind) x (Some body) out _ refl new

    place : place_of (message_to me x body) ≡ Some (record { exchange = x; role = role_of me x })
    place =
        ap (option_map (place_by me.party (partner_in me x))) (part_asked me k x x.kind)
        ∙ ap (λ p. Some p) (placed me x x.kind Initiator refl own (ours_asked me x own))

    says : IsSaidNow me k d (request_kind x.kind) x
    says = says_now me k x body (request_kind x.kind) (kind_asked me k x x.kind) place new (omega (arith, now))

    said : (known me (Said d ∷ out.state)).said (request_kind x.kind) x (role_of me x) ≡ Some d
    said =
        (λ i. (learned me out.state (Said d) i).said (request_kind x.kind) x (role_of me x))
        ∙ first_said me k d (request_kind x.kind) x says

    room : HasRoomLeft me k
    room =
        room-left leaves sound me out.state (Said d) (subst (λ (o : Out). IsObedient me o.state) is obeys) x
        (kept_asked me k x own ∙ ap (λ o. is_some o) new)
        (kept_asked me (known me (Said d ∷ out.state)) x own ∙ ap (λ o. is_some o) said)

-- whether there is a request to send again
pub may_ask_again : (m : Memory) (x : Exchange) (say : Say) (may : Bool) (k : Knowledge) → say ≡ say_of (request_kind x.kind) x
    → ((k : Knowledge) → IsMemoryOf (member_of m.who) k m → IsRecent (member_of m.who) k say.x.round
    → may ≡ is_some (send_now (member_of m.who) k say))
    → IsMemoryOf (member_of m.who) k m → x.round ≡ this_round k
    → is_some (send_now (member_of m.who) k (say_of (request_kind x.kind) x)) ≡ may
may_ask_again m x say may k is tells h now =
    let told =
    subst
    (λ (say : Say).
    (k : Knowledge) → IsMemoryOf (member_of m.who) k m → IsRecent (member_of m.who) k say.x.round
    → may ≡ is_some (send_now (member_of m.who) k say))
    is
    tells
    in
    sym (told k h (omega (arith, now)))

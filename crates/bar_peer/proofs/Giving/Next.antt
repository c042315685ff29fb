-- The first order that is left, and its datagram.
use Rattle.std.proofs.Common.{◌≡◌, ◌∙◌, ℕ, List, Option, [], ◌∷◌, Some, None, sym, ap, refl, subst, take}
use Rattle.std.specs.Prelude.{option_map, map}
use Rattle.std.specs.List.{AllByRecursion}
use Rattle.bar_wire.specs.Datagram.{Datagram}
use Rattle.bar_wire.specs.Inputs.{Input}
use Rattle.bar_rules.specs.Member.{Member, IsMember}
use Rattle.bar_rules.specs.Values.{message_bytes}
use Rattle.bar_rules.specs.Peer.Exchanges.{partner_in}
use Rattle.bar_rules.specs.Peer.Knowledge.{Knowledge, known}
use Rattle.bar_rules.specs.Peer.Log.{Log}
use Rattle.bar_rules.specs.Peer.Run.{log_after}
use Rattle.bar_rules.specs.Peer.Writing.{body_now}
use Rattle.bar_laws.specs.Leaves.{LeafDiscipline}
use Rattle.bar_laws.specs.Obedience.{SignedByRule}
use Rattle.bar_laws.specs.Rewriting.{RunIsRewritten}
use Rattle.bar_laws.specs.Sizes.{LogKeepsShortEvidence}
use Rattle.bar_laws.specs.Soundness.{LogIsSound}
use Rattle.bar_exchange.specs.declared.say.Say.{Say}
use Rattle.bar_exchange.specs.Code.Writing.{IsWritten, bytes_to}
use Rattle.bar_peer.specs.declared.order.Order.{Order}
use Rattle.bar_peer.specs.declared.order.Order.TheVariants as queued
use Rattle.bar_peer.specs.Code.Giving.{IsDue, IsOrderDue, receiver_of}
use Rattle.bar_rules.specs.Code.Giving.{IsGiven}
use Rattle.bar_peer.specs.Code.Sending.{AreFor, IsOrderTimely, datagram_now, order_now, report_of}
use Rattle.bar_peer.proofs.Giving.Due.{AreLaws, due, map_some}

-- if nothing is to be sent, no orders are left
pub none_left : (me : Member) (k : Knowledge) (left new : List Order) (sends : List (ℕ × Datagram)) → left ≡ [] → new ≡ []
    → AreFor me k left sends → (sends ≡ []) × AreFor me k new []
none_left me k left new [] none empty h = (refl, record { same = ap (map (order_now me k)) empty; timely = rest })
  where
    rest : AllByRecursion (IsOrderTimely me k) new
    rest = subst (AllByRecursion (IsOrderTimely me k)) (sym empty) tt
none_left me k left new (send ∷ sends) none empty h =
    let is : [] ≡ Some send ∷ map Some sends = sym (ap (map (order_now me k)) none) ∙ h.same in absurd (cc)

-- The order's datagram is the first that is to be sent, and the others are left.
pub record IsNext (me : Member) (k : Knowledge) (order : Order) (left : List Order) (sends : List (ℕ × Datagram)) : Type 0 where
  pub given : Datagram
  pub rest : List (ℕ × Datagram)
  pub is : sends ≡ (receiver_of me order, given) ∷ rest
  pub due : IsOrderDue me k order given
  pub others : AreFor me k left rest

-- the laws hold of the log after any inputs
laws_of : (me : Member) (inputs : List Input) → IsMember me → LeafDiscipline → LogIsSound → SignedByRule → RunIsRewritten
    → LogKeepsShortEvidence → AreLaws me (log_after me [] inputs)
laws_of me inputs member leaves sound ruled rewritten short =
    let log = log_after me [] inputs in
    let obedient = (ruled me member inputs).obedient in
    record {
      obedient = obedient;
      sound = sound me log obedient;
      rewritten = rewritten me inputs;
      leaves = leaves me member inputs;
      evidence = λ party evidence kept. short me log party evidence member.session obedient kept;
      life = member.session.shape.life_low;
    }

-- The sent datagram is that of the order, with its receiver.
record IsSent (me : Member) (k : Knowledge) (order : Order) (send : ℕ × Datagram) : Type 0 where
  datagram : Datagram
  is : send ≡ (receiver_of me order, datagram)
  due : IsOrderDue me k order datagram

sent_by : (me : Member) (log : Log) (order : Order) (send : ℕ × Datagram) → AreLaws me log → IsOrderTimely me (known me log) order
    → order_now me (known me log) order ≡ Some send → IsSent me (known me log) order send
sent_by me log (queued.Say say) send laws timely now =
    let some = map_some (λ d. (partner_in me say.x, d)) (datagram_now me (known me log) say.kind say.x) send now in
    record { datagram = some.0; is = some.2; due = due me log say.kind say.x some.0 laws timely some.1 }
sent_by me log (queued.Report party) send laws timely now =
    let some = map_some {B = ℕ × Datagram} (λ evidence. (0, report_of me evidence)) ((known me log).evidence party) send now in
    record {
      datagram = report_of me some.0;
      is = some.2;
      due = record { evidence = some.0; kept = some.1; fits = laws.evidence party some.0 some.1; is = refl };
    }

next_by : (me : Member) (log : Log) (order : Order) (old left : List Order) (sends : List (ℕ × Datagram)) → AreLaws me log
    → old ≡ order ∷ left → AreFor me (known me log) old sends → IsNext me (known me log) order left sends
next_by me log order old left [] laws first h =
    let is : order_now me (known me log) order ∷ map (order_now me (known me log)) left ≡ [] =
    sym (ap (map (order_now me (known me log))) first) ∙ h.same
    in
    absurd (cc)
next_by me log order old left (send ∷ sends) laws first h =
    let k = known me log in
    let timely : AllByRecursion (IsOrderTimely me k) (order ∷ left) = subst (AllByRecursion (IsOrderTimely me k)) first h.timely in
    let same : order_now me k order ∷ map (order_now me k) left ≡ Some send ∷ map Some sends =
    sym (ap (map (order_now me k)) first) ∙ h.same
    in
    let now : order_now me k order ≡ Some send = cc in
    let later : map (order_now me k) left ≡ map Some sends = cc in
    let one = sent_by me log order send laws timely.0 now in
    record {
      given = one.datagram;
      rest = sends;
      is = ap (λ (s : ℕ × Datagram). s ∷ sends) one.is;
      due = one.due;
      others = record { same = later; timely = timely.1 };
    }

pub next_of : (me : Member) (inputs : List Input) → IsMember me → LeafDiscipline → LogIsSound → SignedByRule → RunIsRewritten
    → LogKeepsShortEvidence → (order : Order) (old left : List Order) (sends : List (ℕ × Datagram)) → old ≡ order ∷ left
    → AreFor me (known me (log_after me [] inputs)) old sends → IsNext me (known me (log_after me [] inputs)) order left sends
next_of me inputs member leaves sound ruled rewritten short order old left sends first h =
    next_by me (log_after me [] inputs) order old left sends (laws_of me inputs member leaves sound ruled rewritten short) first h

-- ---- writing

-- if a datagram is due, its message is written
pub written_is : (me : Member) (k : Knowledge) (say : Say) (d : Datagram) (n : ℕ) (out : List ℕ) → IsDue me k say d
    → IsWritten me say.x (body_now me k say.kind say.x) (Some n) out → take n out ≡ message_bytes me.session d.message
written_is me k say d n out h is =
    let both : Some (take n out) ≡ Some (bytes_to me say.x d.message.body) = is ∙ ap (option_map (bytes_to me say.x)) h.body in
    let bytes : take n out ≡ bytes_to me say.x d.message.body = cc in
    bytes ∙ ap (message_bytes me.session) (sym h.message)

-- so it is impossible that none is written
pub never_unwritten : (me : Member) (k : Knowledge) (say : Say) (d : Datagram) (out : List ℕ) → IsDue me k say d
    → IsWritten me say.x (body_now me k say.kind say.x) None out → ⊥
never_unwritten me k say d out h is =
    let both : None ≡ Some (bytes_to me say.x d.message.body) = is ∙ ap (option_map (bytes_to me say.x)) h.body in absurd (cc)

-- if a datagram is given, the result is a length
pub never_none : (me : Member) (d : Datagram) (result : Option ℕ) (buf : List ℕ) → IsGiven me.session d result buf
    → ((n : ℕ) → result ≡ Some n → ⊥) → ⊥
never_none me d None buf h not = h
never_none me d (Some n) buf h not = not n refl

-- A ledger has room as long as fewer exchanges are remembered than it has slots.
use Rattle.std.proofs.Common.{◌≡◌, ◌∙◌, ◌+◌, ◌*◌, ◌<◌, Bool, true, ◌&&◌, is_some, length, sym, ap, subst}
use Rattle.std.specs.List.{IsDistinct, list_all}
use Rattle.std.proofs.lemmas.Bool.{and_from, le-leb}
use Rattle.bar_window.specs.declared.exchange.Exchange.{Exchange}
use Rattle.bar_window.specs.declared.exchange.Role.{Role}
use Rattle.bar_window.specs.declared.exchange.Role.TheVariants.{Initiator, Responder}
use Rattle.bar_window.specs.declared.exchange.XKind.{XKind}
use Rattle.bar_window.specs.declared.exchange.XKind.TheVariants.{Balanced, Push}
use Rattle.bar_window.specs.Exchange.{same_exchange, same_role}
use Rattle.bar_wire.specs.Limits.{exchanges_a_round}
use Rattle.bar_wire.specs.declared.kind.Kind.TheVariants as kinds
use Rattle.bar_wire.specs.declared.shape.Shape.{Shape}
use Rattle.bar_rules.specs.Member.{Member}
use Rattle.bar_rules.specs.Peer.Exchanges.{role_of, request_kind, opening_kind}
use Rattle.bar_rules.specs.Peer.Knowledge.{Knowledge}
use Rattle.bar_ledger.specs.declared.entry.Entry.{Entry}
use Rattle.bar_ledger.specs.declared.ledger.Ledger.{Ledger}
use Rattle.bar_ledger.specs.Code.Hearing.{same_datagram}
use Rattle.bar_ledger.specs.Code.Kept.{Kept}
use Rattle.bar_ledger.specs.Code.Lookups.{is_said, seat_by}
use Rattle.bar_ledger.specs.Code.Memory.{find_in, kept_in}
use Rattle.bar_ledger.specs.Code.Recalls.{Recalls}
use Rattle.bar_exchange.specs.Code.Keeping.{HasRoomLeft, is_remembered, is_asked_by}
use Rattle.bar_exchange.proofs.KeptChanges.{IsThere, there}

said_first : (kind : XKind) (e : Entry) → e.x.kind ≡ kind → e.role ≡ Initiator → e.first_said ≡ true → is_said (request_kind kind) e ≡ true
said_first Balanced e kind role first = λ i. same_datagram kinds.Request (opening_kind (kind i) (role i)) && first i
said_first Push e kind role first = λ i. same_datagram kinds.Query (opening_kind (kind i) (role i)) && first i

-- a kept exchange was asked for
asked_for : (me : Member) (k : Knowledge) (l : Ledger) (x : Exchange) (kept : Kept) → IsThere me k l x kept → (role : Role) → kept.entry.role ≡ role → is_asked_by role k x ≡ true
asked_for me k l x kept at Initiator role =
    at.one.said (request_kind x.kind) Initiator
    ∙ (λ i. same_role Initiator (role i) && said_first x.kind kept.entry (ap (λ (x : Exchange). x.kind) at.named) role (at.by.asked role) i)
asked_for me k l x kept at Responder role = ap (λ o. is_some o) (at.one.seats ∙ ap (λ r. seat_by r kept.entry.seat) role)

pub remembered : (me : Member) (k : Knowledge) (l : Ledger) → Recalls me k l → (x : Exchange) → is_some (find_in l x) ≡ true → is_remembered me k x ≡ true
remembered me k l h x some =
    let at = there me k l x h some in
    and_from _ _ (le-leb _ _ at.1.recent) (asked_for me k l x at.0 at.1 (role_of me x) at.1.by.side)

pub room_left : (me : Member) (k : Knowledge) (l : Ledger) → Recalls me k l → HasRoomLeft me k → IsDistinct same_exchange (kept_in l)
    → ((test : Exchange → Bool) → ((x : Exchange) → is_some (find_in l x) ≡ true → test x ≡ true) → list_all test (kept_in l) ≡ true)
    → length (kept_in l) < exchanges_a_round * (l.shape.life + 2)
room_left me k l h room distinct each =
    subst (λ (s : Shape). length (kept_in l) < exchanges_a_round * (s.life + 2)) (sym h.shape) (room (kept_in l) distinct (each (is_remembered me k) (remembered me k l h)))

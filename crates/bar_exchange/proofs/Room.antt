-- Kept exchanges were asked for, so there is room for one more exchange.
use Rattle.std.proofs.Common.{◌≡◌, ◌+◌, ◌*◌, Bool, true, length, is_some, sym, ap, ◌∙◌}
use Rattle.std.specs.Prelude.{nat_lt}
use Rattle.std.specs.List.{IsDistinct, list_all}
use Rattle.std.proofs.lemmas.Bool.{and_parts, false≢true, lt-ltb}
use Rattle.bar_window.specs.declared.exchange.Exchange.{Exchange}
use Rattle.bar_window.specs.declared.exchange.Role.TheVariants.{Initiator}
use Rattle.bar_window.specs.Exchange.{same_exchange}
use Rattle.bar_wire.specs.Datagram.{Datagram}
use Rattle.bar_wire.specs.Limits.{exchanges_a_round}
use Rattle.bar_rules.specs.Member.{Member}
use Rattle.bar_rules.specs.Peer.Exchanges.{role_of, request_kind}
use Rattle.bar_rules.specs.Peer.Knowledge.{Knowledge}
use Rattle.bar_ledger.specs.declared.ledger.Ledger.{Ledger}
use Rattle.bar_ledger.specs.Code.Memory.{find_in, kept_in}
use Rattle.bar_ledger.specs.Code.Recalls.{Recalls}
use Rattle.bar_exchange.specs.Code.Keeping.{IsSaidNow, HasRoomLeft, is_asked_by}
use Rattle.bar_exchange.proofs.RoomLeft.{remembered, room_left}

-- if the knowledge leaves room, the ledger has room
pub has_room : (me : Member) (k : Knowledge) (l : Ledger) → Recalls me k l → HasRoomLeft me k → IsDistinct same_exchange (kept_in l)
    → ((test : Exchange → Bool) → ((x : Exchange) → is_some (find_in l x) ≡ true → test x ≡ true) → list_all test (kept_in l) ≡ true)
    → nat_lt (length (kept_in l)) (exchanges_a_round * (l.shape.life + 2)) ≡ true
has_room me k l h left distinct each =
    lt-ltb _ _ (room_left me k l h left distinct each)

-- an exchange that this peer asks for now isn't kept yet
pub not_kept : (me : Member) (k : Knowledge) (d : Datagram) (x : Exchange) (l : Ledger) → Recalls me k l → IsSaidNow me k d (request_kind x.kind) x
    → role_of me x ≡ Initiator → is_some (find_in l x) ≡ true → ⊥
not_kept me k d x l h s own some =
    let asked : is_asked_by (role_of me x) k x ≡ true = (and_parts _ _ (remembered me k l h x some)).1 in
    let said : is_asked_by Initiator k x ≡ true = ap (λ role. is_asked_by role k x) (sym own) ∙ asked in
    false≢true (sym (ap (λ o. is_some o) (ap (k.said (request_kind x.kind) x) (sym own) ∙ s.new)) ∙ said)

-- If an entry of a log makes an exchange kept, there was room for it.
use Rattle.std.proofs.Common.{◌≡◌, ◌∙◌, ℕ, zero, suc, ◌<◌, Bool, true, false, is_some, List, [], ◌∷◌, Option, Some, None, refl, sym, ap, arith}
use Rattle.std.specs.Prelude.{option_and_then}
use Rattle.std.specs.List.{list_all}
use Rattle.std.proofs.lemmas.Bool.{and_parts, and_from, false≢true}
use Rattle.bar_window.specs.declared.exchange.Exchange.{Exchange}
use Rattle.bar_window.specs.declared.exchange.Role.{Role}
use Rattle.bar_window.specs.declared.exchange.Role.TheVariants.{Initiator, Responder}
use Rattle.bar_wire.specs.Limits.{seats_a_round}
use Rattle.bar_rules.specs.Member.{Member}
use Rattle.bar_rules.specs.Peer.Exchanges.{role_of, request_kind}
use Rattle.bar_rules.specs.Peer.Knowledge.{Knowledge, known, has_said_of}
use Rattle.bar_rules.specs.Peer.Log.{Log, Entry}
use Rattle.bar_rules.specs.Peer.Rules.{IsObedient}
use Rattle.bar_laws.specs.Rooms.{Own, asking_at, asking_of, is_kept, is_recent, LogLeavesRoom}
use Rattle.bar_laws.specs.Soundness.{IsSound, LogIsSound}
use Rattle.bar_exchange.specs.Code.Keeping.{HasRoomLeft, is_asked_by, is_remembered}
use Rattle.bar_bytes.proofs.Options.{some-then, some-mapped}

each_more : {X : Type 0} (p q : X → Bool) → ((x : X) → p x ≡ true → q x ≡ true) → (xs : List X) → list_all p xs ≡ true
    → list_all q xs ≡ true
each_more p q h [] all = refl
each_more p q h (x ∷ xs) all =
    and_from _ _ (h x (and_parts (p x) (list_all p xs) all).0) (each_more p q h xs (and_parts (p x) (list_all p xs) all).1)

has_asking : (n : ℕ) → n < 2 → is_some (asking_at n) ≡ true
has_asking zero low = refl
has_asking (suc zero) low = refl
has_asking (suc (suc n)) low = absurd (omega (arith, low))

seat_asking : (o : Option ℕ) → ((n : ℕ) → o ≡ Some n → n < seats_a_round) → is_some o ≡ true → is_some (option_and_then asking_at o) ≡ true
seat_asking None low some = absurd (false≢true some)
seat_asking (Some n) low some = has_asking n (low n refl)

pub asking_by : (me : Member) (k : Knowledge) → IsSound me k → (x : Exchange) (role : Role) → is_asked_by role k x ≡ true
    → is_some (asking_of k x role) ≡ true
asking_by me k s x Initiator asked = some-then (has_said_of k (request_kind x.kind) x Initiator) Own ∙ asked
asking_by me k s x Responder asked = seat_asking (k.seat x) (s.seats x) asked

recent_by : (me : Member) (k : Knowledge) → IsSound me k → (x : Exchange) → is_remembered me k x ≡ true → is_recent me k x ≡ true
recent_by me k s x h =
    let parts = and_parts _ (is_asked_by (role_of me x) k x) h in
    and_from _ _ parts.0 (some-mapped _ (asking_of k x (role_of me x)) ∙ asking_by me k s x (role_of me x) parts.1)

-- this holds for every allowed entry after which the exchange is kept and before which it wasn't
pub room-left : LogLeavesRoom → LogIsSound → (me : Member) (log : Log) (e : Entry) → IsObedient me (e ∷ log) → (x : Exchange)
    → is_kept me (known me log) x ≡ false → is_kept me (known me (e ∷ log)) x ≡ true → HasRoomLeft me (known me log)
room-left leaves sound me log e obeys x before after xs distinct all =
    let s : IsSound me (known me log) = sound me log obeys.1 in
    leaves me log e obeys x before after xs distinct
    (each_more (is_remembered me (known me log)) (is_recent me (known me log)) (recent_by me (known me log) s) xs all)

-- an exchange that this member may ask for is kept if and only if its request was said
pub kept_asked : (me : Member) (k : Knowledge) (x : Exchange) → role_of me x ≡ Initiator
    → is_kept me k x ≡ has_said_of k (request_kind x.kind) x (role_of me x)
kept_asked me k x own =
    some-mapped _ (asking_of k x (role_of me x))
    ∙ ap (λ (role : Role). is_some (asking_of k x role)) own
    ∙ some-then (has_said_of k (request_kind x.kind) x Initiator) Own
    ∙ ap (λ (role : Role). has_said_of k (request_kind x.kind) x role) (sym own)

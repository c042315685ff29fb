-- The part of a peer's knowledge that a ledger holds.
use Rattle.std.specs.Prelude.{◌≡◌, ℕ, ◌+◌, ◌≤◌, ◌&&◌, Bool, false, List, Option, Some, None, option_and_then, is_some, if◌then◌else◌}
use Rattle.std.specs.Option.{option_map_or}
use Rattle.bar_window.specs.declared.update.UpdateId.{UpdateId}
use Rattle.bar_window.specs.declared.exchange.Exchange.{Exchange}
use Rattle.bar_window.specs.declared.exchange.Role.{Role}
use Rattle.bar_window.specs.declared.exchange.Role.TheVariants.{Initiator, Responder}
use Rattle.bar_window.specs.declared.exchange.XKind.{XKind}
use Rattle.bar_window.specs.Exchange.{same_role, other_role}
use Rattle.bar_window.specs.Terms.{Terms, Balanced, Push, plain_terms}
use Rattle.bar_wire.specs.declared.kind.Kind.{Kind}
use Rattle.bar_wire.specs.declared.kind.Kind.TheVariants as kinds
use Rattle.bar_rules.specs.Member.{Session}
use Rattle.bar_rules.specs.Peer.Exchanges.{opening_kind, recent_of}
use Rattle.bar_ledger.specs.declared.entry.Entry.{Entry}
use Rattle.bar_ledger.specs.declared.ledger.Ledger.{Ledger}
use Rattle.bar_ledger.specs.Code.Hearing.{same_datagram}
use Rattle.bar_ledger.specs.Code.Kept.{Kept, heard_of}
use Rattle.bar_ledger.specs.Code.Memory.{find_in, asked_in, opens_in}

-- ---- what was heard and said, by kind, exchange and side

abbrev pub heard_by : Kind → Role → Kept → Option (List ℕ)
heard_by kind role k = if same_role role (other_role k.entry.role) then heard_of kind k else None

-- the bytes of the datagram of a kind that was heard from a side
abbrev pub heard_in : Ledger → Kind → Exchange → Role → Option (List ℕ)
heard_in l kind x role = option_and_then (heard_by kind role) (find_in l x)

-- whether this peer said its datagram of a kind: a CASE, a KEY, or its first signed datagram
abbrev pub is_said : Kind → Entry → Bool
is_said kinds.Case e = e.case_said
is_said kinds.Key e = e.key_said
is_said kind e = same_datagram kind (opening_kind e.x.kind e.role) && e.first_said

abbrev pub said_by : Kind → Role → Kept → Bool
said_by kind role k = same_role role k.entry.role && is_said kind k.entry

-- whether this peer said the datagram of a kind, on a side
abbrev pub said_in : Ledger → Kind → Exchange → Role → Bool
said_in l kind x role = option_map_or (said_by kind role) (find_in l x) false

-- ---- seats

abbrev pub seat_by : Role → ℕ → Option ℕ
seat_by Initiator seat = None
seat_by Responder seat = Some seat

-- the responder's seat in an exchange
abbrev pub seat_of : Ledger → Exchange → Option ℕ
seat_of l x = option_and_then (λ k. seat_by k.entry.role k.entry.seat) (find_in l x)

-- ---- the parts of the terms that are known

-- whether the initiator's part is known: this peer's own after its request, or the partner's from the DIVULGE
abbrev pub knows_commit : Role → Kept → Bool
knows_commit Initiator k = k.entry.first_said
knows_commit Responder k = is_some k.divulge

-- whether the responder's part is known
abbrev pub knows_answer : Role → Kept → Bool
knows_answer Initiator k = is_some k.first
knows_answer Responder k = k.entry.first_said

-- whether the offer of a push is known
abbrev pub knows_offer : Role → Kept → Bool
knows_offer Initiator k = k.entry.first_said
knows_offer Responder k = is_some k.first

-- whether both sides' parts are known
abbrev pub complete_by : Role → Kept → Bool
complete_by role k = k.entry.complete

-- whether a part of the terms of an exchange is known
abbrev pub is_known_in : (Role → Kept → Bool) → Ledger → Exchange → Bool
is_known_in knows l x = option_map_or (λ k. knows k.entry.role k) (find_in l x) false

abbrev pub commit_of : Terms → Option (List ℕ × List UpdateId)
commit_of (Balanced nonce ha hb) = Some (nonce, ha)
commit_of (Push young aged want give junk) = None

abbrev pub history_of : Terms → Option (List UpdateId)
history_of (Balanced nonce ha hb) = Some hb
history_of (Push young aged want give junk) = None

abbrev pub offer_of : Terms → Option (List UpdateId × List UpdateId)
offer_of (Balanced nonce ha hb) = None
offer_of (Push young aged want give junk) = Some (young, aged)

abbrev pub reply_of : Terms → Option (List UpdateId × List UpdateId × ℕ)
reply_of (Balanced nonce ha hb) = None
reply_of (Push young aged want give junk) = Some (want, give, junk)

abbrev pub if_known : {X : Type 0} → Bool → (Terms → Option X) → Kept → Option X
if_known known part k = if known then part (plain_terms k.entry.terms) else None

-- the nonce and the history that the initiator commits to
abbrev pub revealed_in : Ledger → Exchange → Option (List ℕ × List UpdateId)
revealed_in l x = option_and_then (λ k. if_known (knows_commit k.entry.role k) commit_of k) (find_in l x)

-- the responder's history, from its RESPONSE
abbrev pub answer_in : Ledger → Exchange → Option (List UpdateId)
answer_in l x = option_and_then (λ k. if_known (knows_answer k.entry.role k) history_of k) (find_in l x)

-- the young updates that a QUERY offers and the aged ones that it asks for
abbrev pub offer_in : Ledger → Exchange → Option (List UpdateId × List UpdateId)
offer_in l x = option_and_then (λ k. if_known (knows_offer k.entry.role k) offer_of k) (find_in l x)

-- what a REPLY wants and gives, and its junk
abbrev pub reply_in : Ledger → Exchange → Option (List UpdateId × List UpdateId × ℕ)
reply_in l x = option_and_then (λ k. if_known (knows_answer k.entry.role k) reply_of k) (find_in l x)

-- ---- forgetting

-- A look-up has the same result for each exchange that may still be asked about.
abbrev pub SameRecent : {X : Type 0} → ℕ → ℕ → (Exchange → X) → (Exchange → X) → Type 0
SameRecent life now old new = (x : Exchange) → now ≤ x.round + life → new x ≡ old x

-- For exchanges and rounds that may still be asked about, the new ledger gives the same as the old one. Its open exchanges are those of the
-- old one that may still be asked about.
pub record KeepsRecent (old new : Ledger) (now : ℕ) : Type 0 where
  pub heard : (kind : Kind) (role : Role) → SameRecent old.shape.life now (λ x. heard_in old kind x role) (λ x. heard_in new kind x role)
  pub said : (kind : Kind) (role : Role) → SameRecent old.shape.life now (λ x. said_in old kind x role) (λ x. said_in new kind x role)
  pub seats : SameRecent old.shape.life now (seat_of old) (seat_of new)
  pub asked : (kind : XKind) (round : ℕ) → now ≤ round + old.shape.life → asked_in new kind round ≡ asked_in old kind round
  pub revealed : SameRecent old.shape.life now (revealed_in old) (revealed_in new)
  pub answers : SameRecent old.shape.life now (answer_in old) (answer_in new)
  pub offers : SameRecent old.shape.life now (offer_in old) (offer_in new)
  pub replies : SameRecent old.shape.life now (reply_in old) (reply_in new)
  pub opens : (s : Session) → s.shape.life ≡ old.shape.life → opens_in new ≡ recent_of s now (opens_in old)

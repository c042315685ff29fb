-- How an admitted datagram changes the kept state of its exchange.
use Rattle.std.specs.Prelude.{◌≡◌, ℕ, Bool, false, List, option_map, if◌then◌else◌}
use Rattle.bar_window.specs.declared.exchange.Exchange.{Exchange}
use Rattle.bar_window.specs.declared.exchange.Role.TheVariants.{Responder}
use Rattle.bar_window.specs.declared.exchange.XKind.{XKind}
use Rattle.bar_window.specs.declared.terms.Terms.{Terms}
use Rattle.bar_window.specs.Exchange.{same_exchange}
use Rattle.bar_wire.specs.declared.kind.Kind.{Kind}
use Rattle.bar_ledger.specs.declared.entry.Entry.{Entry}
use Rattle.bar_ledger.specs.declared.ledger.Ledger.{Ledger}
use Rattle.bar_ledger.specs.Code.Kept.{Kept, with_bytes}
use Rattle.bar_ledger.specs.Code.Memory.{HasSame, find_in, asked_in, opens_in}

-- the kept state, with other terms
abbrev pub with_terms : Terms → Bool → Kept → Kept
with_terms terms full k = record k { entry = record k.entry { terms = terms; complete = full } }

-- the kept state, with one more datagram that was heard and the terms including its part
abbrev pub with_heard_part : Kind → List ℕ → Terms → Bool → Kept → Kept
with_heard_part kind bytes terms full k = with_terms terms full (with_bytes kind bytes k)

-- The kept state of one exchange changes, and the others don't.
pub record ChangesKept (old new : Ledger) (x : Exchange) (change : Kept → Kept) : Type 0 where
  pub found : (y : Exchange) → find_in new y ≡ (if same_exchange x y then option_map change (find_in old y) else find_in old y)
  pub asked : (kind : XKind) (round : ℕ) → asked_in new kind round ≡ asked_in old kind round
  pub opens : opens_in new ≡ opens_in old
  pub same : HasSame old new

-- the entry of an exchange that this peer was asked for, before anything is said in it
abbrev pub asked_entry : Exchange → ℕ → Terms → Entry
asked_entry x seat terms = record {
  x = x;
  role = Responder;
  seat = seat;
  terms = terms;
  complete = false;
  first_said = false;
  case_said = false;
  key_said = false;
}

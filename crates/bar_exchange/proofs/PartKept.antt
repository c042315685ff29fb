-- The kept state of an exchange with a part of its terms.
use Rattle.std.specs.Prelude.{nat_le, option_copied, option_map, if◌then◌else◌}
use Rattle.std.specs.Borrow.{Bor}
use Rattle.std.proofs.lemmas.Bool.{leb-true}
use Rattle.std.proofs.lemmas.Option.{none-some, same_Some}
use Rattle.std.proofs.Common.{◌≡◌, ◌≤◌, ◌+◌, None, arith, ◌∙◌, ℕ, Bool, true, false, ◌&&◌, List, Option, Some, refl, sym, ap}
use Rattle.bar_window.specs.declared.exchange.Exchange.{Exchange}
use Rattle.bar_window.specs.declared.exchange.Role.{Role}
use Rattle.bar_window.specs.declared.terms.Terms.{Terms}
use Rattle.bar_window.specs.Exchange.{same_role}
use Rattle.bar_window.specs.Terms.{plain_terms}
use Rattle.bar_wire.specs.declared.kind.Kind.{Kind}
use Rattle.bar_wire.specs.Code.Views.{AreTermWindows}
use Rattle.bar_rules.specs.Member.{Member}
use Rattle.bar_rules.specs.Peer.Agreement.{IsRecent}
use Rattle.bar_rules.specs.Peer.Knowledge.{Knowledge, this_round}
use Rattle.bar_ledger.specs.declared.entry.Entry.{Entry}
use Rattle.bar_ledger.specs.declared.ledger.Ledger.{Ledger}
use Rattle.bar_ledger.specs.Code.Kept.{Kept, with_bytes}
use Rattle.bar_ledger.specs.Code.Lookups.{is_said, said_by}
use Rattle.bar_ledger.specs.Code.Memory.{MayHear, find_in}
use Rattle.bar_ledger.specs.Code.Recalls.{IsKeptBy, kind_of_terms}
use Rattle.bar_ledger.proofs.Changes.{bytes-entry}
use Rattle.bar_exchange.specs.Code.Parts.{with_heard_part}
use Rattle.bar_exchange.proofs.Hearing.{keeps_bytes}
use Rattle.bar_exchange.proofs.Rooms.{KeepsBytes, terms_heard, terms_said}

pub keeps_part : (l : Ledger) (x : Exchange) (kind : Kind) (bytes : List ℕ) (terms : Terms) (full : Bool) (kept : Kept) → MayHear l x kind bytes → find_in l x ≡ Some kept
    → KeepsBytes kind bytes kept (with_heard_part kind bytes terms full kept)
keeps_part l x kind bytes terms full kept may found =
    let k = keeps_bytes l x kind bytes kept may found in
    record { role = k.role; heard = λ other. terms_heard terms full (with_bytes kind bytes kept) other ∙ k.heard other }

-- what was said is unchanged
pub part_said : (kind : Kind) (bytes : List ℕ) (terms : Terms) (full : Bool) (kept : Kept) (other : Kind) (role : Role)
    → said_by other role (with_heard_part kind bytes terms full kept) ≡ said_by other role kept
part_said kind bytes terms full kept other role =
    let same : (with_bytes kind bytes kept).entry ≡ kept.entry = bytes-entry kind bytes kept in
    (λ i. same_role role (same i).role && is_said other (record (same i) { terms = terms; complete = full }))
    ∙ ap (λ b. same_role role kept.entry.role && b) (terms_said terms full kept.entry other)

pub part_by : (me : Member) (x : Exchange) (kind : Kind) (bytes : List ℕ) (terms : Terms) (full : Bool) (kept : Kept) → IsKeptBy me x kept → kind_of_terms (plain_terms terms) ≡ x.kind
    → AreTermWindows me.session.shape x.round terms → IsKeptBy me x (with_heard_part kind bytes terms full kept)
part_by me x kind bytes terms full kept by form windows =
    let same : (with_bytes kind bytes kept).entry ≡ kept.entry = bytes-entry kind bytes kept in
    record {
      side = ap (λ (e : Entry). e.role) same ∙ by.side;
      form = form;
      windows = windows;
      asked = λ r. ap (λ (e : Entry). e.first_said) same ∙ by.asked (ap (λ (e : Entry). e.role) (sym same) ∙ r);
      opened = λ r. ap (λ (e : Entry). e.first_said) same ∙ by.opened (ap (λ (e : Entry). e.case_said) (sym same) ∙ r);
    }

-- ---- the entry that is found

pub entry_is : (l : Ledger) (x : Exchange) (e : Entry) (kept : Kept) → Some e ≡ option_map (λ (k : Kept). k.entry) (find_in l x) → find_in l x ≡ Some kept → kept.entry ≡ e
entry_is l x e kept is found = same_Some _ _ (sym (is ∙ ap (option_map (λ (k : Kept). k.entry)) found))

-- a kept exchange has an entry
pub no_entry : (r : Option (Bor Entry)) (o : Option Kept) (kept : Kept) → option_copied r ≡ option_map (λ (k : Kept). k.entry) o → ((b : Bor Entry) → r ≡ Some b → ⊥) → o ≡ Some kept → ⊥
no_entry None o kept e none found = none-some kept.entry (e ∙ ap (option_map (λ (k : Kept). k.entry)) found)
no_entry (Some b) o kept e none found = none b refl

-- ---- the known parts

-- the result is `None` whether a part of the other kind of exchange is known or not
pub none_either : {A : Type 0} (b : Bool) → ◌≡◌ {A = Option A} (if b then None else None) None
none_either true = refl
none_either false = refl

-- if a message may come two rounds late, its exchange may still be asked about
pub is_near : (me : Member) (k : Knowledge) (x : Exchange) → 2 ≤ me.session.shape.life → nat_le (this_round k) (x.round + 2) ≡ true → IsRecent me k x.round
is_near me k x life e = let by : this_round k ≤ x.round + 2 = leb-true _ _ e in omega (arith, by, life)

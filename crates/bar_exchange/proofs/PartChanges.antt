-- A datagram is heard, and then its part of the terms is set.
use Rattle.std.proofs.Common.{◌≡◌, ◌∙◌, ℕ, Bool, true, List, Option, Some, None, refl, sym, ap, subst, inl, inr}
use Rattle.std.specs.Prelude.{option_map, IfSome, if◌then◌else◌}
use Rattle.std.proofs.lemmas.Bool.{cases_Bool}
use Rattle.std.proofs.lemmas.Option.{none-some, same_Some}
use Rattle.bar_window.specs.declared.exchange.Exchange.{Exchange}
use Rattle.bar_window.specs.declared.exchange.XKind.{XKind}
use Rattle.bar_window.specs.declared.terms.Terms.{Terms}
use Rattle.bar_window.specs.Exchange.{same_exchange}
use Rattle.bar_window.proofs.Exchanges.{same_exchange-is}
use Rattle.bar_wire.specs.declared.kind.Kind.{Kind}
use Rattle.bar_ledger.specs.declared.entry.Entry.{Entry}
use Rattle.bar_ledger.specs.declared.ledger.Ledger.{Ledger}
use Rattle.bar_ledger.specs.Code.Kept.{Kept, IsKeptFor, with_bytes, with_new}
use Rattle.bar_ledger.specs.Code.Memory.{HasSame, IsAsBefore, find_in, asked_in, opens_in}
use Rattle.bar_exchange.specs.Code.Parts.{ChangesKept, with_heard_part}

-- The entry that is found gets other terms.
pub record SetsTerms (old new : Ledger) (x : Exchange) (e set : Entry) : Type 0 where
  pub entry : Some e ≡ option_map (λ (k : Kept). k.entry) (find_in old x)
  pub own : IfSome (find_in old x) (IsKeptFor x old.shape.life old.round)
  pub found : (y : Exchange) → find_in new y ≡ (if same_exchange set.x y then option_map (with_new set) (find_in old y) else find_in old y)
  pub counted : IfSome (find_in old set.x) (IsAsBefore set) → (kind : XKind) (round : ℕ) → asked_in new kind round ≡ asked_in old kind round
  pub opened : IfSome (find_in old set.x) (IsAsBefore set) → opens_in new ≡ opens_in old
  pub same : HasSame old new

is_named : (x : Exchange) (life now : ℕ) (e : Entry) (o : Option Kept) → Some e ≡ option_map (λ (k : Kept). k.entry) o → IfSome o (IsKeptFor x life now) → e.x ≡ x
is_named x life now e None is own = absurd (none-some e (sym is))
is_named x life now e (Some k) is own = ap (λ (e : Entry). e.x) (same_Some _ _ is) ∙ own.named

is_before : (e : Entry) (terms : Terms) (full : Bool) (o : Option Kept) → Some e ≡ option_map (λ (k : Kept). k.entry) o → IfSome o (IsAsBefore (record e { terms = terms; complete = full }))
is_before e terms full None is = tt
is_before e terms full (Some k) is =
    let same : e ≡ k.entry = same_Some _ _ is in
    record { side = ap (λ (e : Entry). e.role) same; said = ap (λ (e : Entry). e.first_said) same }

same_part : (kind : Kind) (bytes : List ℕ) (terms : Terms) (full : Bool) (e : Entry) (o : Option Kept) → Some e ≡ option_map (λ (k : Kept). k.entry) (option_map (with_bytes kind bytes) o)
    → option_map (with_new (record e { terms = terms; complete = full })) (option_map (with_bytes kind bytes) o) ≡ option_map (with_heard_part kind bytes terms full) o
same_part kind bytes terms full e None is = refl
same_part kind bytes terms full e (Some k) is =
    let same : e ≡ (with_bytes kind bytes k).entry = same_Some _ _ is in
    λ i. Some (record (with_bytes kind bytes k) { entry = record (same i) { terms = terms; complete = full } })

pub part_changes : (old heard new : Ledger) (x : Exchange) (kind : Kind) (bytes : List ℕ) (terms : Terms) (full : Bool) (e : Entry) → ChangesKept old heard x (with_bytes kind bytes)
    → SetsTerms heard new x e (record e { terms = terms; complete = full }) → ChangesKept old new x (with_heard_part kind bytes terms full)
part_changes old heard new x kind bytes terms full e h s = record {
  found = found;
  asked = λ xkind round. s.counted before xkind round ∙ h.asked xkind round;
  opens = s.opened before ∙ h.opens;
  same = record { me = s.same.me ∙ h.same.me; cap = s.same.cap ∙ h.same.cap; shape = s.same.shape ∙ h.same.shape; round = s.same.round ∙ h.same.round };
}
  where
    after : Entry
    after = record e { terms = terms; complete = full }

    named : e.x ≡ x
    named = is_named x heard.shape.life heard.round e (find_in heard x) s.entry s.own

    before : IfSome (find_in heard e.x) (IsAsBefore (record e { terms = terms; complete = full }))
    before = subst (λ z. IfSome (find_in heard z) (IsAsBefore (record e { terms = terms; complete = full }))) (sym named) (is_before e terms full (find_in heard x) s.entry)

    here : same_exchange x x ≡ true → find_in heard x ≡ option_map (with_bytes kind bytes) (find_in old x)
    here same = h.found x ∙ ap (λ b. if b then option_map (with_bytes kind bytes) (find_in old x) else find_in old x) same

    this : same_exchange x x ≡ true → find_in new x ≡ option_map (with_heard_part kind bytes terms full) (find_in old x)
    this same =
        s.found x
        ∙ ap (λ b. if b then option_map (with_new (record e { terms = terms; complete = full })) (find_in heard x) else find_in heard x) (ap (λ z. same_exchange z x) named ∙ same)
        ∙ ap (option_map (with_new (record e { terms = terms; complete = full }))) (here same)
        ∙ same_part kind bytes terms full e (find_in old x) (s.entry ∙ ap (option_map (λ (k : Kept). k.entry)) (here same))

    found : (y : Exchange) → find_in new y ≡ (if same_exchange x y then option_map (with_heard_part kind bytes terms full) (find_in old y) else find_in old y)
    found y = elim (cases_Bool (same_exchange x y)) [
      | inl t ↦
          let one : x ≡ y = same_exchange-is x y t in
          subst (λ y. find_in new y ≡ option_map (with_heard_part kind bytes terms full) (find_in old y)) one (this (subst (λ z. same_exchange x z ≡ true) (sym one) t))
          ∙ sym (ap (λ b. if b then option_map (with_heard_part kind bytes terms full) (find_in old y) else find_in old y) t)
      | inr f ↦
          s.found y
          ∙ ap (λ b. if b then option_map (with_new (record e { terms = terms; complete = full })) (find_in heard y) else find_in heard y) (ap (λ z. same_exchange z y) named ∙ f)
          ∙ h.found y
          ∙ ap (λ b. if b then option_map (with_bytes kind bytes) (find_in old y) else find_in old y) f
          ∙ sym (ap (λ b. if b then option_map (with_heard_part kind bytes terms full) (find_in old y) else find_in old y) f)
    ]

-- Look-ups in a list of which one part may contain the exchange.
use Rattle.std.proofs.Common.{◌≡◌, true, false, List, ◌++◌, Option, Some, None, refl, sym, ap, subst, ◌∙◌, inl, inr}
use Rattle.std.specs.Prelude.{if◌then◌else◌}
use Rattle.std.specs.Option.{option_or, option_to_list}
use Rattle.std.specs.List.{find}
use Rattle.std.proofs.lemmas.Bool.{cases_Bool}
use Rattle.std.proofs.lemmas.List.Folds.{find-append}
use Rattle.std.proofs.lemmas.Option.{none-some}
use Rattle.bar_window.specs.declared.exchange.Exchange.{Exchange}
use Rattle.bar_window.specs.Exchange.{same_exchange}
use Rattle.bar_window.proofs.Exchanges.{same_exchange-is, same_exchange_refl}
use Rattle.bar_ledger.specs.Code.Kept.{Kept, is_for}
use Rattle.bar_ledger.proofs.Slots.{with_part}
use Rattle.bar_bytes.proofs.Options.{or-none}

-- if there is a kept state, it is of this exchange
abbrev pub IsNamed : Exchange → Option Kept → Type 0
IsNamed x o = (k : Kept) → o ≡ Some k → k.entry.x ≡ x

pub found-part : (y : Exchange) (before : List Kept) (o : Option Kept) (after : List Kept)
    → find (is_for y) (with_part before o after) ≡ option_or (find (is_for y) before) (option_or (find (is_for y) (option_to_list o)) (find (is_for y) after))
found-part y before o after =
    find-append (is_for y) before (option_to_list o ++ after) ∙ ap (λ f. option_or (find (is_for y) before) f) (find-append (is_for y) (option_to_list o) after)

pub found-one : (x : Exchange) (o : Option Kept) → IsNamed x o → find (is_for x) (option_to_list o) ≡ o
found-one x None named = refl
found-one x (Some k) named =
    let same : is_for x k ≡ true = subst (λ z. same_exchange z x ≡ true) (sym (named k refl)) (same_exchange_refl x) in
    rw same refl

found-other : (x y : Exchange) (o : Option Kept) → IsNamed x o → same_exchange x y ≡ false → find (is_for y) (option_to_list o) ≡ None
found-other x y None named e = refl
found-other x y (Some k) named e =
    let other : is_for y k ≡ false = subst (λ z. same_exchange z y ≡ false) (sym (named k refl)) e in
    rw other refl

-- what a look-up of the exchange itself finds
pub found-this : (x : Exchange) (before : List Kept) (o : Option Kept) (after : List Kept) → IsNamed x o → find (is_for x) before ≡ None → find (is_for x) after ≡ None
    → find (is_for x) (with_part before o after) ≡ o
found-this x before o after named none rest =
    found-part x before o after ∙ (λ i. option_or (none i) (option_or (found-one x o named i) (rest i))) ∙ or-none o

-- one part is replaced by another one
pub found-changed : (x : Exchange) (before : List Kept) (old new : Option Kept) (after : List Kept) → IsNamed x old → IsNamed x new → find (is_for x) before ≡ None → find (is_for x) after ≡ None
    → (y : Exchange) → find (is_for y) (with_part before new after) ≡ (if same_exchange x y then new else find (is_for y) (with_part before old after))
found-changed x before old new after was is none rest y = elim (cases_Bool (same_exchange x y)) [
  | inl t ↦
      let it : x ≡ y = same_exchange-is x y t in
      subst (λ y. find (is_for y) (with_part before new after) ≡ new) it (found-this x before new after is none rest)
      ∙ sym (ap (λ b. if b then new else find (is_for y) (with_part before old after)) t)
  | inr f ↦
      found-part y before new after
      ∙ ap (λ o. option_or (find (is_for y) before) (option_or o (find (is_for y) after))) (found-other x y new is f ∙ sym (found-other x y old was f))
      ∙ sym (found-part y before old after)
      ∙ sym (ap (λ b. if b then new else find (is_for y) (with_part before old after)) f)
]

-- if a look-up finds nothing, no part contains the exchange
none-left : (a b : Option Kept) → option_or a b ≡ None → a ≡ None
none-left None b e = refl
none-left (Some k) b e = absurd (none-some k (sym e))

none-right : (a b : Option Kept) → option_or a b ≡ None → b ≡ None
none-right None b e = e
none-right (Some k) b e = absurd (none-some k (sym e))

pub none-parts : (x : Exchange) (before after : List Kept) → find (is_for x) (with_part before None after) ≡ None → (find (is_for x) before ≡ None) × (find (is_for x) after ≡ None)
none-parts x before after e =
    let both : option_or (find (is_for x) before) (find (is_for x) after) ≡ None = sym (found-part x before None after) ∙ e in
    (none-left _ _ both, none-right _ _ both)

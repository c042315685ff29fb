-- How a change of one slot affects counts and the open exchanges.
use Rattle.std.proofs.Common.{◌≡◌, ℕ, suc, ◌+◌, Bool, cond, ◌&&◌, List, [], ◌∷◌, ◌++◌, take, drop, Option, Some, None, sym, ap, subst, ◌∙◌, arith, count_by}
use Rattle.std.specs.Prelude.{IfSome, ◌==◌, option_and_then, option_map}
use Rattle.std.specs.Bool.{then_some}
use Rattle.std.specs.Option.{option_to_list}
use Rattle.std.specs.List.{find}
use Rattle.std.proofs.Math.ListN.{set}
use Rattle.std.proofs.lemmas.List.Sums.{sum_by-append}
use Rattle.bar_window.specs.declared.exchange.Exchange.{Exchange}
use Rattle.bar_window.specs.declared.exchange.Role.TheVariants.{Responder}
use Rattle.bar_window.specs.declared.exchange.XKind.{XKind}
use Rattle.bar_window.specs.Exchange.{same_kind, same_role}
use Rattle.bar_rules.specs.Peer.Exchanges.{with_exchange}
use Rattle.bar_ledger.specs.declared.entry.Entry.{Entry}
use Rattle.bar_ledger.specs.declared.slot.Slot.{Slot}
use Rattle.bar_ledger.specs.Code.Asking.{is_asked, asked_as, open_of, opens_of}
use Rattle.bar_ledger.specs.Code.Kept.{Kept, newly, with_new, is_for, if_recent}
use Rattle.bar_ledger.specs.Code.Memory.{StaysOpen, IsAsBefore}
use Rattle.bar_ledger.specs.Code.Slots.{entries_of}
use Rattle.bar_ledger.proofs.Slots.{with_part}
use Rattle.bar_ledger.proofs.Changes.{IsChange, IsGiven, keeps, change-after, given-before, given-after}
use Rattle.bar_ledger.proofs.Opens.{opens-part, opens-more}

count-part : (p : Kept → Bool) (before : List Kept) (o : Option Kept) (after : List Kept)
    → count_by p (with_part before o after) ≡ count_by p (with_part before None after) + count_by p (option_to_list o)
count-part p before o after =
    let part : Kept → ℕ = λ k. cond (p k) 1 0 in
    let all : count_by p (with_part before o after) ≡ count_by p before + (count_by p (option_to_list o) + count_by p after) =
    sum_by-append part before (option_to_list o ++ after) ∙ ap (λ n. count_by p before + n) (sum_by-append part (option_to_list o) after) in
    let rest : count_by p (with_part before None after) ≡ count_by p before + count_by p after = sum_by-append part before after in
    all ∙ omega (arith, rest)

-- ---- one more exchange

pub given-counted : (p : Kept → Bool) (life now : ℕ) (slots : List Slot) (place : ℕ) (s given : Slot) (e : Entry) → IsGiven life now slots place s given e
    → count_by p (entries_of life now (set slots place given)) ≡ count_by p (entries_of life now slots) + count_by p (option_to_list (if_recent life now (newly e)))
given-counted p life now slots place s given e g =
    ap (count_by p) (given-after life now slots place s given e g)
    ∙ count-part p (entries_of life now (take place slots)) (if_recent life now (newly e)) (entries_of life now (drop (suc place) slots))
    ∙ ap (λ ks. count_by p ks + count_by p (option_to_list (if_recent life now (newly e)))) (sym (given-before life now slots place s given e g))

pub given-opens : (life now : ℕ) (slots : List Slot) (place : ℕ) (s given : Slot) (e : Entry) → IsGiven life now slots place s given e
    → opens_of (entries_of life now (set slots place given)) ≡ with_exchange (option_and_then open_of (if_recent life now (newly e))) (opens_of (entries_of life now slots))
given-opens life now slots place s given e g =
    ap opens_of (given-after life now slots place s given e g)
    ∙ opens-part (entries_of life now (take place slots)) (if_recent life now (newly e)) (entries_of life now (drop (suc place) slots))
    ∙ ap (λ ks. with_exchange (option_and_then open_of (if_recent life now (newly e))) (opens_of ks)) (sym (given-before life now slots place s given e g))

-- ---- a change of the kept state of an exchange

pub change-counted : (p : Kept → Bool) (x : Exchange) (life now : ℕ) (slots : List Slot) (place : ℕ) (s changed : Slot) (f : Kept → Kept) → (c : IsChange x life now slots place s changed f)
    → count_by p (entries_of life now (set slots place changed)) + count_by p (option_to_list (find (is_for x) (entries_of life now slots)))
    ≡ count_by p (entries_of life now slots) + count_by p (f (keeps x life now slots place s c.at).kept ∷ [])
change-counted p x life now slots place s changed f c =
    let k = keeps x life now slots place s c.at in
    let before : List Kept = entries_of life now (take place slots) in
    let after : List Kept = entries_of life now (drop (suc place) slots) in
    let new : count_by p (entries_of life now (set slots place changed)) ≡ count_by p (with_part before None after) + count_by p (f k.kept ∷ []) =
    ap (count_by p) (change-after x life now slots place s changed f c) ∙ count-part p before (Some (f k.kept)) after in
    let old : count_by p (entries_of life now slots) ≡ count_by p (with_part before None after) + count_by p (k.kept ∷ []) = ap (count_by p) k.parts ∙ count-part p before (Some k.kept) after in
    let was : count_by p (option_to_list (find (is_for x) (entries_of life now slots))) ≡ count_by p (k.kept ∷ []) = ap (λ o. count_by p (option_to_list o)) k.found in
    omega (arith, new, old, was)

-- a change that keeps each entry doesn't change the open exchanges
pub change-opens : (x : Exchange) (life now : ℕ) (slots : List Slot) (place : ℕ) (s changed : Slot) (f : Kept → Kept) → IsChange x life now slots place s changed f
    → ((k : Kept) → (f k).entry ≡ k.entry) → opens_of (entries_of life now (set slots place changed)) ≡ opens_of (entries_of life now slots)
change-opens x life now slots place s changed f c same =
    let k = keeps x life now slots place s c.at in
    let before : List Kept = entries_of life now (take place slots) in
    let after : List Kept = entries_of life now (drop (suc place) slots) in
    ap opens_of (change-after x life now slots place s changed f c) ∙ opens-part before (Some (f k.kept)) after
    ∙ ap (λ (e : Entry). with_exchange (open_of (newly e)) (opens_of (with_part before None after))) (same k.kept)
    ∙ sym (opens-part before (Some k.kept) after) ∙ sym (ap opens_of k.parts)

pub change-asked : (kind : XKind) (round : ℕ) (x : Exchange) (life now : ℕ) (slots : List Slot) (place : ℕ) (s changed : Slot) (f : Kept → Kept) → IsChange x life now slots place s changed f
    → ((k : Kept) → (f k).entry ≡ k.entry) → count_by (is_asked kind round) (entries_of life now (set slots place changed)) ≡ count_by (is_asked kind round) (entries_of life now slots)
change-asked kind round x life now slots place s changed f c same =
    let k = keeps x life now slots place s c.at in
    let p : Kept → Bool = is_asked kind round in
    let was : count_by p (option_to_list (find (is_for x) (entries_of life now slots))) ≡ count_by p (k.kept ∷ []) = ap (λ o. count_by p (option_to_list o)) k.found in
    let is : count_by p (f k.kept ∷ []) ≡ count_by p (k.kept ∷ []) = ap (λ (e : Entry). count_by p (newly e ∷ [])) (same k.kept) in
    omega (arith, change-counted p x life now slots place s changed f c, was, is)

-- ---- replacing the entry

pub put-asked : (kind : XKind) (round : ℕ) (e : Entry) (life now : ℕ) (slots : List Slot) (place : ℕ) (s changed : Slot) → IsChange e.x life now slots place s changed (with_new e)
    → count_by (is_asked kind round) (entries_of life now (set slots place changed)) + asked_as kind round (find (is_for e.x) (entries_of life now slots))
    ≡ count_by (is_asked kind round) (entries_of life now slots) + asked_as kind round (option_map (with_new e) (find (is_for e.x) (entries_of life now slots)))
put-asked kind round e life now slots place s changed c =
    let k = keeps e.x life now slots place s c.at in
    change-counted (is_asked kind round) e.x life now slots place s changed (with_new e) c
    ∙ ap (λ o. count_by (is_asked kind round) (entries_of life now slots) + asked_as kind round (option_map (with_new e) o)) (sym k.found)

pub put-opens : (e : Entry) (life now : ℕ) (slots : List Slot) (place : ℕ) (s changed : Slot) → IsChange e.x life now slots place s changed (with_new e) → StaysOpen e (find (is_for e.x) (entries_of life now slots))
    → opens_of (entries_of life now (set slots place changed)) ≡ with_exchange (then_some e.first_said e.x) (opens_of (entries_of life now slots))
put-opens e life now slots place s changed c stays =
    let k = keeps e.x life now slots place s c.at in
    let before : List Kept = entries_of life now (take place slots) in
    let after : List Kept = entries_of life now (drop (suc place) slots) in
    ap opens_of (change-after e.x life now slots place s changed (with_new e) c) ∙ opens-part before (Some (with_new e k.kept)) after
    ∙ opens-more k.kept (with_new e k.kept) (opens_of (with_part before None after)) k.named (subst (StaysOpen e) k.found stays)
    ∙ ap (λ xs. with_exchange (then_some e.first_said e.x) xs) (sym (opens-part before (Some k.kept) after) ∙ sym (ap opens_of k.parts))

-- if the new entry has the same side and mark, the counts and the open exchanges are unchanged
pub same-asked : (kind : XKind) (round : ℕ) (e : Entry) (life now : ℕ) (slots : List Slot) (place : ℕ) (s changed : Slot) → IsChange e.x life now slots place s changed (with_new e) → IfSome (find (is_for e.x) (entries_of life now slots)) (IsAsBefore e)
    → count_by (is_asked kind round) (entries_of life now (set slots place changed)) ≡ count_by (is_asked kind round) (entries_of life now slots)
same-asked kind round e life now slots place s changed c before =
    let k = keeps e.x life now slots place s c.at in
    let p : Kept → Bool = is_asked kind round in
    let like : IsAsBefore e k.kept = subst (λ o. IfSome o (IsAsBefore e)) k.found before in
    let was : count_by p (option_to_list (find (is_for e.x) (entries_of life now slots))) ≡ count_by p (k.kept ∷ []) = ap (λ o. count_by p (option_to_list o)) k.found in
    let is : count_by p (with_new e k.kept ∷ []) ≡ count_by p (k.kept ∷ []) =
    λ i. 0 + cond (same_role (like.side i) Responder && same_kind (sym k.named i).kind kind && ((sym k.named i).round == round)) 1 0
    in
    omega (arith, change-counted p e.x life now slots place s changed (with_new e) c, was, is)

pub same-opens : (e : Entry) (life now : ℕ) (slots : List Slot) (place : ℕ) (s changed : Slot) → IsChange e.x life now slots place s changed (with_new e) → IfSome (find (is_for e.x) (entries_of life now slots)) (IsAsBefore e)
    → opens_of (entries_of life now (set slots place changed)) ≡ opens_of (entries_of life now slots)
same-opens e life now slots place s changed c before =
    let k = keeps e.x life now slots place s c.at in
    let rest : List Exchange = opens_of (with_part (entries_of life now (take place slots)) None (entries_of life now (drop (suc place) slots))) in
    let like : IsAsBefore e k.kept = subst (λ o. IfSome o (IsAsBefore e)) k.found before in
    ap opens_of (change-after e.x life now slots place s changed (with_new e) c)
    ∙ opens-part (entries_of life now (take place slots)) (Some (with_new e k.kept)) (entries_of life now (drop (suc place) slots))
    ∙ (λ i. with_exchange (then_some (like.said i) (sym k.named i)) rest)
    ∙ sym (opens-part (entries_of life now (take place slots)) (Some k.kept) (entries_of life now (drop (suc place) slots)))
    ∙ sym (ap opens_of k.parts)

-- What an in-memory link gives next.
use Rattle.std.proofs.Common.{◌≡◌, ◌≤◌, ◌<◌, ℕ, true, nat_le, List, length, get_or, sym, ap, ◌∙◌, inl, inr, arith, Vec, true≢false}
use Rattle.std.specs.List.{slice_get}
use Rattle.std.specs.declared.alloc.Global.{Global}
use Rattle.std.proofs.lemmas.Option.{slice_get-get_or}
use Rattle.std.proofs.lemmas.List.Folds.{list_all_at}
use Rattle.std.proofs.lemmas.Bool.{cases_Bool}
use Rattle.std.proofs.lemmas.Bool.Decides.{nat_tests}
use Rattle.bar_outside.specs.Code.MemTaken.{is_small, are_small, arrival_in}
use Rattle.bar_outside.specs.Code.MemLink.{arrival_at}
use Rattle.bar_outside.specs.declared.mem_taken.MemTaken.{MemTaken}
use Rattle.bar_outside.specs.declared.mem_taken.MemTaken.TheVariants.{Datagram}

module _ (list : List MemTaken) (given : ℕ) (item : MemTaken) (within : given < length list) (is : item ≡ get_or list given item) where
  pub next-is : arrival_at (slice_get list given) ≡ arrival_in item
  next-is = ap arrival_at (slice_get-get_or list given item within) ∙ ap arrival_in (sym is)

  small-item : are_small list ≡ true → is_small item ≡ true
  small-item small = elim (cases_Bool (is_small item)) [
    | inl it_is ↦ it_is
    | inr it_isnt ↦ absurd (true≢false (sym small ∙ list_all_at is_small list given item within (ap is_small (sym is) ∙ it_isnt)))
  ]

  pub few-bytes : (bytes : Vec ℕ Global) → item ≡ Datagram bytes → are_small list ≡ true → length bytes.items ≤ 65507
  few-bytes bytes e small = let h : nat_le (length bytes.items) 65507 ≡ true = ap is_small (sym e) ∙ small-item small in at-most (length bytes.items) h
    where
      at-most : (n : ℕ) → nat_le n 65507 ≡ true → n ≤ 65507
      at-most n h = grind (arith, nat_tests)

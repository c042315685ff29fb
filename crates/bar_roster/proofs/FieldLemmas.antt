-- The definitions of `specs/Fields.antt`, over what `toml` gives.
use Rattle.std.proofs.Common.{◌≡◌, refl, ap, ℕ, length, arith, List, [], ◌∷◌, Some, None, is_some, ◌&&◌, inl, inr}
use Rattle.std.specs.List.{list_all}
use Rattle.std.specs.Str.{IsUtf8, is_utf8}
use Rattle.std.proofs.lemmas.Bool.{cases_Bool}
use Rattle.std.proofs.lemmas.Str.{IsUtf8-from_is_utf8, is_utf8-from_IsUtf8}
use Rattle.toml.specs.Data.{Members, as_table}
use Rattle.toml.specs.View.{items_view, view}
use Rattle.toml.specs.Parse.{parse_document}
use Rattle.toml.specs.declared.value.Value.{Value}
use Rattle.bar_roster.specs.Fields.{are_tables, count_of, document}

pub document_some : (bytes : List ℕ) (ms : Members) → IsUtf8 bytes → parse_document bytes ≡ Some ms → document bytes ≡ Some ms
document_some bytes ms text reads = rw (is_utf8-from_IsUtf8 bytes text) reads

pub document_none : (bytes : List ℕ) → (IsUtf8 bytes → parse_document bytes ≡ None) → document bytes ≡ None
document_none bytes refused = elim (cases_Bool (is_utf8 bytes)) [
  | inl text ↦ rw text (refused (IsUtf8-from_is_utf8 bytes text))
  | inr other ↦ rw other refl
]

pub count_view : (vs : List Value) → count_of (items_view vs) ≡ length vs
count_view [] = refl
count_view (v ∷ vs) = let more = count_view vs in omega (arith, more)

pub tables_view : (vs : List Value) → are_tables (items_view vs) ≡ list_all (λ v. is_some (as_table (view v))) vs
tables_view [] = refl
tables_view (v ∷ vs) = ap (λ b. is_some (as_table (view v)) && b) (tables_view vs)

pub ruleset views = (count_view, tables_view)

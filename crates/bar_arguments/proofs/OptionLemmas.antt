-- How `clap` builds a command's options.
use Rattle.std.proofs.Common.{◌+◌, ◌<◌, suc, take, get_or, arith, is_some, ◌≡◌, ◌∙◌, ◌&&◌, ap, ap₂, refl, sym, ℕ, true, false, not, List, [], ◌∷◌, ◌++◌, map, length}
use Rattle.std.specs.List.{list_all, list_any}
use Rattle.std.proofs.lemmas.List.{map-append}
use Rattle.std.specs.Prelude.{count_by}
use Rattle.std.specs.Borrow.{Bor}
use Rattle.std.proofs.Math.Seq.{take-suc}
use Rattle.clap.specs.Walk.{Rule, Text, is_early_multiple}
use Rattle.clap.specs.Simple.{built, filled, filled_from, is_simple, with_rule}
use Rattle.clap.specs.Faults.{is_simple_and_free}
use Rattle.bar_arguments.specs.Options.{option_rule, options_of}

-- one more option
pub options-more : (names : List Text) (name : Text) → with_rule (options_of names) (option_rule name) ≡ options_of (names ++ name ∷ [])
unfolding options_of
options-more names name =
    ap (λ rules. record (options_of names) { top = record (options_of names).top { rules = rules } }) (sym (map-append option_rule names (name ∷ [])))

-- the rule after it was built
abbrev pub built_rule : Text → Rule
built_rule name = filled (option_rule name)

built-rules : (i : ℕ) (names : List Text) → filled_from i (map option_rule names) ≡ map built_rule names
built-rules i [] = refl
built-rules i (name ∷ names) = ap (λ rules. built_rule name ∷ rules) (built-rules i names)

all_simple : (names : List Text) → list_all (λ (r : Rule). r.is_simple) (map option_rule names) ≡ true
all_simple [] = refl
all_simple (name ∷ names) = all_simple names

all_built_simple : (names : List Text) → list_all (λ (r : Rule). r.is_simple) (map built_rule names) ≡ true
all_built_simple [] = refl
all_built_simple (name ∷ names) = all_built_simple names

all_built_free : (names : List Text) → list_all (λ (r : Rule). r.is_free) (map built_rule names) ≡ true
all_built_free [] = refl
all_built_free (name ∷ names) = all_built_free names

none_early : (n : ℕ) (names : List Text) → list_any (is_early_multiple n) (map built_rule names) ≡ false
none_early n [] = refl
none_early n (name ∷ names) = none_early n names

pub options-built : (names : List Text) → (built (options_of names)).top.rules ≡ map built_rule names
unfolding options_of
options-built names = built-rules 1 names

pub options-simple : (names : List Text) → is_simple (options_of names) ≡ true
unfolding options_of
options-simple names =
    ap₂ ◌&&◌ (ap₂ ◌&&◌ (all_simple names) refl)
    (ap₂ ◌&&◌ (ap₂ ◌&&◌ (ap (list_all (λ (r : Rule). r.is_simple)) (built-rules 1 names) ∙ all_built_simple names) (ap not in_order)) refl)
  where
    in_order : list_any (is_early_multiple (count_by (λ (r : Rule). is_some r.index) (filled_from 1 (map option_rule names)))) (filled_from 1 (map option_rule names)) ≡ false
    in_order = ap (list_any (is_early_multiple (count_by (λ (r : Rule). is_some r.index) (filled_from 1 (map option_rule names))))) (built-rules 1 names) ∙ none_early _ names

pub options-simple_and_free : (names : List Text) → is_simple_and_free (options_of names) ≡ true
unfolding options_of
options-simple_and_free names =
    ap₂ ◌&&◌ (options-simple names) (ap₂ ◌&&◌ (ap (list_all (λ (r : Rule). r.is_free)) (built-rules 1 names) ∙ all_built_free names) refl)

-- one more option, at an index
pub option-at : (names : List (Bor Text)) (i : ℕ) (d : Bor Text) → i < length names
    → with_rule (options_of (map (λ name. name.now) (take i names))) (option_rule (get_or names i d).now) ≡ options_of (map (λ name. name.now) (take (i + 1) names))
option-at names i d lt =
    let next : i + 1 ≡ suc i = omega arith in
    options-more (map (λ name. name.now) (take i names)) (get_or names i d).now
    ∙ ap options_of (sym (map-append (λ (name : Bor Text). name.now) (take i names) (get_or names i d ∷ [])) ∙ ap (map (λ (name : Bor Text). name.now)) (sym (take-suc names i d lt) ∙ ap (λ n. take n names) (sym next)))

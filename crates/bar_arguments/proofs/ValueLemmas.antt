-- The values of options, name by name.
use Rattle.std.proofs.Common.{sym, ◌≡◌, ◌∙◌, ap₂, true, ◌+◌, ◌<◌, ℕ, zero, suc, List, [], ◌∷◌, ◌++◌, ap, refl, arith, take, length, get_or, Option, Some, None}
use Rattle.std.specs.Prelude.{option_and_then, option_map}
use Rattle.std.specs.Borrow.{Bor}
use Rattle.std.proofs.lemmas.List.{map-append}
use Rattle.std.proofs.Math.Seq.{take-suc}
use Rattle.clap.specs.Walk.{Text, first_of, rows_of}
use Rattle.clap.specs.Simple.{matches_of}
use Rattle.clap.specs.Matches.{first_value}
use Rattle.clap.specs.declared.parser.matches.Found.{Found}
use Rattle.clap.proofs.WalkLemmas.{first_value-rows}
use Rattle.bar_arguments.specs.Options.{is_taken, options_of, texts, value_of, values_by, values_of}

-- if several values exist, the first one and the others exist
split : (o : Option Text) (r : Option (List Text)) (values : List Text) → option_and_then (λ own. option_map (λ others. own ∷ others) r) o ≡ Some values
    → (own : Text) × (others : List Text) × (o ≡ Some own) × (r ≡ Some others) × (values ≡ own ∷ others)
split None r values h = absurd cc
split (Some own) None values h = absurd cc
split (Some own) (Some others) values h = (own, others, refl, refl, cc)

-- one more value
more : (f : Text → Option Text) (names : List Text) (name own : Text) (values : List Text) → values_by f names ≡ Some values → f name ≡ Some own
    → values_by f (names ++ name ∷ []) ≡ Some (values ++ own ∷ [])
more f [] name own values all one = let none : values ≡ [] = cc in rw (one, none) refl
more f (first ∷ names) name own values all one =
    let parts = split (f first) (values_by f names) values all in
    longer parts.0 parts.1 values parts.2 (more f names name own parts.1 parts.3 one) parts.4
  where
    longer : (a : Text) (others values : List Text) → f first ≡ Some a → values_by f (names ++ name ∷ []) ≡ Some (others ++ own ∷ []) → values ≡ a ∷ others
        → values_by f (first ∷ names ++ name ∷ []) ≡ Some (values ++ own ∷ [])
    longer a others values here rest is = rw (here, rest, is) refl

pub more-at : (f : Text → Option Text) (names : List (Bor Text)) (i : ℕ) (d : Bor Text) (own : Text) (values : List Text) → i < length names
    → values_by f (texts (take i names)) ≡ Some values → f (get_or names i d).now ≡ Some own → values_by f (texts (take (i + 1) names)) ≡ Some (values ++ own ∷ [])
more-at f names i d own values lt all one =
    let next : i + 1 ≡ suc i = omega arith in
    ap (values_by f) (ap (λ n. texts (take n names)) next ∙ ap texts (take-suc names i d lt) ∙ map-append (λ (name : Bor Text). name.now) (take i names) (get_or names i d ∷ []))
    ∙ more f (texts (take i names)) (get_or names i d).now own values all one

no-others : (o : Option Text) → option_and_then (λ own. option_map (λ (others : List Text). own ∷ others) None) o ≡ None
no-others None = refl
no-others (Some own) = refl

-- a name without a value
pub none-at : (f : Text → Option Text) (names : List (Bor Text)) (i : ℕ) (d : Bor Text) → i < length names → f (get_or names i d).now ≡ None → values_by f (texts names) ≡ None
none-at f [] i d lt none = absurd (omega arith)
none-at f (name ∷ names) zero d lt none = rw none refl
none-at f (name ∷ names) (suc i) d lt none = rw (none-at f names i d (omega arith) none) (no-others (f name.now))

-- two ways to find values agree
pub values_by-same : (f g : Text → Option Text) → ((name : Text) → f name ≡ g name) → (names : List Text) → values_by f names ≡ values_by g names
values_by-same f g same [] = refl
values_by-same f g same (name ∷ names) =
    ap₂ (λ own others. option_and_then (λ (v : Text). option_map (λ (vs : List Text). v ∷ vs) others) own) (same name) (values_by-same f g same names)

-- the values that were found are those of the arguments
pub values-found : (found : Found) (names words : List Text) → rows_of found ≡ matches_of (options_of names) words → is_taken names words ≡ true
    → values_by (first_value found) names ≡ values_of names words
unfolding value_of
values-found found names words rows taken =
    values_by-same (first_value found) (value_of names words) (λ name. first_value-rows found name ∙ ap (first_of name) rows) names ∙ sym chosen
  where
    chosen : values_of names words ≡ values_by (value_of names words) names
    chosen = rw taken refl

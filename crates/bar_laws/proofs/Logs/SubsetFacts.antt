-- What holds of each update of a set holds of each update of a subset.
use Rattle.bar_window.specs.Updates.{has_update, same_update, is_inside}
use Rattle.bar_window.specs.declared.update.UpdateId.{UpdateId}
use Rattle.std.proofs.Common.{◌≡◌, Bool, true, List, [], ◌∷◌, refl, sym, subst, inl, inr}
use Rattle.std.specs.Prelude.{◌⊎◌}
use Rattle.std.specs.List.{list_all}
use Rattle.std.proofs.lemmas.Bool.{and_parts, and_from, or_cases}
use Rattle.bar_window.proofs.Sets.{same_is}

member-all : (p : UpdateId → Bool) (us : List UpdateId) (u : UpdateId) → has_update us u ≡ true → list_all p us ≡ true → p u ≡ true
member-all p [] u h e = cc
member-all p (v ∷ us) u h e = go (or_cases _ _ h) (member-all p us u)
  where
    go : (same_update u v ≡ true) ⊎ (has_update us u ≡ true) → (has_update us u ≡ true → list_all p us ≡ true → p u ≡ true) → p u ≡ true
    go (inl a) k = let same : u ≡ v = same_is u v a in subst (λ z. p z ≡ true) (sym same) (and_parts _ _ e).0
    go (inr a) k = k a (and_parts _ _ e).1

pub inside-all : (p : UpdateId → Bool) (us vs : List UpdateId) → is_inside us vs ≡ true → list_all p vs ≡ true → list_all p us ≡ true
inside-all p [] vs h e = refl
inside-all p (u ∷ us) vs h e = let q = and_parts _ _ h in and_from _ _ (member-all p vs u q.0 e) (inside-all p us vs q.1 e)

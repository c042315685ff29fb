-- A list whose elements are each done by a list of actions.
use Rattle.std.proofs.Common.{◌≡◌, List, [], ◌∷◌, ◌++◌, sym, ap, ◌∙◌, subst, append-nil, append_assoc, Result, Ok, Err}
use Rattle.std.specs.List.{flat_map}
use Rattle.std.proofs.lemmas.Grind.{flat_map-append}
use Rattle.bar_outside.specs.declared.fault.Fault.{Fault}
use Rattle.bar_outside.specs.Plan.{Outside, Action}
use Rattle.bar_outside.specs.Code.Follows.{Follows}
use Rattle.bar_outside.proofs.Following.{followed, stopped, handed, answered}

-- a part of the list is done, and the rest is left
pub record SoFar {X : Type 0} (all left : List X) (IsDone : List X → Type 0) : Type 0 where
  pub done : List X
  pub split : all ≡ done ++ left
  pub is : IsDone done

module _ {X : Type 0} (f : X → List Action) (done : List X) (x : X) where
  each-more : flat_map f (done ++ x ∷ []) ≡ flat_map f done ++ f x
  each-more = flat_map-append f done (x ∷ []) ∙ ap (λ xs. flat_map f done ++ xs) (append-nil (f x))

  each-split : (rest : List X) → flat_map f (done ++ x ∷ rest) ≡ (flat_map f done ++ f x) ++ flat_map f rest
  each-split rest = flat_map-append f done (x ∷ rest) ∙ sym (append_assoc (flat_map f done) (f x) (flat_map f rest))

  -- one more element was done
  pub one-more : {S T : Type 0} (old mid new : Outside) (y : S) (r : Result T Fault) →
      Follows (flat_map f done) old mid (Ok y) → Follows (f x) mid new r → Follows (flat_map f (done ++ x ∷ [])) old new r
  one-more old mid new y r before now =
      subst (λ plan. Follows plan old new r) (sym each-more) (followed (flat_map f done) (f x) old mid new y before r now)

  -- one element was stopped, and so nothing after it was done
  one-stopped : {R S T : Type 0} (rest : List X) (old mid new : Outside) (y : S) (fault : Fault) →
      Follows (flat_map f done) old mid (Ok y) → Follows {T = R} (f x) mid new (Err fault) →
      Follows {T = T} (flat_map f (done ++ x ∷ rest)) old new (Err fault)
  one-stopped {R} rest old mid new y fault before now =
      handed _ old new fault
      (subst (λ plan. Follows {T = R} plan old new (Err fault)) (sym (each-split rest))
      (stopped (flat_map f done ++ f x) (flat_map f rest) old new fault
      (followed (flat_map f done) (f x) old mid new y before (Err fault) now)))

-- the next element moves from the rest to the part that is done
pub split-more : {X : Type 0} (all done left rest : List X) (x : X) → all ≡ done ++ left → left ≡ x ∷ rest → all ≡ (done ++ x ∷ []) ++ rest
split-more all done left rest x e f = e ∙ ap (λ xs. done ++ xs) f ∙ sym (append_assoc done (x ∷ []) rest)

split-at : {X : Type 0} (all done left rest : List X) (x : X) → all ≡ done ++ left → left ≡ x ∷ rest → all ≡ done ++ x ∷ rest
split-at all done left rest x e f = e ∙ ap (λ xs. done ++ xs) f

pub split-end : {X : Type 0} (all done left : List X) → all ≡ done ++ left → left ≡ [] → all ≡ done
split-end all done left e f = e ∙ ap (λ xs. done ++ xs) f ∙ append-nil done

-- a fault at one of the elements
pub stopped-at : {R S T X : Type 0} (f : X → List Action) (all done left rest : List X) (x : X) (old mid new : Outside) (y : S)
    (fault : Fault) → all ≡ done ++ left → left ≡ x ∷ rest → Follows (flat_map f done) old mid (Ok y) →
    Follows {T = R} (f x) mid new (Err fault) → Follows {T = T} (flat_map f all) old new (Err fault)
stopped-at {T = T} f all done left rest x old mid new y fault e h before now =
    subst (λ xs. Follows {T = T} (flat_map f xs) old new (Err fault)) (sym (split-at all done left rest x e h))
    (one-stopped f done x rest old mid new y fault before now)

-- no element is left
pub all-done : {S T X : Type 0} (f : X → List Action) (all done left : List X) (old new : Outside) (y : S) (z : T) →
    all ≡ done ++ left → left ≡ [] → Follows (flat_map f done) old new (Ok y) → Follows (flat_map f all) old new (Ok z)
all-done {T = T} f all done left old new y z e h before =
    subst (λ xs. Follows {T = T} (flat_map f xs) old new (Ok z)) (sym (split-end all done left e h))
    (answered (flat_map f done) old new y z before)

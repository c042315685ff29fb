-- Properties that hold of each element of a list.
use Rattle.std.proofs.Common.{◌≡◌, Bool, true, false, List, [], ◌∷◌, ◌++◌, refl, arith, suc}
use Rattle.std.specs.Prelude.{map, flat_map, filter, cond}
use Rattle.std.specs.List.{AllByRecursion, Contains}

pub all-both : {X : Type 0} (P : X → Type 0) (xs ys : List X) → AllByRecursion P xs → AllByRecursion P ys → AllByRecursion P (xs ++ ys)
all-both P [] ys a b = b
all-both P (x ∷ xs) ys a b = (a.0, all-both P xs ys a.1 b)

-- what follows from a property holds if the property holds
pub all-map : {X : Type 0} (P Q : X → Type 0) (xs : List X) → ((x : X) → P x → Q x) → AllByRecursion P xs → AllByRecursion Q xs
all-map P Q [] f a = tt
all-map P Q (x ∷ xs) f a = (f x a.0, all-map P Q xs f a.1)

-- what holds of all elements holds of each element that is there
pub all-of : {X : Type 0} (P : X → Type 0) (xs : List X) → ((x : X) → Contains xs x → P x) → AllByRecursion P xs
all-of P [] f = tt
all-of P (x ∷ xs) f = (f x (0, omega arith, refl), all-of P xs (λ y c. f y (suc c.0, omega (arith, c.1), c.2)))

pub all-kept : {X : Type 0} (P : X → Type 0) (p : X → Bool) (xs : List X) → AllByRecursion P xs → AllByRecursion P (filter p xs)
all-kept P p [] a = tt
all-kept P p (x ∷ xs) a = go (p x) (all-kept P p xs a.1)
  where
    go : (b : Bool) → AllByRecursion P (filter p xs) → AllByRecursion P (cond b (x ∷ filter p xs) (filter p xs))
    go true r = (a.0, r)
    go false r = r

-- what follows from a filter's test holds of what it keeps
pub all-that : {X : Type 0} (P : X → Type 0) (p : X → Bool) (xs : List X) → ((x : X) → p x ≡ true → P x) → AllByRecursion P (filter p xs)
all-that P p [] f = tt
all-that P p (x ∷ xs) f = go (p x) refl (all-that P p xs f)
  where
    go : (b : Bool) → p x ≡ b → AllByRecursion P (filter p xs) → AllByRecursion P (cond b (x ∷ filter p xs) (filter p xs))
    go true e h = (f x e, h)
    go false e h = h

pub all-mapped : {X Y : Type 0} (P : Y → Type 0) (f : X → Y) (xs : List X) → ((x : X) → P (f x)) → AllByRecursion P (map f xs)
all-mapped P f [] h = tt
all-mapped P f (x ∷ xs) h = (h x, all-mapped P f xs h)

pub all-flat : {X Y : Type 0} (P : Y → Type 0) (f : X → List Y) (xs : List X) → ((x : X) → AllByRecursion P (f x)) → AllByRecursion P (flat_map f xs)
all-flat P f [] h = tt
all-flat P f (x ∷ xs) h = all-both P (f x) (flat_map f xs) (h x) (all-flat P f xs h)

pub all-flat-map : {X Y : Type 0} (P : X → Type 0) (Q : Y → Type 0) (f : X → List Y) (xs : List X) → ((x : X) → P x → AllByRecursion Q (f x)) → AllByRecursion P xs → AllByRecursion Q (flat_map f xs)
all-flat-map P Q f [] k a = tt
all-flat-map P Q f (x ∷ xs) k a = all-both Q (f x) (flat_map f xs) (k x a.0) (all-flat-map P Q f xs k a.1)

-- tests that agree at each element keep the same
pub filter-same : {X : Type 0} (p q : X → Bool) (xs : List X) → AllByRecursion (λ x. p x ≡ q x) xs → filter p xs ≡ filter q xs
filter-same p q [] h = refl
filter-same p q (x ∷ xs) h = λ i. cond (h.0 i) (x ∷ filter-same p q xs h.1 i) (filter-same p q xs h.1 i)

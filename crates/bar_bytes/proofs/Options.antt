-- Optional values: the first of two, one made by a test, and whether there is one.
use Rattle.std.proofs.Common.{◌≡◌, Bool, true, false, ◌||◌, Option, Some, None, refl, sym, ap, ◌∙◌}
use Rattle.std.specs.Prelude.{is_some, option_map}
use Rattle.std.specs.Bool.{then_some}
use Rattle.std.specs.Borrow.{Bor}
use Rattle.std.specs.Option.{option_copied, option_or}
use Rattle.std.proofs.lemmas.Bool.{false≢true}

-- ---- the first of two

pub or-none : {A : Type 0} (o : Option A) → option_or o None ≡ o
or-none None = refl
or-none (Some a) = refl

pub or-untold : {A : Type 0} (o : Option A) (b : Bool) (a : A) → b ≡ false → option_or o (then_some b a) ≡ o
or-untold o b a e = ap (λ t. option_or o (then_some t a)) e ∙ or-none o

-- ---- one made by a test

pub some-then : {A : Type 0} (b : Bool) (a : A) → is_some (then_some b a) ≡ b
some-then true a = refl
some-then false a = refl

pub some-or : {A : Type 0} (o : Option A) (b : Bool) (a : A) → is_some (option_or o (then_some b a)) ≡ (is_some o || b)
some-or None b a = some-then b a
some-or (Some c) b a = refl

pub then-is : {A : Type 0} (b : Bool) (a c : A) → then_some b a ≡ Some c → (b ≡ true) × (a ≡ c)
then-is true a c e = (refl, cc)
then-is false a c e = absurd (cc)

pub then-value : {A : Type 0} (b : Bool) (a c : A) → then_some b a ≡ Some c → a ≡ c
then-value b a c e = (then-is b a c e).1

-- ---- whether there is one

pub some-copied : {A : Type 0} (o : Option (Bor A)) → is_some (option_copied o) ≡ is_some o
some-copied None = refl
some-copied (Some a) = refl

pub some-mapped : {A B : Type 0} (f : A → B) (o : Option A) → is_some (option_map f o) ≡ is_some o
some-mapped f None = refl
some-mapped f (Some a) = refl

pub none-of : {A : Type 0} (o : Option A) → is_some o ≡ false → o ≡ None
none-of None e = refl
none-of (Some a) e = absurd (false≢true (sym e))

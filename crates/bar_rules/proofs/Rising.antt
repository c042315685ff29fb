-- Rising lists of exchanges, and inserting one.
use Rattle.std.proofs.Common.{◌≡◌, Bool, true, false, List, [], ◌∷◌, cond, refl}
use Rattle.std.specs.List.{AllByRecursion}
use Rattle.bar_window.specs.declared.exchange.Exchange.{Exchange}
use Rattle.bar_window.specs.Exchange.{same_exchange}
use Rattle.bar_rules.specs.Peer.Exchanges.{precedes, inserted, IsRising}
use Rattle.bar_rules.proofs.Inserted.{precedes-chain, precedes-total}

pub all-inserted : (P : Exchange → Type 0) (x : Exchange) (xs : List Exchange) → P x → AllByRecursion P xs → AllByRecursion P (inserted x xs)
all-inserted P x [] h k = (h, tt)
all-inserted P x (y ∷ ys) h k = go (same_exchange x y) (precedes x y) (all-inserted P x ys h k.1)
  where
    go : (a b : Bool) → AllByRecursion P (inserted x ys) → AllByRecursion P (cond a (y ∷ ys) (cond b (x ∷ y ∷ ys) (y ∷ inserted x ys)))
    go true b w = k
    go false true w = (h, k)
    go false false w = (k.0, w)

pub all-further : (x y : Exchange) (ys : List Exchange) → precedes x y ≡ true → AllByRecursion (λ z. precedes y z ≡ true) ys → AllByRecursion (λ z. precedes x z ≡ true) ys
all-further x y [] p h = tt
all-further x y (z ∷ ys) p h = (precedes-chain x y z p h.0, all-further x y ys p h.1)

pub inserted-rising : (x : Exchange) (xs : List Exchange) → IsRising xs → IsRising (inserted x xs)
inserted-rising x [] h = (tt, tt)
inserted-rising x (y ∷ ys) h = go (same_exchange x y) (precedes x y) refl refl (inserted-rising x ys h.1)
  where
    go : (a b : Bool) → same_exchange x y ≡ a → precedes x y ≡ b → IsRising (inserted x ys) → IsRising (cond a (y ∷ ys) (cond b (x ∷ y ∷ ys) (y ∷ inserted x ys)))
    go true b e f w = h
    go false true e f w = ((f, all-further x y ys f h.0), h)
    go false false e f w = (all-inserted (λ z. precedes y z ≡ true) x ys (precedes-total x y e f) h.0, w)

-- The exchanges in which messages were signed are in order. Those that may still be asked about are the same whether they are picked before
-- one more is inserted or after.
use Rattle.bar_window.specs.Exchange.{same_exchange}
use Rattle.bar_window.specs.declared.exchange.Exchange.{Exchange}
use Rattle.bar_rules.specs.Peer.Exchanges.{precedes, inserted, IsRising, with_exchange, exchange_said, exchanges_said}
use Rattle.bar_rules.specs.Peer.Log.{Log, said_in}
use Rattle.std.proofs.Common.{◌≡◌, Bool, true, false, List, [], ◌∷◌, refl, sym, subst, cond}
use Rattle.std.specs.Prelude.{Option, Some, None, filter}
use Rattle.std.specs.List.{AllByRecursion}
use Rattle.std.proofs.lemmas.Bool.{both_ways}
use Rattle.bar_window.proofs.Exchanges.{same_exchange-is}
use Rattle.bar_rules.proofs.Inserted.{precedes-differs}
use Rattle.bar_rules.proofs.Rising.{all-further, inserted-rising}

-- ---- rising lists

pub opened-rising : (log : Log) → IsRising (exchanges_said log)
opened-rising [] = tt
opened-rising (e ∷ log) = go (exchange_said (said_in e)) (opened-rising log)
  where
    go : (o : Option Exchange) → IsRising (exchanges_said log) → IsRising (with_exchange o (exchanges_said log))
    go None h = h
    go (Some x) h = inserted-rising x (exchanges_said log) h

-- ---- picking

pub all-picked : (P : Exchange → Type 0) (p : Exchange → Bool) (xs : List Exchange) → AllByRecursion P xs → AllByRecursion P (filter p xs)
all-picked P p [] h = tt
all-picked P p (x ∷ xs) h = go (p x) (all-picked P p xs h.1)
  where
    go : (b : Bool) → AllByRecursion P (filter p xs) → AllByRecursion P (cond b (x ∷ filter p xs) (filter p xs))
    go true w = (h.0, w)
    go false w = w

-- an exchange that precedes all others is inserted first
inserted-first : (x : Exchange) (xs : List Exchange) → AllByRecursion (λ y. precedes x y ≡ true) xs → inserted x xs ≡ x ∷ xs
inserted-first x [] h = refl
inserted-first x (y ∷ ys) h = rw (precedes-differs x y h.0, h.0) refl

pub picked-inserted : (p : Exchange → Bool) (x : Exchange) (xs : List Exchange) → IsRising xs → filter p (inserted x xs) ≡ cond (p x) (inserted x (filter p xs)) (filter p xs)
picked-inserted p x [] h = refl
picked-inserted p x (y ∷ ys) h = go (same_exchange x y) (precedes x y) (p x) (p y) refl refl refl refl (picked-inserted p x ys h.1)
  where
    go : (a b c d : Bool) → same_exchange x y ≡ a → precedes x y ≡ b → p x ≡ c → p y ≡ d → filter p (inserted x ys) ≡ cond (p x) (inserted x (filter p ys)) (filter p ys)
        → filter p (cond a (y ∷ ys) (cond b (x ∷ y ∷ ys) (y ∷ inserted x ys))) ≡ cond c (inserted x (cond d (y ∷ filter p ys) (filter p ys))) (cond d (y ∷ filter p ys) (filter p ys))
    go true b true true e f g i k = rw (i, e) refl
    go true b true false e f g i k = absurd (both_ways (p y) i (subst (λ z. p z ≡ true) (same_exchange-is x y e) g))
    go true b false d e f g i k = rw i refl
    go false true true d e f g i k =
        let all : AllByRecursion (λ z. precedes x z ≡ true) (filter p (y ∷ ys)) = all-picked (λ z. precedes x z ≡ true) p (y ∷ ys) (f, all-further x y ys f h.0) in
        rw (g, ← i) (sym (inserted-first x (filter p (y ∷ ys)) all))
    go false true false d e f g i k = rw (g, i) refl
    go false false true true e f g i k = rw (i, e, f, k, g) refl
    go false false true false e f g i k = rw (i, k, g) refl
    go false false false d e f g i k = rw (i, k, g) refl

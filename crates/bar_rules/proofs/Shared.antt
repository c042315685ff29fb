-- The exchanges that two parties can have.
use Rattle.std.specs.Prelude.{◌⊎◌, nat_lt}
use Rattle.std.specs.List.{AllByRecursion}
use Rattle.std.proofs.Common.{◌≡◌, ◌≤◌, ◌+◌, ℕ, zero, suc, Bool, true, false, cond, List, [], ◌∷◌, ◌++◌, refl, inl, inr, arith}
use Rattle.bar_window.specs.declared.exchange.Exchange.{Exchange}
use Rattle.bar_window.specs.declared.exchange.XKind.{XKind}
use Rattle.bar_window.specs.declared.exchange.XKind.TheVariants.{Balanced, Push}
use Rattle.bar_rules.specs.Peer.Evidence.{between, shared_from}

-- one is its initiator and the other its responder
abbrev pub AreParties : ℕ → ℕ → Exchange → Type 0
AreParties p q y = ((y.initiator ≡ p) × (y.responder ≡ q)) ⊎ ((y.initiator ≡ q) × (y.responder ≡ p))

-- An exchange of two parties, of this round or a later one.
pub record IsShared (p q round : ℕ) (y : Exchange) : Type 0 where
  pub parties : AreParties p q y
  pub late : round ≤ y.round

both : (P : Exchange → Type 0) (xs ys : List Exchange) → AllByRecursion P xs → AllByRecursion P ys → AllByRecursion P (xs ++ ys)
both P [] ys a b = b
both P (x ∷ xs) ys a b = (a.0, both P xs ys a.1 b)

between_shared : (p q low round : ℕ) (kind : XKind) → low ≤ round → AllByRecursion (IsShared p q low) (between p q round kind)
between_shared p q low round kind h = go (nat_lt p q)
  where
    one : Exchange
    one = record { round = round; kind = kind; initiator = p; responder = q }

    two : Exchange
    two = record { round = round; kind = kind; initiator = q; responder = p }

    first : IsShared p q low one
    first = record { parties = inl (refl, refl); late = h }

    second : IsShared p q low two
    second = record { parties = inr (refl, refl); late = h }

    go : (b : Bool) → AllByRecursion (IsShared p q low) (cond b (one ∷ two ∷ []) (two ∷ one ∷ []))
    go true = (first, (second, tt))
    go false = (second, (first, tt))

-- each exchange of the list is between the two parties, and of no earlier round than the first
pub shared_are : (p q low round count : ℕ) → low ≤ round → AllByRecursion (IsShared p q low) (shared_from p q round count)
shared_are p q low round zero h = tt
shared_are p q low round (suc count) h =
    both (IsShared p q low) (between p q round Balanced ++ between p q round Push) (shared_from p q (round + 1) count)
    (both (IsShared p q low) (between p q round Balanced) (between p q round Push) (between_shared p q low round Balanced h)
    (between_shared p q low round Push h))
    (shared_are p q low (round + 1) count (omega (arith, h)))

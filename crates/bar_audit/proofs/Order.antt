-- Exchanges in order.
use Rattle.std.proofs.Common.{◌≡◌, true, List, [], ◌∷◌, sym, ap, ◌∙◌}
use Rattle.std.specs.List.{AllByRecursion}
use Rattle.std.specs.List.Sorted.{IsStrictlySortedBy}
use Rattle.std.specs.Ordering.{is_lt}
use Rattle.std.specs.declared.cmp.Ordering.{Ordering}
use Rattle.std.specs.declared.cmp.Ordering.TheVariants.{Less}
use Rattle.std.proofs.lemmas.Map.Keys.{sorted_head, sorted_tail}
use Rattle.bar_window.specs.declared.exchange.Exchange.{Exchange}
use Rattle.bar_rules.specs.Peer.Exchanges.{precedes, IsRising}

pub rising-from : (cmp : Exchange → Exchange → Ordering) → ((x y : Exchange) → is_lt (cmp x y) ≡ precedes x y) → (xs : List Exchange)
    → IsStrictlySortedBy cmp xs → IsRising xs
rising-from cmp before [] h = tt
rising-from cmp before (x ∷ xs) h = (go xs (sorted_head cmp x xs h), rising-from cmp before xs (sorted_tail cmp x xs h))
  where
    go : (ys : List Exchange) → AllByRecursion (λ y. cmp x y ≡ Less) ys → AllByRecursion (λ y. precedes x y ≡ true) ys
    go [] h = tt
    go (y ∷ ys) h = (sym (before x y) ∙ ap is_lt h.0, go ys h.1)

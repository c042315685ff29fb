-- The order of exchanges, and the least ones above a bound.
use Rattle.std.specs.Prelude.{◌≡◌, Bool, true, ◌&&◌, List, [], ◌∷◌, filter, Option, Some, None, if◌then◌else◌}
use Rattle.std.specs.List.{find}
use Rattle.bar_window.specs.declared.exchange.Exchange.{Exchange}
use Rattle.bar_rules.specs.Peer.Exchanges.{precedes}

-- whether an exchange is above the bound, if there is one
abbrev pub is_above : Option Exchange → Exchange → Bool
is_above None x = true
is_above (Some y) x = precedes y x

abbrev pub is_below : Exchange → Option Exchange → Bool
is_below x None = true
is_below x (Some y) = precedes x y

-- the first exchange in a list above the bound
abbrev pub first_above : Option Exchange → List Exchange → Option Exchange
first_above after xs = find (is_above after) xs

-- the least one so far, updated with one more exchange
abbrev pub best_with : Option Exchange → Option Exchange → Option Exchange → Option Exchange
best_with after best None = best
best_with after best (Some x) = if is_above after x && is_below x best then Some x else best

-- the exchanges in a list above the bound
abbrev pub above : Option Exchange → List Exchange → List Exchange
above after xs = filter (is_above after) xs

-- the exchange is the first above the bound, followed by those above itself; if it is `None`, none is above the bound
abbrev pub IsFirstAbove : Option Exchange → Option Exchange → List Exchange → Type 0
IsFirstAbove after None xs = above after xs ≡ []
IsFirstAbove after (Some x) xs = above after xs ≡ x ∷ above (Some x) xs

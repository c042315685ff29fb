-- Orders none of which was given out.
use Rattle.std.proofs.Common.{◌≡◌, [], ap, drop}
use Rattle.bar_core.specs.Code.Orders.{left_in}
use Rattle.bar_core.specs.declared.orders.Orders.{Orders}

pub all-left : {T : Type 0} (o : Orders T) → o.given ≡ 0 → left_in o ≡ o.list.items
all-left o none = ap (λ n. drop n o.list.items) none

pub nothing-left : {T : Type 0} (o : Orders T) → o.list.items ≡ [] → o.given ≡ 0 → left_in o ≡ []
nothing-left o empty none = λ i. drop (none i) (empty i)

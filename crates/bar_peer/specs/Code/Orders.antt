-- The orders of a peer.
use Rattle.bar_core.specs.declared.orders.Orders as store
use Rattle.bar_peer.specs.declared.order.Order.{Order}

abbrev pub Orders : Type 0
Orders = store.Orders Order

-- What the orders of a broadcaster send.
use Rattle.std.specs.Prelude.{◌≡◌, ℕ, ◌-◌, List, map, Option, Some, option_map, slice_get}
use Rattle.bar_core.specs.declared.orders.Orders as store
use Rattle.bar_window.specs.declared.update.UpdateId.{UpdateId}
use Rattle.bar_wire.specs.Datagram.{Datagram, Block}
use Rattle.bar_wire.specs.declared.kind.Kind.TheVariants as kinds
use Rattle.bar_rules.specs.Broadcaster.Stream.{round_blocks}
use Rattle.bar_rules.specs.Member.{Member}
use Rattle.bar_rules.specs.Peer.Log.{Log, round_now}
use Rattle.bar_rules.specs.Runs.{Outcome}
use Rattle.bar_rules.specs.Values.{unsigned}
use Rattle.bar_caster.specs.declared.item.Item.{Item}
use Rattle.bar_caster.specs.declared.item.Item.TheVariants as items
use Rattle.bar_caster.specs.declared.memory.Memory.{Memory}
use Rattle.bar_caster.specs.declared.order.Order.{Order}
use Rattle.bar_caster.specs.Code.Memory.{Represents, member_of, said_of, stream_of}

abbrev pub Orders : Type 0
Orders = store.Orders Order

-- the block of an update, to a peer
abbrev pub block_to : ℕ → UpdateId → List ℕ → Datagram
block_to peer u block = unsigned (record { from = 0; to = peer; body = Block u block })

-- the datagram of an item for a peer
abbrev pub datagram_now : Member → List ℕ → Log → ℕ → Item → Option Datagram
datagram_now me stream log peer items.Manifest = said_of kinds.Manifest (round_now log) log
datagram_now me stream log peer items.ManifestBefore = said_of kinds.Manifest (round_now log - 1) log
datagram_now me stream log peer items.Evictions = said_of kinds.Evict (round_now log) log
datagram_now me stream log peer (items.Block index) =
    option_map (block_to peer (record { round = round_now log; index = index })) (slice_get (round_blocks me.session stream (round_now log)) index)

-- what an order sends, with its receiver
abbrev pub order_now : Member → List ℕ → Log → Order → Option (ℕ × Datagram)
order_now me stream log order = option_map (λ d. (order.peer, d)) (datagram_now me stream log order.peer order.item)

-- the orders are those of the sent datagrams, in order
abbrev pub AreFor : Member → List ℕ → Log → List Order → List (ℕ × Datagram) → Type 0
AreFor me stream log list sends = map (order_now me stream log) list ≡ map (λ send. Some send) sends

-- The memory represents the log, and the orders are those of the sent datagrams.
pub record HasOutcome (out : Outcome Log) (m : Memory) (o : Orders) : Type 0 where
  pub tells : Represents out.state m
  pub orders : AreFor (member_of m) (stream_of m) out.state o.list.items out.sends

-- an item for each of some peers
abbrev pub orders_to : Item → List ℕ → List Order
orders_to item peers = map (λ peer. record { peer = peer; item = item }) peers

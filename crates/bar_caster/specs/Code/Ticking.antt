-- The log after a tick of the broadcaster, and the orders of the tick.
use Rattle.std.specs.Prelude.{ℕ, ◌+◌, ◌-◌, ◌*◌, ◌==◌, ◌&&◌, Bool, List, ◌∷◌, filter, nat_le}
use Rattle.std.specs.List.{flat_map, range_with_len}
use Rattle.bar_window.specs.declared.update.UpdateId.{UpdateId}
use Rattle.bar_rules.specs.Broadcaster.Sending.{caster_signed, evicted, repeats_manifest, served}
use Rattle.bar_rules.specs.Broadcaster.Stream.{is_in_fanout}
use Rattle.bar_session.specs.Time.{round_after, slot_after}
use Rattle.bar_rules.specs.Member.{Session, Member}
use Rattle.bar_rules.specs.Peer.Log.{Log, Said, Ticked, round_now}
use Rattle.bar_wire.specs.Datagram.{Datagram, Evict}
use Rattle.bar_laws.specs.Broadcasting.{manifest_of}
use Rattle.bar_caster.specs.declared.item.Item.TheVariants as items
use Rattle.bar_caster.specs.declared.order.Order.{Order}
use Rattle.bar_caster.specs.Code.Orders.{orders_to}

-- an upper bound on the orders of an input: each block of a round, and two manifests, or a manifest and a notice, to each peer
abbrev pub most_orders : Session → ℕ
most_orders s = (2 + s.shape.per_round) * s.shape.peers

-- whether the tick after `ticks` ticks begins a round of the session
abbrev pub begins_round : Session → ℕ → Bool
begins_round s ticks = (slot_after (ticks + 1) == 0) && nat_le (round_after (ticks + 1)) s.shape.rounds

-- whether the manifest of the previous round is sent again at the last of `ticks` ticks
abbrev pub says_again : Session → ℕ → Bool
says_again s ticks = (slot_after ticks == 2) && repeats_manifest s (round_after ticks)

-- the log after a tick that begins a round: the round's manifest is signed and sent
abbrev pub begun_round : Member → List ℕ → Log → Log
begun_round me stream log = Said (manifest_of me stream (round_now (Ticked ∷ log))) ∷ Ticked ∷ log

-- the notice of this round, which names the evicted peers
abbrev pub notice_now : Member → Log → Datagram
notice_now me log = caster_signed me (2 * (round_now log - 1) + 1) (Evict (round_now log) (evicted me.session log))

-- an update of this round
abbrev pub update_now : Log → ℕ → UpdateId
update_now log index = record { round = round_now log; index = index }

-- the blocks of `many` indices starting with `first`, each to its fan-out
abbrev pub block_orders : Member → Log → ℕ → ℕ → List Order
block_orders me log first many =
    flat_map (λ index. orders_to (items.Block index) (filter (is_in_fanout me (update_now log index)) (served me.session log)))
    (range_with_len first many)

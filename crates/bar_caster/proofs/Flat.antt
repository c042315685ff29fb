-- The lists that a broadcaster appends to what it sent at a tick, and the orders for these.
use Rattle.std.proofs.Common.{◌≡◌, ◌∙◌, ℕ, suc, ◌+◌, ◌++◌, List, [], ◌∷◌, length, refl, sym, ap, append_assoc, arith}
use Rattle.std.specs.Prelude.{map, filter, Some, option_map, slice_get}
use Rattle.std.proofs.lemmas.List.{map-append}
use Rattle.bar_window.specs.declared.update.UpdateId.{UpdateId}
use Rattle.bar_wire.specs.Datagram.{Datagram}
use Rattle.bar_rules.specs.Broadcaster.Sending.{send_block, send_blocks, served}
use Rattle.bar_rules.specs.Broadcaster.Stream.{is_in_fanout, round_blocks}
use Rattle.bar_rules.specs.Member.{Member}
use Rattle.bar_rules.specs.Peer.Log.{Log, round_now}
use Rattle.bar_rules.specs.Runs.{Outcome, sending}
pub use Rattle.bar_laws.proofs.Broadcasts.{Sends, all-flat, no-more, one-more, to_each, with_sends}
use Rattle.bar_caster.specs.declared.item.Item.{Item}
use Rattle.bar_caster.specs.declared.item.Item.TheVariants as items
use Rattle.bar_caster.specs.declared.order.Order.{Order}
use Rattle.bar_caster.specs.Code.Orders.{AreFor, block_to, datagram_now, order_now, orders_to}
use Rattle.bar_caster.specs.Code.Ticking.{block_orders}
use Rattle.bar_caster.proofs.Pushed.{orders_of_block}

both : (out : Outcome Log) (first second : Sends) → with_sends (with_sends out first) second ≡ with_sends out (first ++ second)
both out first second = λ i. record { state = out.state; sends = append_assoc out.sends first second i; contents = out.contents }

-- ---- a block to some peers

abbrev pub block_to_each : List ℕ → UpdateId → List ℕ → Sends
block_to_each ps u block = map (λ p. (p, block_to p u block)) ps

block-flat : (out : Outcome Log) (ps : List ℕ) (u : UpdateId) (block : List ℕ)
    → send_block out ps u block ≡ with_sends out (block_to_each ps u block)
block-flat out [] u block = no-more out
block-flat out (p ∷ ps) u block =
    block-flat (sending out p (block_to p u block)) ps u block ∙ one-more out p (block_to p u block) (block_to_each ps u block)

-- the peers in the fan-out of an update that aren't evicted
abbrev receivers : Member → Log → UpdateId → List ℕ
receivers me log u = filter (is_in_fanout me u) (served me.session log)

-- the blocks of a round, starting with an index
abbrev pub blocks_from : Member → Log → ℕ → ℕ → List (List ℕ) → Sends
blocks_from me log round index [] = []
blocks_from me log round index (block ∷ blocks) =
    let u : UpdateId = record { round = round; index = index } in
    block_to_each (receivers me log u) u block ++ blocks_from me log round (index + 1) blocks

pub blocks-flat : (me : Member) (round index : ℕ) (blocks : List (List ℕ)) (out : Outcome Log)
    → send_blocks me round index blocks out ≡ with_sends out (blocks_from me out.state round index blocks)
blocks-flat me round index [] out = no-more out
blocks-flat me round index (block ∷ blocks) out =
    let u : UpdateId = record { round = round; index = index } in
    let ps : List ℕ = receivers me out.state u in
    ap (send_blocks me round (index + 1) blocks) (block-flat out ps u block)
    ∙ blocks-flat me round (index + 1) blocks (with_sends out (block_to_each ps u block))
    ∙ both out (block_to_each ps u block) (blocks_from me out.state round (index + 1) blocks)

-- ---- the orders for them

pub for-both : (me : Member) (stream : List ℕ) (log : Log) (one two : List Order) (first second : Sends) → AreFor me stream log one first
    → AreFor me stream log two second → AreFor me stream log (one ++ two) (first ++ second)
for-both me stream log one two first second a b =
    map-append (order_now me stream log) one two ∙ (λ i. a i ++ b i) ∙ sym (map-append (λ send. Some send) first second)

-- the orders of an item for some peers, if each gets its datagram
pub for-each : (me : Member) (stream : List ℕ) (log : Log) (item : Item) (f : ℕ → Datagram) (ps : List ℕ)
    → ((p : ℕ) → datagram_now me stream log p item ≡ Some (f p)) → AreFor me stream log (orders_to item ps) (map (λ p. (p, f p)) ps)
for-each me stream log item f [] is = refl
for-each me stream log item f (p ∷ ps) is = λ i. option_map (λ d. (p, d)) (is p i) ∷ for-each me stream log item f ps is i

pub for-blocks : (me : Member) (stream : List ℕ) (log : Log) (index : ℕ) (rest : List (List ℕ))
    → ((k : ℕ) → slice_get rest k ≡ slice_get (round_blocks me.session stream (round_now log)) (index + k))
    → AreFor me stream log (block_orders me log index (length rest)) (blocks_from me log (round_now log) index rest)
for-blocks me stream log index [] at = refl
for-blocks me stream log index (block ∷ rest) at =
    let all : List (List ℕ) = round_blocks me.session stream (round_now log) in
    let u : UpdateId = record { round = round_now log; index = index } in
    let first : index + 0 ≡ index = omega arith in
    let here : slice_get all index ≡ Some block = ap (slice_get all) (sym first) ∙ sym (at 0) in
    let later : (k : ℕ) → slice_get rest k ≡ slice_get all ((index + 1) + k) =
    λ k. let next : index + suc k ≡ (index + 1) + k = omega arith in at (suc k) ∙ ap (slice_get all) next in
    for-both me stream log (orders_of_block me log index) (block_orders me log (index + 1) (length rest))
    (block_to_each (receivers me log u) u block)
    (blocks_from me log (round_now log) (index + 1) rest)
    (for-each me stream log (items.Block index) (λ p. block_to p u block) (receivers me log u) (λ p. ap (option_map (block_to p u)) here))
    (for-blocks me stream log (index + 1) rest later)

-- The orders that a loop over the peers pushes: one for each peer that passes a test.
use Rattle.std.proofs.Common.{◌≡◌, ◌∙◌, ℕ, ◌+◌, ◌<◌, ◌≤◌, ◌++◌, Bool, true, false, List, [], ◌∷◌, length, refl, sym, ap, append_assoc}
use Rattle.std.proofs.Common.{arith}
use Rattle.std.specs.Prelude.{◌&&◌, not, filter, if◌then◌else◌, Option, Some, None, is_some, is_none}
use Rattle.std.specs.List.{flat_map, range_with_len}
use Rattle.std.proofs.lemmas.List.{append-nil, map-append}
use Rattle.std.proofs.lemmas.Grind.{flat_map-append}
use Rattle.bar_window.proofs.Ranges.{range_more}
use Rattle.bar_wire.specs.Grammar.{IsPeer}
use Rattle.bar_bytes.specs.Code.Rooms.{kept_in}
use Rattle.bar_rules.specs.Broadcaster.Sending.{served}
use Rattle.bar_rules.specs.Broadcaster.Stream.{is_in_fanout}
use Rattle.bar_rules.specs.Member.{Session, Member}
use Rattle.bar_rules.specs.Peer.Log.{Log, kept}
use Rattle.bar_caster.specs.declared.evictions.Evictions.{Evictions}
use Rattle.bar_caster.specs.declared.item.Item.{Item}
use Rattle.bar_caster.specs.declared.order.Order.{Order}
use Rattle.bar_caster.specs.declared.item.Item.TheVariants as items
use Rattle.bar_caster.specs.Code.Evictions.{AreOfLog}
use Rattle.bar_caster.specs.Code.Orders.{Orders, orders_to}
use Rattle.bar_caster.specs.Code.Ticking.{block_orders, update_now}
use Rattle.bar_caster.proofs.Listing.{one_more, room-tells}

-- the order for a peer, if it passes
abbrev pub order_if : Item → ℕ → Bool → List Order
order_if item peer b = if b then record { peer = peer; item = item } ∷ [] else []

-- the orders for those of the first n peers that pass
abbrev pub pushed_to : Item → (ℕ → Bool) → ℕ → List Order
pushed_to item passes n = orders_to item (filter passes (range_with_len 1 n))

-- If the peer passes, its order is appended to the queue; otherwise nothing is.
pub record IsPushed (old new : Orders) (item : Item) (peer : ℕ) (b : Bool) : Type 0 where
  pub list : length old.list.items < old.room → new.list.items ≡ old.list.items ++ order_if item peer b
  pub length : length new.list.items ≤ length old.list.items + 1
  pub room : new.room ≡ old.room
  pub given : new.given ≡ old.given

pub not_pushed : (old : Orders) (item : Item) (peer : ℕ) (b : Bool) → b ≡ false → IsPushed old old item peer b
not_pushed old item peer b is = record {
  list = λ left. sym (append-nil old.list.items) ∙ ap (λ (b : Bool). old.list.items ++ order_if item peer b) (sym is);
  length = omega arith;
  room = refl;
  given = refl;
}

one-more : (item : Item) (passes : ℕ → Bool) (n : ℕ) (b : Bool) → passes (n + 1) ≡ b
    → pushed_to item passes (n + 1) ≡ pushed_to item passes n ++ order_if item (n + 1) b
one-more item passes n true is =
    ap (orders_to item) (one_more passes n true is) ∙ map-append _ (filter passes (range_with_len 1 n)) ((n + 1) ∷ [])
one-more item passes n false is =
    ap (orders_to item) (one_more passes n false is) ∙ map-append _ (filter passes (range_with_len 1 n)) []

-- the orders with one more peer
pub pushed-more : (item : Item) (passes : ℕ → Bool) (n : ℕ) (b : Bool) (start old new : List Order) → old ≡ start ++ pushed_to item passes n
    → new ≡ old ++ order_if item (n + 1) b → passes (n + 1) ≡ b → new ≡ start ++ pushed_to item passes (n + 1)
pushed-more item passes n b start old new so now is =
    now
    ∙ ap (λ list. list ++ order_if item (n + 1) b) so
    ∙ append_assoc start (pushed_to item passes n) (order_if item (n + 1) b)
    ∙ ap (λ list. start ++ list) (sym (one-more item passes n b is))

-- whether a peer is sent the block of this round with this index
abbrev pub gets_block : Member → Log → ℕ → ℕ → Bool
gets_block me log index q = is_none (kept log q) && is_in_fanout me (update_now log index) q

none-kept : {X : Type 0} (o : Option X) → is_none o ≡ not (is_some o)
none-kept None = refl
none-kept (Some v) = refl

-- a peer is served if it isn't evicted
pub is-served : (s : Session) (e : Evictions) (log : Log) (q : ℕ) (b : Bool) → AreOfLog s e log → IsPeer s.shape q
    → b ≡ is_some (kept_in e.evidence q) → is_none (kept log q) ≡ not b
is-served s e log q b are peer is = none-kept (kept log q) ∙ ap not (sym (is ∙ room-tells s e log q are peer))

-- ---- the blocks of a round

-- the orders of one block
abbrev pub orders_of_block : Member → Log → ℕ → List Order
orders_of_block me log index = orders_to (items.Block index) (filter (is_in_fanout me (update_now log index)) (served me.session log))

-- the orders with one more block
pub blocks-more : (me : Member) (log : Log) (n : ℕ) → block_orders me log 0 (n + 1) ≡ block_orders me log 0 n ++ orders_of_block me log n
blocks-more me log n =
    let last : 0 + n ≡ n = omega arith in
    ap (flat_map (orders_of_block me log)) (range_more 0 n)
    ∙ flat_map-append (orders_of_block me log) (range_with_len 0 n) ((0 + n) ∷ [])
    ∙ ap (λ list. block_orders me log 0 n ++ list) (append-nil (orders_of_block me log (0 + n)))
    ∙ ap (λ index. block_orders me log 0 n ++ orders_of_block me log index) last

pub orders-more : (me : Member) (log : Log) (n : ℕ) (start old new : List Order) → old ≡ start ++ block_orders me log 0 n
    → new ≡ old ++ orders_of_block me log n → new ≡ start ++ block_orders me log 0 (n + 1)
orders-more me log n start old new so now =
    now
    ∙ ap (λ list. list ++ orders_of_block me log n) so
    ∙ append_assoc start (block_orders me log 0 n) (orders_of_block me log n)
    ∙ ap (λ list. start ++ list) (sym (blocks-more me log n))

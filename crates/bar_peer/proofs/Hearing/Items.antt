-- The blocks of an opened briefcase, item by item.
use Rattle.std.proofs.Common.{◌≡◌, ◌<◌, ◌∙◌, ℕ, zero, suc, ◌+◌, Bool, true, false, List, [], ◌∷◌, take, length, slice_index_or, Option, Some, None, ap, refl, arith, if◌then◌else◌}
use Rattle.std.specs.Option.{option_or}
use Rattle.bar_window.specs.declared.update.UpdateId.{UpdateId}
use Rattle.bar_terms.specs.declared.items.Item.{Item}
use Rattle.bar_terms.specs.Table.{Table}
use Rattle.bar_peer.specs.Code.Opening.{block_in_item, block_in_items}
use Rattle.bar_bytes.proofs.Options.{or-none}

pub or_or : {A : Type 0} (o p q : Option A) → option_or o (option_or p q) ≡ option_or (option_or o p) q
or_or None p q = refl
or_or (Some x) p q = refl

pub none_if : (b : Bool) → ◌≡◌ {A = Option (List ℕ)} None (if b then None else None)
none_if true = refl
none_if false = refl

-- ---- all items

next_item : (table : Table) (life now : ℕ) (items : List Item) (blocks : List (List ℕ)) (k : ℕ) (d : Item) (b : List ℕ) (u : UpdateId)
    → k < length items → k < length blocks
    → block_in_items table life now (take (suc k) items) blocks u
    ≡ option_or (block_in_items table life now (take k items) blocks u) (block_in_item table life now (slice_index_or items k d) (slice_index_or blocks k b) u)
next_item table life now [] blocks k d b u below within = absurd (omega (arith, below))
next_item table life now (item ∷ items) [] k d b u below within = absurd (omega (arith, within))
next_item table life now (item ∷ items) (block ∷ blocks) zero d b u below within = or-none (block_in_item table life now item block u)
next_item table life now (item ∷ items) (block ∷ blocks) (suc k) d b u below within =
    ap (option_or (block_in_item table life now item block u)) (next_item table life now items blocks k d b u (omega (arith, below)) (omega (arith, within)))
    ∙ or_or (block_in_item table life now item block u) (block_in_items table life now (take k items) blocks u) _

-- adding an item puts its block after the others
pub items_more : (table : Table) (life now : ℕ) (items : List Item) (blocks : List (List ℕ)) (k : ℕ) (d : Item) (b : List ℕ) (u : UpdateId)
    → k < length items → k < length blocks
    → block_in_items table life now (take (k + 1) items) blocks u
    ≡ option_or (block_in_items table life now (take k items) blocks u) (block_in_item table life now (slice_index_or items k d) (slice_index_or blocks k b) u)
items_more table life now items blocks k d b u below within =
    let next : k + 1 ≡ suc k = omega arith in
    ap (λ n. block_in_items table life now (take n items) blocks u) next ∙ next_item table life now items blocks k d b u below within

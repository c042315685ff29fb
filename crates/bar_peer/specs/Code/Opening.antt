-- The blocks that a peer holds of an opened briefcase.
use Rattle.std.specs.Prelude.{◌≡◌, ℕ, ◌+◌, ◌≤◌, ◌&&◌, Bool, true, List, [], ◌∷◌, Option, Some, None, is_some, nat_le, nat_lt, take, if◌then◌else◌}
use Rattle.std.specs.Bool.{then_some}
use Rattle.std.specs.Option.{option_or}
use Rattle.bar_window.specs.declared.exchange.Exchange.{Exchange}
use Rattle.bar_window.specs.declared.update.UpdateId.{UpdateId}
use Rattle.bar_window.specs.Updates.{same_update}
use Rattle.bar_terms.specs.declared.items.Item.{Item}
use Rattle.bar_terms.specs.declared.items.Item.TheVariants.{Update, Junk}
use Rattle.bar_terms.specs.declared.items.Promise.{Promise}
use Rattle.bar_terms.specs.Table.{Table, digest_of}
use Rattle.bar_wire.specs.Datagram.{Briefcase}
use Rattle.bar_rules.specs.Member.{Session, is_alive}
use Rattle.bar_rules.specs.Peer.Admission.{has_digest}
use Rattle.bar_rules.specs.Peer.Holdings.{block_opened}

-- whether a block has an update's digest in a table, and the update is alive in round `now`, if updates live for `life` rounds, and is of
-- the next round at most
abbrev pub is_to_hold : Table → ℕ → ℕ → UpdateId → List ℕ → Bool
is_to_hold table life now u block = nat_le u.round (now + 1) && (nat_lt now (u.round + life) && has_digest (digest_of table u) block)

-- the block of an update, if it is that of the item
abbrev pub block_in_item : Table → ℕ → ℕ → Item → List ℕ → UpdateId → Option (List ℕ)
block_in_item table life now (Update v) block u = then_some (is_to_hold table life now v block && same_update u v) block
block_in_item table life now (Junk number) block u = None

-- the block of an update, if it is that of one of the items, each of which has a block: the first one
abbrev pub block_in_items : Table → ℕ → ℕ → List Item → List (List ℕ) → UpdateId → Option (List ℕ)
block_in_items table life now [] blocks u = None
block_in_items table life now (item ∷ items) [] u = None
block_in_items table life now (item ∷ items) (block ∷ blocks) u =
    option_or (block_in_item table life now item block u) (block_in_items table life now items blocks u)

-- the items of a promise
abbrev pub items_in : Option Promise → List Item
items_in None = []
items_in (Some promise) = take promise.len promise.items

-- the table has lists only of rounds up to the next one
abbrev pub IsNear : Table → ℕ → Type 0
IsNear table now = (round : ℕ) → is_some (table round) ≡ true → round ≤ now + 1

-- the block of an alive update that a key gives from a briefcase
abbrev pub block_given : Session → ℕ → Table → Exchange → UpdateId → List ℕ → Option Briefcase → Option (List ℕ)
block_given s now table x u key case = if is_alive s u.round now then block_opened s table x u key case else None

-- The blocks of a promise's items are those that a key gives from a briefcase.
abbrev pub AreGiven : Session → ℕ → Table → Exchange → List ℕ → Option Briefcase → List Item → List (List ℕ) → Type 0
AreGiven s now table x key case items blocks =
    (u : UpdateId) → block_in_items table s.shape.life now items blocks u ≡ block_given s now table x u key case

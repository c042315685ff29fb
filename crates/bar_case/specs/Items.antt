-- The items of a briefcase as bytes.
use Rattle.std.specs.Prelude.{ℕ, ◌+◌, ◌*◌, List, [], ◌∷◌, drop, length, codes, Option, unwrap_or, flat_map}
use Rattle.bar_bytes.specs.Tag.{tagged}
use Rattle.bar_window.specs.Limits.{block_size, junk_size}
use Rattle.bar_window.specs.declared.update.UpdateId.{UpdateId}
use Rattle.bar_window.specs.declared.exchange.Exchange.{Exchange}
use Rattle.bar_window.specs.declared.exchange.Role.{Role}
use Rattle.bar_window.specs.Exchange.{exchange_bytes}
use Rattle.bar_window.specs.Terms.{Terms}
use Rattle.bar_terms.specs.declared.items.Item.{Item}
use Rattle.bar_terms.specs.declared.items.Item.TheVariants.{Update, Junk}
use Rattle.bar_terms.specs.Terms.{promised_updates, promised_junk}
use Rattle.bar_case.specs.Keystream.{keystream}

abbrev pub item_len : Item → ℕ
item_len (Update u) = block_size
item_len (Junk t) = junk_size

abbrev pub items_len : List Item → ℕ
items_len [] = 0
items_len (item ∷ items) = item_len item + items_len items

-- how many bytes a side's promise has
abbrev pub promised_len : ℕ → Terms → Role → ℕ
promised_len cap terms role = block_size * length (promised_updates cap terms role) + junk_size * promised_junk terms role

-- the key of the junk of an exchange
unfoldable pub junk_key : List ℕ → Exchange → List ℕ
junk_key id x = tagged (codes "JNK1") id (exchange_bytes x)

-- a piece of junk by its number, from the key of the junk
abbrev pub junk_item : List ℕ → ℕ → List ℕ
junk_item key t = drop (junk_size * t) (keystream key (junk_size * t + junk_size))

-- an item's bytes, from the key of the junk and the blocks of held updates
abbrev pub item_bytes : List ℕ → (UpdateId → Option (List ℕ)) → Item → List ℕ
item_bytes junk blocks (Update u) = unwrap_or (blocks u) []
item_bytes junk blocks (Junk t) = junk_item junk t

-- the bytes of items, one after another
abbrev pub plaintext : List ℕ → (UpdateId → Option (List ℕ)) → List Item → List ℕ
plaintext junk blocks items = flat_map (item_bytes junk blocks) items

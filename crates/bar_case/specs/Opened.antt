-- The result of opening a briefcase with a key.
use Rattle.std.specs.Prelude.{◌≡◌, ℕ, ◌+◌, Bool, true, false, List, [], ◌∷◌, length, take, drop, position, Option, Some, None, if◌then◌else◌, bytes_eq}
use Rattle.std.specs.Simd.{first_chunks}
use Rattle.sha2.specs.Sha256.{sha256}
use Rattle.bar_window.specs.Limits.{block_size}
use Rattle.bar_window.specs.declared.update.UpdateId.{UpdateId}
use Rattle.bar_window.specs.declared.exchange.Exchange.{Exchange}
use Rattle.bar_window.specs.declared.exchange.Role.{Role}
use Rattle.bar_window.specs.Terms.{Terms}
use Rattle.bar_terms.specs.declared.items.Item.{Item}
use Rattle.bar_terms.specs.declared.items.Item.TheVariants.{Update, Junk}
use Rattle.bar_terms.specs.Table.{Table, Digest, Known, PastEnd, NoManifest, digest_of}
use Rattle.bar_terms.specs.Terms.{promise, promised_updates}
use Rattle.bar_case.specs.declared.findings.Finding.{Finding}
use Rattle.bar_case.specs.declared.findings.Finding.TheVariants.{Sound, Broken, Untold}
use Rattle.bar_case.specs.declared.findings.Opening.{Opening}
use Rattle.bar_case.specs.declared.findings.Opening.TheVariants.{Good, Bad, Unknown}
use Rattle.bar_case.specs.Keystream.{keystream, xor_bytes}
use Rattle.bar_case.specs.Items.{item_len, junk_key, junk_item}

-- ---- one item

abbrev pub sound_if : Bool → Finding
sound_if ok = if ok then Sound else Broken

-- the finding for a block, by a digest
abbrev pub digest_finding : Digest → List ℕ → Finding
digest_finding (Known d) block = sound_if (bytes_eq (sha256 block) d)
digest_finding PastEnd block = Broken
digest_finding NoManifest block = Untold

-- the finding for an opened item, by a table and the key of the junk
abbrev pub item_finding : Table → List ℕ → Item → List ℕ → Finding
item_finding table junk (Update u) bytes = digest_finding (digest_of table u) bytes
item_finding table junk (Junk t) bytes = sound_if (bytes_eq bytes (junk_item junk t))

-- ---- all items

-- the findings for items that follow one another in some bytes
abbrev pub findings : Table → List ℕ → List Item → List ℕ → List Finding
findings table junk [] bytes = []
findings table junk (item ∷ items) bytes =
    item_finding table junk item (take (item_len item) bytes) ∷ findings table junk items (drop (item_len item) bytes)

abbrev pub is_broken : Finding → Bool
is_broken Sound = false
is_broken Broken = true
is_broken Untold = false

abbrev pub is_untold : Finding → Bool
is_untold Sound = false
is_untold Broken = false
is_untold Untold = true

abbrev pub opening_by : Option ℕ → Option ℕ → ℕ → Opening
opening_by (Some item) untold count = Bad item
opening_by None (Some item) count = Unknown item
opening_by None None count = Good count

-- the first broken item, else the first unknown one, else the number of the items
abbrev pub opening_of : List Finding → Opening
opening_of fs = opening_by (position is_broken fs) (position is_untold fs) (length fs)

abbrev pub is_bad : Opening → Bool
is_bad (Bad item) = true
is_bad (Good count) = false
is_bad (Unknown item) = false

-- the opening after the finding of the next item, which has this number
abbrev pub next_opening : Opening → Finding → ℕ → Opening
next_opening (Bad i) f n = Bad i
next_opening (Unknown i) f n = if is_broken f then Bad n else Unknown i
next_opening (Good i) Sound n = Good (n + 1)
next_opening (Good i) Broken n = Bad n
next_opening (Good i) Untold n = Unknown n

-- a block after an item is opened: the item's bytes if it is an update, else unchanged
abbrev pub block_after : Item → List ℕ → List ℕ → List ℕ
block_after (Update u) bytes block = bytes
block_after (Junk t) bytes block = block

-- the blocks after items are opened that follow one another in some bytes
abbrev pub blocks_after : List Item → List ℕ → List (List ℕ) → List (List ℕ)
blocks_after [] bytes blocks = blocks
blocks_after (item ∷ items) bytes [] = []
blocks_after (item ∷ items) bytes (block ∷ blocks) =
    block_after item (take (item_len item) bytes) block ∷ blocks_after items (drop (item_len item) bytes) blocks

-- ---- a briefcase

-- the plaintext of a cipher under a key
abbrev pub opened : List ℕ → List ℕ → List ℕ
opened key cipher = xor_bytes cipher (keystream key (length cipher))

-- the result of opening the cipher of a side's promise with a key
unfoldable pub opening : List ℕ → Exchange → ℕ → Terms → Role → List ℕ → List ℕ → Table → Opening
opening id x cap terms role cipher key table =
    opening_of (findings table (junk_key id x) (promise cap terms role) (opened key cipher))

-- the opened blocks of the promised updates, in order
unfoldable pub opened_blocks : ℕ → Terms → Role → List ℕ → List ℕ → List (List ℕ)
opened_blocks cap terms role cipher key = first_chunks block_size (length (promised_updates cap terms role)) (opened key cipher)

-- the table has the digest of each update's block
abbrev pub AreTold : Table → List UpdateId → List (List ℕ) → Type 0
AreTold table [] blocks = Unit {0}
AreTold table (u ∷ us) [] = ⊥
AreTold table (u ∷ us) (block ∷ blocks) = (digest_of table u ≡ Known (sha256 block)) × AreTold table us blocks

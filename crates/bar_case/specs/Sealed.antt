-- The cipher that a side of an exchange seals.
use Rattle.std.specs.Prelude.{◌≡◌, ◌⊎◌, ℕ, List, length, Option, Some, IsSome}
use Rattle.sha2.specs.Sha256.{sha256}
use Rattle.bar_window.specs.Limits.{block_size}
use Rattle.bar_window.specs.declared.update.UpdateId.{UpdateId}
use Rattle.bar_window.specs.declared.exchange.Exchange.{Exchange}
use Rattle.bar_window.specs.declared.exchange.Role.{Role}
use Rattle.bar_window.specs.Terms.{Terms}
use Rattle.bar_terms.specs.declared.items.Item.{Item}
use Rattle.bar_terms.specs.declared.items.Item.TheVariants.{Update, Junk}
use Rattle.bar_terms.specs.Table.{Table, digest_of, Known, NoManifest}
use Rattle.bar_terms.specs.Terms.{promise}
use Rattle.bar_case.specs.Keystream.{keystream, xor_bytes}
use Rattle.bar_case.specs.Items.{junk_key, plaintext}

-- the cipher of a side's promise under a key, from the blocks of held updates
unfoldable pub sealed : List ℕ → Exchange → ℕ → Terms → Role → List ℕ → (UpdateId → Option (List ℕ)) → List ℕ
sealed id x cap terms role key blocks =
    let plain = plaintext (junk_key id x) blocks (promise cap terms role) in
    xor_bytes plain (keystream key (length plain))

-- If an item is an update, its block is held.
abbrev pub IsHeldItem : (UpdateId → Option (List ℕ)) → Item → Type 0
IsHeldItem blocks (Update u) = IsSome (blocks u)
IsHeldItem blocks (Junk t) = Unit {0}

-- The update is held with a block of 1,024 bytes, and the table has the digest of this block or lacks the round.
pub record MatchesTable (table : Table) (blocks : UpdateId → Option (List ℕ)) (u : UpdateId) : Type 0 where
  pub block : List ℕ
  pub held : blocks u ≡ Some block
  pub whole : length block ≡ block_size
  pub told : (digest_of table u ≡ NoManifest) ⊎ (digest_of table u ≡ Known (sha256 block))

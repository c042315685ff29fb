-- What a store holds, and the outcome for a block.
use Rattle.std.specs.Prelude.{◌≡◌, ℕ, ◌+◌, ◌/◌, length, Bool, true, false, List, Option, nat_lt, is_some, if◌then◌else◌}
use Rattle.std.specs.Simd.{first_chunks}
use Rattle.std.specs.Str.{bytes_eq}
use Rattle.sha2.specs.Sha256.{sha256}
use Rattle.bar_window.specs.declared.update.UpdateId.{UpdateId}
use Rattle.bar_terms.specs.Table.{Digest, Known, PastEnd, NoManifest, digest_of, digests_of}
use Rattle.bar_store.specs.declared.added.Added.{Added}
use Rattle.bar_store.specs.declared.added.Added.TheVariants as code
use Rattle.bar_store.specs.declared.store.Store.{Store}
use Rattle.bar_store.specs.Code.Rooms.{block_at}

-- the block of an update, if it is held
unfoldable pub block_in : Store → UpdateId → Option (List ℕ)
block_in s u = block_at s.life s.per_round s.round s.rooms.items u

-- concatenated digests, as a list
abbrev pub digest_list : List ℕ → List (List ℕ)
digest_list bytes = first_chunks 32 (length bytes / 32) bytes

abbrev pub by_digest : Digest → Bool → List ℕ → Added
by_digest NoManifest held block = code.NoManifest
by_digest PastEnd held block = code.PastEnd
by_digest (Known d) held block = if bytes_eq (sha256 block) d then (if held then code.Held else code.New) else code.WrongDigest

-- the first outcome that holds
abbrev pub cause_of : Store → UpdateId → List ℕ → ℕ → Added
cause_of s u block now =
    if nat_lt now (u.round + s.life) then by_digest (digest_of (digests_of s.table.lists) u) (is_some (block_in s u)) block else code.Late

abbrev pub is_new : Added → Bool
is_new code.New = true
is_new _ = false

-- The table and the parameters are the same.
pub record HasSame (old new : Store) : Type 0 where
  pub table : new.table ≡ old.table
  pub life : new.life ≡ old.life
  pub per_round : new.per_round ≡ old.per_round
  pub wide : new.wide ≡ old.wide
  pub round : new.round ≡ old.round

-- The blocks and the parameters are the same.
pub record HasSameBlocks (old new : Store) : Type 0 where
  pub rounds : new.table.rounds ≡ old.table.rounds
  pub per_round : new.table.per_round ≡ old.table.per_round
  pub life : new.life ≡ old.life
  pub wide : new.wide ≡ old.wide
  pub round : new.round ≡ old.round
  pub blocks : (u : UpdateId) → block_in new u ≡ block_in old u

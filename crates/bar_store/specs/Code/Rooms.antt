-- The rooms of a store. The block of an update is in the room of its round and index, and the rooms of a round are used again after life +
-- 3 rounds.
use Rattle.std.specs.Prelude.{◌≡◌, ℕ, ◌+◌, ◌*◌, ◌%◌, ◌<◌, ◌≤◌, List, length, Option, Some, None, slice_index_or, nat_le, if◌then◌else◌}
use Rattle.std.specs.Bool.{then_some}
use Rattle.bar_window.specs.declared.update.UpdateId.{UpdateId}
use Rattle.bar_window.specs.Updates.{same_update}
use Rattle.bar_store.specs.declared.kept_block.KeptBlock.{KeptBlock}

abbrev pub room_of : ℕ → ℕ → UpdateId → ℕ
room_of life per_round u = u.round % (life + 3) * per_round + u.index

-- the block in a room, if it is that of the update
abbrev pub block_if : UpdateId → Option KeptBlock → Option (List ℕ)
block_if u None = None
block_if u (Some k) = then_some (same_update u k.id) k.block

-- the block of an update, if it is held: it is in its room, and its round isn't forgotten
abbrev pub block_at : ℕ → ℕ → ℕ → List (Option KeptBlock) → UpdateId → Option (List ℕ)
block_at life per_round round rooms u =
    if nat_le round (u.round + life + 1) then block_if u (slice_index_or rooms (room_of life per_round u) None) else None

-- There are rooms for `per_round` updates of each of life + 3 rounds, and none has a block of a round after the next one.
pub record HasBlockRooms (life per_round now : ℕ) (rooms : List (Option KeptBlock)) : Type 0 where
  pub count : length rooms ≡ (life + 3) * per_round
  pub near : (room : ℕ) (k : KeptBlock) → slice_index_or rooms room None ≡ Some k → k.id.round ≤ now + 1
  pub few : (room : ℕ) (k : KeptBlock) → slice_index_or rooms room None ≡ Some k → k.id.index < per_round

-- What the code reads of a table file, as values.
use Rattle.std.specs.Prelude.{◌≡◌, ℕ, ◌/◌, ◌%◌, ◌<◌, ◌≤◌, List, length}
use Rattle.std.specs.Borrow.{Bor}
use Rattle.std.specs.Simd.{first_chunks}
use Rattle.bar_wire.specs.declared.shape.Shape.{Shape}
use Rattle.bar_judge.specs.declared.entries.First.{First as RawFirst}
use Rattle.bar_judge.specs.declared.entries.First.TheVariants as raw
use Rattle.bar_judge.specs.TableFile.{First, NoByte, Entry, NoEntry, RoundList}

-- the value that a first entry represents
abbrev pub plain_first : RawFirst → First
plain_first raw.NoByte = NoByte
plain_first (raw.Entry manifest rest) = Entry manifest.now rest.now
plain_first raw.NoEntry = NoEntry

-- the value that a round and the bytes of its digests represent
abbrev pub plain_list : ℕ × Bor (List ℕ) → RoundList
plain_list list = (list.0, first_chunks 32 (length list.1.now / 32) list.1.now)

-- A list of a round after the last one, for which a table of the session has room.
pub record HasPlace (s : Shape) (last : ℕ) (list : ℕ × Bor (List ℕ)) : Type 0 where
  pub after : last < list.0
  pub round : list.0 ≤ s.rounds
  pub whole : length list.1.now % 32 ≡ 0
  pub few : length list.1.now / 32 ≤ s.per_round

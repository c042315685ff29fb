-- Which histories some initial content of the files fits.
use Rattle.std.specs.Prelude.{◌≡◌, ◌≢◌, ◌≤◌, ℕ, List, [], ◌∷◌, length, IsTrue}
use Rattle.std.specs.List.{AllByRecursion}
use Rattle.bar_outside.specs.Disk.{Content, largest_file}
use Rattle.bar_told.specs.Event.{Event, read, made, added}
use Rattle.bar_system.specs.History.{fits_of}

-- a read of these bytes agrees with an earlier call if that call was on another file, or read the same bytes
abbrev pub AgreesWith : List ℕ → List ℕ → Event → Type 0
AgreesWith path bytes (read name others) = name ≡ path → others ≡ bytes
AgreesWith path bytes (made name) = name ≢ path
AgreesWith path bytes (added name others) = name ≢ path
AgreesWith path bytes _ = Unit {0}

-- a read gave at most `largest_file` bytes, and agrees with each earlier call
abbrev pub IsReadAlike : Event → List Event → Type 0
IsReadAlike (read path bytes) before = (length bytes ≤ largest_file) × AllByRecursion (AgreesWith path bytes) before
IsReadAlike _ before = Unit {0}

-- each file was read only before it was written, and every read of it gave the same bytes
abbrev pub AreReadAlike : List Event → Type 0
AreReadAlike [] = Unit {0}
AreReadAlike (event ∷ before) = IsReadAlike event before × AreReadAlike before

-- If `AreReadAlike` holds of a history, then some initial content fits it.
abbrev pub SomeContentFits : Type 0
SomeContentFits = (events : List Event) → AreReadAlike events → (was : Content) × IsTrue (fits_of events was)

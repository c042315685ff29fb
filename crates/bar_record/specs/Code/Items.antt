-- The first entries of some bytes.
use Rattle.std.specs.Prelude.{ℕ, zero, suc, List, [], ◌∷◌}
use Rattle.bar_wire.specs.Inputs.{Input, plain_input}
use Rattle.bar_record.specs.declared.first.First.{First as RawFirst}
use Rattle.bar_record.specs.declared.first.First.TheVariants as raw
use Rattle.bar_record.specs.Recording.{First, NoByte, End, Entry, NoEntry, first_of}

-- the value that a first entry represents
abbrev pub plain_first : RawFirst → First
plain_first raw.NoByte = NoByte
plain_first (raw.End rest) = End rest.now
plain_first (raw.Entry input rest) = Entry (plain_input input) rest.now
plain_first raw.NoEntry = NoEntry

abbrev pub entries_by : (List ℕ → List Input) → First → List Input
entries_by rest_of (Entry input rest) = input ∷ rest_of rest
entries_by rest_of NoByte = []
entries_by rest_of (End rest) = []
entries_by rest_of NoEntry = []

-- the first so many entries of some bytes
unfoldable pub entries : ℕ → List ℕ → List Input
entries zero bytes = []
entries (suc n) bytes = entries_by (entries n) (first_of bytes)

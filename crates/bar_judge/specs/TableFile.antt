-- Table files: the manifests of a broadcaster, in increasing order of rounds.
use Rattle.std.specs.Prelude.{◌≡◌, ℕ, zero, suc, ◌+◌, nat_le, nat_lt, List, [], ◌∷◌, length, take, drop, Option, Some, None, option_and_then, option_map, Result, Ok, Err, if◌then◌else◌}
use Rattle.std.specs.List.{flat_map}
use Rattle.bar_bytes.specs.Bytes.{first_u16}
use Rattle.bar_terms.specs.Table.{Table, Lists, digests_of}
use Rattle.bar_wire.specs.Datagram.{Datagram, Body, Manifest}
use Rattle.bar_wire.specs.Grammar.{entry as entry_bytes}
use Rattle.bar_rules.specs.Member.{Session}
use Rattle.bar_rules.specs.Values.{datagram_of, is_signed_by}
use Rattle.bar_judge.specs.declared.table_fault.TableFault.{TableFault}
use Rattle.bar_judge.specs.declared.table_fault.TableFault.TheVariants.{BadEntry}

-- ---- writing

-- the file of some MANIFESTs: for each one its length in two bytes, and its bytes
abbrev pub table_bytes : List (List ℕ) → List ℕ
table_bytes manifests = flat_map entry_bytes manifests

-- ---- reading

-- a round and its list
abbrev pub RoundList : Type 0
RoundList = ℕ × List (List ℕ)

abbrev pub list_in : Body → Option RoundList
list_in (Manifest round digests) = Some (round, digests)
list_in _ = None

abbrev pub list_of_signed : Session → Datagram → Option RoundList
list_of_signed s d = if is_signed_by s d then list_in d.message.body else None

abbrev pub if_after : ℕ → RoundList → Option RoundList
if_after last entry = if nat_lt last entry.0 then Some entry else None

-- the list that bytes give, if they encode a MANIFEST with an accepted signature, of a round after the last one
abbrev pub list_after : Session → ℕ → List ℕ → Option RoundList
list_after s last bytes = option_and_then (if_after last) (option_and_then (list_of_signed s) (datagram_of s bytes))

-- what bytes begin with, and what follows it
pub data First : Type 0 where
  NoByte : First
  Entry : (manifest rest : List ℕ) → First
  NoEntry : First

-- so many bytes, and what follows them, if that many are there
abbrev pub sized_first : ℕ → List ℕ → First
sized_first len rest = if nat_le len (length rest) then Entry (take len rest) (drop len rest) else NoEntry

unfoldable pub first_of : List ℕ → First
first_of [] = NoByte
first_of (high ∷ []) = NoEntry
first_of (high ∷ low ∷ rest) = sized_first (first_u16 (high ∷ low ∷ rest)) rest

abbrev pub before : RoundList → Result Lists TableFault → Result Lists TableFault
before entry (Ok lists) = Ok (entry ∷ lists)
before entry (Err fault) = Err fault

abbrev pub lists_behind : (ℕ → Result Lists TableFault) → ℕ → Option RoundList → Result Lists TableFault
lists_behind rest_of at (Some entry) = before entry (rest_of entry.0)
lists_behind rest_of at None = Err (BadEntry at)

-- The lists, given the first entry of bytes at this place, after the last round so far. The rest is read given its last round, its place
-- and its bytes.
abbrev pub lists_by : (ℕ → ℕ → List ℕ → Result Lists TableFault) → Session → ℕ → ℕ → First → Result Lists TableFault
lists_by rest_of s last at NoByte = Ok []
lists_by rest_of s last at NoEntry = Err (BadEntry at)
lists_by rest_of s last at (Entry manifest rest) =
    lists_behind (λ round. rest_of round (at + length (entry_bytes manifest)) rest) at (list_after s last manifest)

-- the lists of the entries of the bytes, of which at most so many are read
unfoldable pub lists_from : ℕ → Session → ℕ → ℕ → List ℕ → Result Lists TableFault
lists_from zero s last at bytes = Err (BadEntry at)
lists_from (suc most) s last at bytes = lists_by (λ round at rest. lists_from most s round at rest) s last at (first_of bytes)

-- The lists of a table file, or the place of the first entry that is cut, encodes no MANIFEST, has no accepted signature, or is of a round
-- not above the one before. Each entry has at least two bytes, so no more entries are read than there are bytes.
abbrev pub table_of : Session → List ℕ → Result Lists TableFault
table_of s bytes = lists_from (suc (length bytes)) s 0 0 bytes

-- a table has these lists, and no others
abbrev pub HasLists : Result Lists TableFault → Table → Type 0
HasLists (Ok lists) table = (round : ℕ) → table round ≡ digests_of lists round
HasLists (Err fault) table = ⊥

-- the lists of MANIFESTs of a session, if each has an accepted signature and a round above the one before; `last` is the round before the
-- first
abbrev pub lists_of : Session → ℕ → List (List ℕ) → Option Lists
lists_of s last [] = Some []
lists_of s last (manifest ∷ manifests) =
    option_and_then (λ entry. option_map (λ lists. entry ∷ lists) (lists_of s entry.0 manifests)) (list_after s last manifest)

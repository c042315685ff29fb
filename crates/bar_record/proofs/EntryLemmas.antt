-- The first entries of some bytes, one after another.
use Rattle.std.proofs.Common.{◌≡◌, ℕ, zero, suc, ◌-◌, ◌<◌, ◌≤◌, List, [], ◌∷◌, length, refl, arith}
use Rattle.bar_wire.specs.Inputs.{Input}
use Rattle.bar_record.specs.Recording.{First, NoByte, End, Entry, NoEntry, first_of}
use Rattle.bar_record.specs.Code.Items.{entries, entries_by}

-- one entry, and those after it
pub entries_entry : (n : ℕ) (bytes rest : List ℕ) (input : Input) → 0 < n → first_of bytes ≡ Entry input rest → entries n bytes ≡ input ∷ entries (n - 1) rest
unfolding entries
entries_entry zero bytes rest input some is = absurd (omega arith)
entries_entry (suc n) bytes rest input some is = let e : suc n - 1 ≡ n = omega arith in rw (e, is) refl

-- nothing follows what is no entry
pub entries_no_byte : (n : ℕ) (bytes : List ℕ) → first_of bytes ≡ NoByte → entries n bytes ≡ []
unfolding entries
entries_no_byte zero bytes is = refl
entries_no_byte (suc n) bytes is = rw is refl

pub entries_end : (n : ℕ) (bytes rest : List ℕ) → first_of bytes ≡ End rest → entries n bytes ≡ []
unfolding entries
entries_end zero bytes rest is = refl
entries_end (suc n) bytes rest is = rw is refl

pub entries_no_entry : (n : ℕ) (bytes : List ℕ) → first_of bytes ≡ NoEntry → entries n bytes ≡ []
unfolding entries
entries_no_entry zero bytes is = refl
entries_no_entry (suc n) bytes is = rw is refl

pub entries_zero : (bytes : List ℕ) → entries 0 bytes ≡ []
unfolding entries
entries_zero bytes = refl

-- no more than so many
few-by : (n : ℕ) (f : First) → ((rest : List ℕ) → length (entries n rest) ≤ n) → length (entries_by (entries n) f) ≤ suc n
few-by n NoByte few = omega arith
few-by n (End rest) few = omega arith
few-by n NoEntry few = omega arith
few-by n (Entry input rest) few = let h : length (entries n rest) ≤ n = few rest in omega arith

pub entries_few : (n : ℕ) (bytes : List ℕ) → length (entries n bytes) ≤ n
unfolding entries
entries_few zero bytes = omega arith
entries_few (suc n) bytes = few-by n (first_of bytes) (entries_few n)

pub ruleset steps = (entries_entry, entries_no_byte, entries_end, entries_no_entry, entries_zero)

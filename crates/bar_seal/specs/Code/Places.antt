-- The places of a memo.
use Rattle.std.specs.Prelude.{⊤, ◌≡◌, ℕ, ◌<◌, List, [], ◌∷◌, None, length, nat_eq}
use Rattle.std.specs.List.{AllByRecursion, IsDistinct}
use Rattle.std.specs.Map.{keys_of}
use Rattle.lru.specs.LruCache.{LruCache}
use Rattle.bar_seal.specs.declared.checked.Checked.{Checked}
use Rattle.bar_seal.specs.Code.Memo.{most_key, most_datagram, pair_in}

-- A place has room for a key and a datagram.
pub record IsRoomy (c : Checked) : Type 0 where
  pub key : c.key.size ≡ most_key
  pub datagram : c.datagram.size ≡ most_datagram

abbrev pub AreRoomy : List (ℕ × Checked) → Type 0
AreRoomy = AllByRecursion (λ e. IsRoomy e.1)

-- Nothing is kept in any of them.
abbrev pub AreFree : List (ℕ × Checked) → Type 0
AreFree = AllByRecursion (λ e. pair_in e.1 ≡ None)

-- After a place in which nothing is kept, nothing is kept in any.
abbrev pub IsFilledFirst : List (ℕ × Checked) → Type 0
IsFilledFirst [] = ⊤
IsFilledFirst (e ∷ es) = (pair_in e.1 ≡ None → AreFree es) × IsFilledFirst es

-- Some places of a memo: each has its own number and its rooms, and those in which nothing is kept are last.
pub record AreSome (es : List (ℕ × Checked)) : Type 0 where
  pub apart : IsDistinct nat_eq (keys_of es)
  pub roomy : AreRoomy es
  pub filled : IsFilledFirst es

-- All places of a memo, which has at least one.
pub record AreAll (c : LruCache ℕ Checked) : Type 0 where
  pub some : AreSome c.entries
  pub count : length c.entries ≡ c.cap
  pub one : 0 < c.cap

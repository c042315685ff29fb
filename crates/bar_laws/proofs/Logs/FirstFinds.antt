-- What is found first remains the first, and was found in some entry.
use Rattle.bar_rules.specs.Peer.Log.{Log, Entry, earliest}
use Rattle.bar_rules.specs.Member.{Member}
use Rattle.bar_rules.specs.Peer.Rules.{IsObedient, Allows}
use Rattle.std.specs.Option.{option_or}
use Rattle.std.proofs.Common.{◌≡◌, ℕ, zero, suc, ◌<◌, [], ◌∷◌, ◌++◌, length, refl, sym, ap, subst, inl, inr, arith}
use Rattle.std.specs.Prelude.{Option, Some, None, ◌⊎◌, Contains, slice_index_or}

-- an earlier find remains the first
pub option_or-some : {A : Type 0} (o p : Option A) (a : A) → o ≡ Some a → option_or o p ≡ Some a
option_or-some o p a e = rw e

pub option_or-cases : {A : Type 0} (o p : Option A) (a : A) → option_or o p ≡ Some a → (o ≡ Some a) ⊎ ((o ≡ None) × (p ≡ Some a))
option_or-cases None p a e = inr (refl, e)
option_or-cases (Some b) p a e = inl e

-- what is found in a log is found in each longer one
pub earliest-more : {A : Type 0} (f : Log → Entry → Option A) (new log : Log) (a : A) → earliest f log ≡ Some a → earliest f (new ++ log) ≡ Some a
earliest-more f [] log a e = e
earliest-more f (x ∷ new) log a e = option_or-some (earliest f (new ++ log)) (f (new ++ log) x) a (earliest-more f new log a e)

-- an entry of a log, with the log before it
pub record IsEntry (log before : Log) (e : Entry) : Type 0 where
  pub after : Log
  pub split : log ≡ after ++ e ∷ before

pub entry-of : (log : Log) (e : Entry) → Contains log e → (before : Log) × IsEntry log before e
entry-of [] e c = absurd (omega (arith, c.1))
entry-of (x ∷ log) e c = go c.0 c.1 c.2 (entry-of log e)
  where
    go : (k : ℕ) → k < length (x ∷ log) → slice_index_or (x ∷ log) k e ≡ e → (Contains log e → (before : Log) × IsEntry log before e) → (before : Log) × IsEntry (x ∷ log) before e
    go zero lt at f = (log, record { after = []; split = ap (λ y. y ∷ log) at })
    go (suc k) lt at f = let w = f (k, omega (arith, lt), at) in (w.0, record { after = x ∷ w.1.after; split = ap (λ l. x ∷ l) w.1.split })

pub contains-entry : (log before : Log) (e : Entry) → IsEntry log before e → Contains log e
contains-entry log before e place = subst (λ l. Contains l e) (sym place.split) (go place.after)
  where
    go : (after : Log) → Contains (after ++ e ∷ before) e
    go [] = (0, omega arith, refl)
    go (x ∷ after) = let c = go after in (suc c.0, omega (arith, c.1), c.2)

-- what was found was found in an entry, and in none before it
pub record IsFind {A : Type 0} (f : Log → Entry → Option A) (log : Log) (a : A) : Type 0 where
  pub before : Log
  pub entry : Entry
  pub place : IsEntry log before entry
  pub found : f before entry ≡ Some a
  pub first : earliest f before ≡ None

pub find-of : {A : Type 0} (f : Log → Entry → Option A) (log : Log) (a : A) → earliest f log ≡ Some a → IsFind f log a
find-of f [] a e = cc
find-of f (x ∷ log) a e = pick (option_or-cases (earliest f log) (f log x) a e) (find-of f log a)
  where
    pick : (earliest f log ≡ Some a) ⊎ ((earliest f log ≡ None) × (f log x ≡ Some a)) → (earliest f log ≡ Some a → IsFind f log a) → IsFind f (x ∷ log) a
    pick (inl h) go =
        let w : IsFind f log a = go h in
        record { before = w.before; entry = w.entry; place = record { after = x ∷ w.place.after; split = ap (λ l. x ∷ l) w.place.split }; found = w.found; first = w.first }
    pick (inr h) go = record { before = log; entry = x; place = record { after = []; split = refl }; found = h.1; first = h.0 }

-- in an obedient log each entry was allowed, and the log before it is obedient
pub obedient-before : (me : Member) (new log : Log) → IsObedient me (new ++ log) → IsObedient me log
obedient-before me [] log h = h
obedient-before me (x ∷ new) log h = obedient-before me new log h.1

pub allowed-at : (me : Member) (log before : Log) (e : Entry) → IsEntry log before e → IsObedient me log → Allows me before e × IsObedient me before
allowed-at me log before e place h = obedient-before me place.after (e ∷ before) (subst (λ l. IsObedient me l) place.split h)

-- What the socket of a bound link was passed, and what it gave.
use Rattle.std.specs.Prelude.{◌≡◌, ℕ, List, [], ◌∷◌, ◌++◌, Option, None, Some, Result, Ok, Err, take}
use Rattle.std.specs.Option.{option_map}
use Rattle.bar_system.specs.Account.{Account, gave_all}
use Rattle.bar_system.specs.declared.bound.Bound.{Bound}

-- the datagram that arrived, if any
abbrev pub came_by : {E : Type 0} → List ℕ → Result (Option ℕ) E → List (List ℕ)
came_by buf (Ok (Some len)) = take len buf ∷ []
came_by buf (Ok None) = []
came_by buf (Err fault) = []

module _ {S : Type 0} where
  -- the session's port is unchanged, and the socket's account, if any, changes by `change`
  abbrev pub Changes : (S → Option Account) → (Account → Account) → Bound S → Bound S → Type 0
  Changes account change old new = (new.port ≡ old.port) × (account new.socket ≡ option_map change (account old.socket))

  -- the socket gave some datagrams that were dropped, and then these
  abbrev pub Gives : (S → Option Account) → List (List ℕ) → Bound S → Bound S → Type 0
  Gives account came old new = (dropped : List (List ℕ)) × Changes account (gave_all (dropped ++ came)) old new

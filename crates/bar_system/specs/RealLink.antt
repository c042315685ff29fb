-- What the real link reports, and what its socket was passed and gave.
use Rattle.std.specs.Prelude.{◌≡◌, ℕ, ◌+◌, List, [], ◌∷◌, Option, None, Some, Result, Ok, Err, take}
use Rattle.bar_outside.specs.Wire.{Wire}
use Rattle.bar_outside.specs.declared.link.Taken.{Taken}
use Rattle.bar_outside.specs.declared.link.Taken.TheVariants.{Tick, Datagram, End}
use Rattle.bar_system.specs.Account.{Account, IsOpened, handed_to}
use Rattle.bar_system.specs.Binding.{Changes, Gives}
use Rattle.bar_system.specs.History.{wire_by}
use Rattle.bar_system.specs.declared.bound.Bound.{Bound}
use Rattle.bar_system.specs.declared.link.RealLink.{RealLink}

module _ {R S : Type 0} where
  -- the link's binding, its inputs and the datagrams sent
  abbrev pub wire_of : RealLink R S → Wire
  wire_of link = wire_by link.log.events link.faults

-- the datagram that a link gave, if it gave one
abbrev pub given_by : {E : Type 0} → List ℕ → Result Taken E → List (List ℕ)
given_by buf (Ok (Datagram len)) = take len buf ∷ []
given_by buf (Ok Tick) = []
given_by buf (Ok End) = []
given_by buf (Err fault) = []

-- These constrain no account if a socket keeps none.
module _ {S : Type 0} where
  -- bound to a session with this port, over a socket that was just bound to the second port
  abbrev pub IsBoundTo : (S → Option Account) → ℕ → ℕ → Option (Bound S) → Type 0
  IsBoundTo account port own None = ⊥
  IsBoundTo account port own (Some bound) = (bound.port ≡ port) × IsOpened own (account bound.socket)

  -- the socket was passed this datagram for the port of this party, and gave nothing
  abbrev pub HandsOn : (S → Option Account) → ℕ → List ℕ → Option (Bound S) → Option (Bound S) → Type 0
  HandsOn account to bytes (Some old) (Some new) = Changes account (handed_to (old.port + to) bytes) old new
  HandsOn account to bytes (Some old) None = ⊥
  HandsOn account to bytes None new = ⊥

  -- the socket was passed nothing, and gave datagrams that were dropped and then these
  abbrev pub TakesFrom : (S → Option Account) → List (List ℕ) → Option (Bound S) → Option (Bound S) → Type 0
  TakesFrom account came (Some old) (Some new) = Gives account came old new
  TakesFrom account came (Some old) None = ⊥
  TakesFrom account came None new = (came ≡ []) × (new ≡ None)

  -- the socket was passed nothing and gave nothing
  abbrev pub Rests : (S → Option Account) → Option (Bound S) → Option (Bound S) → Type 0
  Rests account (Some old) (Some new) = (new.port ≡ old.port) × (account new.socket ≡ account old.socket)
  Rests account (Some old) None = ⊥
  Rests account None new = new ≡ None

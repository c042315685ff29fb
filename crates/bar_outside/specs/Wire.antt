-- A link, and the effect of each call on it.
use Rattle.std.specs.Prelude.{◌≡◌, ◌≢◌, ◌≤◌, ℕ, Bool, true, false, List, [], ◌∷◌, ◌++◌, take, Option, None, Some, Result, Ok, Err, IsTrue, IfOk, OnOk, OnErr}
use Rattle.bar_outside.specs.declared.link.LinkFault.{LinkFault}
use Rattle.bar_outside.specs.declared.link.LinkFault.TheVariants.{Failed}
use Rattle.bar_outside.specs.declared.link.Taken.{Taken}
use Rattle.bar_outside.specs.declared.link.Taken.TheVariants as raw
use Rattle.bar_outside.specs.Code.Causes.{HasCause}

-- what a link gives
pub data Arrival : Type 0 where
  Tick : Arrival
  Datagram : (bytes : List ℕ) → Arrival
  End : Arrival

-- what a link is bound to: a party, a session's port, the time of the first tick, and the length of a tick
pub record Bound : Type 0 where
  pub me : ℕ
  pub port : ℕ
  pub begin_ms : ℕ
  pub tick_ms : ℕ

abbrev pub bound_by : ℕ → ℕ → ℕ → ℕ → Bound
bound_by me port begin_ms tick_ms = record { me = me; port = port; begin_ms = begin_ms; tick_ms = tick_ms }

-- what a link did
pub record Traffic : Type 0 where
  pub bound : Option Bound
  -- the ticks and datagrams that it gave, in order
  pub taken : List Arrival
  -- it gave its end since it was last bound
  pub ended : Bool
  -- the datagrams that it sent, in order, each with its receiver
  pub sent : List (ℕ × List ℕ)

-- a link
pub record Wire : Type 0 where
  -- no call fails
  pub reliable : Bool
  pub traffic : Traffic
  pub faults : ℕ

-- the traffic of a link that has done nothing
abbrev pub no_traffic : Traffic
no_traffic = record { bound = None; taken = []; ended = false; sent = [] }

-- ---- the effect of each call

abbrev pub bound_to : Bound → Traffic → Traffic
bound_to bound traffic = record { bound = Some bound; taken = traffic.taken; ended = false; sent = traffic.sent }

-- the end isn't one of the items taken
abbrev pub gave : Arrival → Traffic → Traffic
gave Tick traffic = record { bound = traffic.bound; taken = traffic.taken ++ Tick ∷ []; ended = traffic.ended; sent = traffic.sent }
gave (Datagram bytes) traffic =
    record { bound = traffic.bound; taken = traffic.taken ++ Datagram bytes ∷ []; ended = traffic.ended; sent = traffic.sent }
gave End traffic = record { bound = traffic.bound; taken = traffic.taken; ended = true; sent = traffic.sent }

abbrev pub sent_to : ℕ → List ℕ → Traffic → Traffic
sent_to to bytes traffic =
    record { bound = traffic.bound; taken = traffic.taken; ended = traffic.ended; sent = traffic.sent ++ (to, bytes) ∷ [] }

-- the arrival that was taken into a buffer
abbrev pub arrival_of : List ℕ → Taken → Arrival
arrival_of buf raw.Tick = Tick
arrival_of buf (raw.Datagram len) = Datagram (take len buf)
arrival_of buf raw.End = End

abbrev pub len_of : Taken → ℕ
len_of raw.Tick = 0
len_of (raw.Datagram len) = len
len_of raw.End = 0

-- the traffic after an arrival, if there was one; a fault gives none
abbrev pub gave_if : Option Arrival → Traffic → Traffic
gave_if None traffic = traffic
gave_if (Some arrival) traffic = gave arrival traffic

abbrev pub arrived : {E : Type 0} → List ℕ → Result Taken E → Option Arrival
arrived buf (Ok taken) = Some (arrival_of buf taken)
arrived buf (Err fault) = None

-- the largest size of a datagram on a link, in bytes
abbrev pub largest_packet : ℕ
largest_packet = 65507

-- a call with this effect; after a fault it has none
pub record Acts {T : Type 0} (change : Traffic → Traffic) (old new : Wire) (result : Result T LinkFault) : Type 0 where
  pub reliable : new.reliable ≡ old.reliable
  pub cause : HasCause Failed old.faults new.faults result
  pub done : OnOk result (new.traffic ≡ change old.traffic)
  pub fault : OnErr result (new.traffic ≡ old.traffic)
  pub refused : IsTrue old.reliable → result ≢ Err Failed

-- a call that takes the next arrival
pub record Takes (buf : List ℕ) (old new : Wire) (result : Result Taken LinkFault) : Type 0 where
  pub acts : Acts (gave_if (arrived buf result)) old new result
  pub within : IfOk result (λ taken. len_of taken ≤ largest_packet)

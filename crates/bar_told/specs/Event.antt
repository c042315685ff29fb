-- The entry of a log for one call.
use Rattle.std.specs.Prelude.{ℕ, ℤ, List, Option}

pub data Event : Type 0 where
  wrote : (bytes : List ℕ) → Event
  bound : (me port begin_ms tick_ms : ℕ) → Event
  ticked : Event
  came : (bytes : List ℕ) → Event
  sent : (to : ℕ) → (bytes : List ℕ) → Event
  started : (words : List (List ℕ)) → (child : ℕ) → Event
  waited : (child : ℕ) → (status : Option ℤ) → Event
  read : (path bytes : List ℕ) → Event
  made : (path : List ℕ) → Event
  added : (path bytes : List ℕ) → Event
  unread : (path : List ℕ) → Event
  unmade : (path : List ℕ) → Event
  unadded : (path : List ℕ) → Event

-- Calls on files that were refused.
use Rattle.bar_told.specs.Event.{Event, unread, unmade, unadded}

-- the event of a refused call, which changes nothing
abbrev pub IsRefusal : Event → Type 0
IsRefusal (unread path) = Unit {0}
IsRefusal (unmade path) = Unit {0}
IsRefusal (unadded path) = Unit {0}
IsRefusal _ = ⊥

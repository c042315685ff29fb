-- Which calls of an in-memory object are to fail.
use Rattle.std.specs.Prelude.{ℕ, Bool, ◌==◌, ◌+◌, ◌-◌, ◌^◌, min, length, Vec}
use Rattle.std.specs.List.{list_any}
use Rattle.std.specs.declared.alloc.Global.{Global}
use Rattle.bar_outside.specs.declared.schedule.Schedule.{Schedule}

-- these calls are to fail, and there was no call so far
abbrev pub failing : Vec ℕ Global → Schedule
failing fail = record { fail = fail; calls = 0 }

-- the number of the next call; the count saturates at 2^64 - 1
abbrev pub next_number : Schedule → ℕ
next_number schedule = min (schedule.calls + 1) (2 ^ 64 - 1)

-- after one more call
abbrev pub next_call : Schedule → Schedule
next_call schedule = record { fail = schedule.fail; calls = next_number schedule }

-- the next call is to fail
abbrev pub fails_next : Schedule → Bool
fails_next schedule = list_any (λ number. number == next_number schedule) schedule.fail.items

-- no call is to fail
abbrev pub fails_never : Schedule → Bool
fails_never schedule = length schedule.fail.items == 0

-- The children that an in-memory spawner represents.
use Rattle.std.specs.Prelude.{ℕ, ℤ, pos, map, slice_get, unwrap_or}
use Rattle.bar_outside.specs.Code.Children.{Children}
use Rattle.bar_outside.specs.Code.MemCalls.{call_in}
use Rattle.bar_outside.specs.Code.Schedule.{fails_never}
use Rattle.bar_outside.specs.declared.schedule.Schedule.{Schedule}
use Rattle.bar_outside.specs.declared.mem_spawner.MemSpawner.{MemSpawner}

-- which of its calls are to fail
abbrev pub schedule_of : MemSpawner → Schedule
schedule_of spawner = spawner.schedule

-- what it did; it is reliable if no call is to fail
abbrev pub children_of : MemSpawner → Children
children_of spawner =
    record {
      reliable = fails_never spawner.schedule;
      calls = map call_in spawner.calls.items;
      faults = spawner.faults;
    }

-- the status with which a child ends, by its number, counted from 0
abbrev pub status_of : MemSpawner → ℕ → ℤ
status_of spawner child = unwrap_or (slice_get spawner.statuses.items child) (pos 0)

-- The wire that an in-memory link represents.
use Rattle.std.specs.Prelude.{map, take, slice_get, Option, None, Some}
use Rattle.std.specs.Option.{option_map}
use Rattle.bar_outside.specs.Wire.{Wire, Arrival, End}
use Rattle.bar_outside.specs.Code.Schedule.{fails_never}
use Rattle.bar_outside.specs.Code.MemTaken.{arrival_in, bytes_sent, bound_in}
use Rattle.bar_outside.specs.declared.schedule.Schedule.{Schedule}
use Rattle.bar_outside.specs.declared.mem_link.MemLink.{MemLink}
use Rattle.bar_outside.specs.declared.mem_taken.MemTaken.{MemTaken}

-- which of its calls are to fail
abbrev pub schedule_of : MemLink → Schedule
schedule_of link = link.schedule

-- what it did; it is reliable if no call is to fail
abbrev pub wire_of : MemLink → Wire
wire_of link =
    record {
      reliable = fails_never link.schedule;
      traffic = record {
        bound = option_map bound_in link.place;
        taken = map arrival_in (take link.given link.list.items);
        ended = link.ended;
        sent = map bytes_sent link.sent.items;
      };
      faults = link.faults;
    }

abbrev pub arrival_at : Option MemTaken → Arrival
arrival_at None = End
arrival_at (Some item) = arrival_in item

-- what it gives next: the items of its list in order, and then its end
abbrev pub next_of : MemLink → Arrival
next_of link = arrival_at (slice_get link.list.items link.given)

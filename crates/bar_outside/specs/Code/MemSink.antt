-- The stream that an in-memory sink represents.
use Rattle.bar_outside.specs.Stream.{Stream}
use Rattle.bar_outside.specs.Code.Schedule.{fails_never}
use Rattle.bar_outside.specs.declared.schedule.Schedule.{Schedule}
use Rattle.bar_outside.specs.declared.mem_sink.MemSink.{MemSink}

-- which of its writes are to fail
abbrev pub schedule_of : MemSink → Schedule
schedule_of sink = sink.schedule

-- what it holds; it is reliable if no write is to fail
abbrev pub stream_of : MemSink → Stream
stream_of sink = record { reliable = fails_never sink.schedule; bytes = sink.bytes.items; faults = sink.faults }

-- What a stream of the system reports.
use Rattle.std.specs.Prelude.{◌≡◌, ℕ, List, ◌++◌, Option}
use Rattle.std.specs.Io.KnownBytes.{Appends}
use Rattle.bar_outside.specs.Stream.{Stream}
use Rattle.bar_system.specs.History.{stream_by}
use Rattle.bar_system.specs.declared.outside.RealSink.{RealSink}

module _ {W : Type 0} where
  -- what was written
  abbrev pub stream_of : RealSink W → Stream
  stream_of sink = stream_by sink.log.events sink.faults

  -- what the history gained between old and new is what the stream got
  pub record HandsOn (contents : W → Option (List ℕ)) (old new : RealSink W) : Type 0 where
    pub piece : List ℕ
    pub told : (stream_of new).bytes ≡ (stream_of old).bytes ++ piece
    pub got : Appends (contents old.stream) (contents new.stream) piece

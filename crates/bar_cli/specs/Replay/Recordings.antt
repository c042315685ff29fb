-- The inputs that a recording encodes for a replay.
use Rattle.std.specs.Prelude.{ℕ, List, Result}
use Rattle.std.specs.Result.{result_map_both}
use Rattle.bar_wire.specs.Inputs.{Input}
use Rattle.bar_session.specs.SessionData.{SessionData}
use Rattle.bar_record.specs.Pacing.{paced}
use Rattle.bar_record.specs.Recording as entries
use Rattle.bar_record.specs.declared.fault.RecordFault.{RecordFault}
use Rattle.bar_session.specs.Time.{last_tick}

-- the inputs of this party's recording that the bytes encode under a session, paced, or its first fault
unfoldable pub recording_of : SessionData → ℕ → List ℕ → Result (List Input) RecordFault
recording_of s party bytes =
    result_map_both (paced (last_tick s)) (λ fault. fault) (entries.recording_of s.shape.id party (last_tick s) bytes)

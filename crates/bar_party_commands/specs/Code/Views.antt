-- The names that values of the code represent, and the status and the line for each end of a command.
use Rattle.std.specs.Prelude.{ℕ, List, [], Result, Ok, Err}
use Rattle.bar_outside.specs.Code.Faults.{code_of_fault, line_of_fault}
use Rattle.bar_outside.specs.declared.fault.Fault.{Fault}
use Rattle.bar_party_commands.specs.CasterPlan as caster
use Rattle.bar_party_commands.specs.PeerPlan as peer
use Rattle.bar_session_files.specs.Refusals.{key_refused, session_refused}
use Rattle.bar_party_commands.specs.Streams.{stream_refused}
use Rattle.bar_party_commands.specs.declared.caster_names.CasterNames.{CasterNames}
use Rattle.bar_party_commands.specs.declared.ended.Ended.{Ended}
use Rattle.bar_party_commands.specs.declared.ended.Ended.TheVariants.{Done, KeyRefused, SessionRefused, StreamRefused}
use Rattle.bar_party_commands.specs.declared.peer_names.PeerNames.{PeerNames}

abbrev pub peer_view : PeerNames → peer.PeerNames
peer_view names =
    record {
      session = names.session.now;
      key = names.key.now;
      begin_ms = names.begin_ms;
      played = names.played.now;
      recording = names.recording.now;
      found = names.found.now;
    }

abbrev pub caster_view : CasterNames → caster.CasterNames
caster_view names =
    record {
      session = names.session.now;
      key = names.key.now;
      begin_ms = names.begin_ms;
      stream = names.stream.now;
      found = names.found.now;
    }

-- ---- the status, and the line that is printed for it

abbrev pub code_of : Ended → ℕ
code_of Done = 0
code_of (SessionRefused fault) = 4
code_of (KeyRefused fault) = 5
code_of (StreamRefused have room) = 8

abbrev pub said_at : Ended → List ℕ
said_at Done = []
said_at (SessionRefused fault) = session_refused fault
said_at (KeyRefused fault) = key_refused fault
said_at (StreamRefused have room) = stream_refused have room

abbrev pub code_of_run : Result Ended Fault → ℕ
code_of_run (Ok ended) = code_of ended
code_of_run (Err fault) = code_of_fault fault

abbrev pub said_by_run : Result Ended Fault → List ℕ
said_by_run (Ok ended) = said_at ended
said_by_run (Err fault) = line_of_fault fault

-- What a history of calls, newest first, says about an object.
use Rattle.std.specs.Prelude.{ℕ, Bool, List, [], ◌∷◌, ◌++◌, ◌&&◌, Option, None, Some, true, false}
use Rattle.std.specs.Str.{bytes_eq}
use Rattle.bar_outside.specs.Disk.{Content, CreatedFiles, Disk, Failure, appended, created, readable, with_file}
use Rattle.bar_outside.specs.Stream.{Stream}
use Rattle.bar_outside.specs.Wire.{Wire, Traffic, Tick, Datagram, no_traffic, bound_by, bound_to, gave, sent_to}
use Rattle.bar_outside.specs.Code.Children.{Children, ChildCall, Started, Waited}
use Rattle.bar_outside.specs.declared.files.CallKind.TheVariants.{Read, Create, Append}
use Rattle.bar_told.specs.Event.{Event, wrote, bound, ticked, came, sent, started, waited, read, made, added, unread, unmade, unadded}

-- all that was written
abbrev pub bytes_by : Event → List ℕ → List ℕ
bytes_by (wrote bytes) before = before ++ bytes
bytes_by _ before = before

abbrev pub bytes_of : List Event → List ℕ
bytes_of [] = []
bytes_of (event ∷ before) = bytes_by event (bytes_of before)

-- what a link did
abbrev pub traffic_by : Event → Traffic → Traffic
traffic_by (bound me port begin_ms tick_ms) before = bound_to (bound_by me port begin_ms tick_ms) before
traffic_by ticked before = gave Tick before
traffic_by (came bytes) before = gave (Datagram bytes) before
traffic_by (sent to bytes) before = sent_to to bytes before
traffic_by _ before = before

abbrev pub traffic_of : List Event → Traffic
traffic_of [] = no_traffic
traffic_of (event ∷ before) = traffic_by event (traffic_of before)

-- the calls of child programs
abbrev pub calls_by : Event → List ChildCall → List ChildCall
calls_by (started words child) before = before ++ Started words child ∷ []
calls_by (waited child status) before = before ++ Waited child status ∷ []
calls_by _ before = before

abbrev pub calls_of : List Event → List ChildCall
calls_of [] = []
calls_of (event ∷ before) = calls_by event (calls_of before)

-- what the files hold, if they held this at the start
abbrev pub content_by : Event → Content → Content
content_by (made path) before = created before path
content_by (added path bytes) before = appended before path bytes
content_by _ before = before

abbrev pub content_of : List Event → Content → Content
content_of [] was = was
content_of (event ∷ before) was = content_by event (content_of before was)

-- the readable content, if any, is these bytes
abbrev pub gives : Option (List ℕ) → List ℕ → Bool
gives None bytes = false
gives (Some held) bytes = bytes_eq held bytes

-- each read gave what the files held at that time, if they held this at the start
abbrev pub fits_by : Event → Content → Bool → Bool
fits_by (read path bytes) held before = gives (readable held path) bytes && before
fits_by _ held before = before

abbrev pub fits_of : List Event → Content → Bool
fits_of [] was = true
fits_of (event ∷ before) was = fits_by event (content_of before was) (fits_of before was)

-- which files were created
abbrev pub made_by : Event → CreatedFiles → CreatedFiles
made_by (made path) before = with_file before path
made_by _ before = before

abbrev pub made_of : List Event → CreatedFiles
made_of [] = λ path. false
made_of (event ∷ before) = made_by event (made_of before)

-- the last call that failed
abbrev pub failed_by : Event → Option Failure → Option Failure
failed_by (unread path) before = Some (record { kind = Read; path = path })
failed_by (unmade path) before = Some (record { kind = Create; path = path })
failed_by (unadded path) before = Some (record { kind = Append; path = path })
failed_by _ before = before

abbrev pub failed_of : List Event → Option Failure
failed_of [] = None
failed_of (event ∷ before) = failed_by event (failed_of before)

-- ---- an object with this history and this many faults; any of its calls may fail

abbrev pub stream_by : List Event → ℕ → Stream
stream_by events faults = record { reliable = false; bytes = bytes_of events; faults = faults }

abbrev pub wire_by : List Event → ℕ → Wire
wire_by events faults = record { reliable = false; traffic = traffic_of events; faults = faults }

abbrev pub children_by : List Event → ℕ → Children
children_by events faults = record { reliable = false; calls = calls_of events; faults = faults }

abbrev pub disk_by : List Event → ℕ → Content → Disk
disk_by events faults was =
    record {
      told = fits_of events was;
      reliable = false;
      content = content_of events was;
      created_here = made_of events;
      failed = failed_of events;
      faults = faults;
    }

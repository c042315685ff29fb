-- The event that a note records.
use Rattle.std.specs.Prelude.{map, string_bytes}
use Rattle.bar_told.specs.Event.{Event, wrote, bound, ticked, came, sent, started, waited, read, made, added, unread, unmade, unadded}
use Rattle.bar_told.specs.declared.log.Note.{Note}
use Rattle.bar_told.specs.declared.log.Note.TheVariants as note

abbrev pub event_of : Note → Event
event_of (note.Wrote bytes) = wrote bytes.now
event_of (note.Bound me port begin_ms tick_ms) = bound me port begin_ms tick_ms
event_of note.Ticked = ticked
event_of (note.Came bytes) = came bytes.now
event_of (note.Sent to bytes) = sent to bytes.now
event_of (note.Started words child) = started (map string_bytes words.now) child
event_of (note.Waited child status) = waited child status
event_of (note.Read path bytes) = read path.now bytes.now
event_of (note.Made path) = made path.now
event_of (note.Added path bytes) = added path.now bytes.now
event_of (note.Unread path) = unread path.now
event_of (note.Unmade path) = unmade path.now
event_of (note.Unadded path) = unadded path.now

use Rattle.std.proofs.Common.{◌≤◌, ap, length, arith, length-append}
use Rattle.std.specs.Prelude.{is_some}
use Rattle.bar_wire.specs.Inputs.{Input, Tick, Datagram, plain_input}
use Rattle.bar_bytes.specs.Bytes.{u16_bytes}
use Rattle.bar_record.specs.Recording.{entry_bytes, IsInRange, largest_entry}
use Rattle.bar_node.proofs.turn.keep_entry.Goals as goal

entry-fits : (input : Input) → IsInRange input → length (entry_bytes input) ≤ largest_entry
unfolding u16_bytes
entry-fits Tick h = omega arith
entry-fits (Datagram bytes) h = let e = length-append (u16_bytes (length bytes)) bytes in omega arith

pub entry-len-requires-clause-room : goal.entry-len-requires-clause-room
entry-len-requires-clause-room g c =
    let h = entry-fits (plain_input c.args.input.now) (c.requires.datagram (ap is_some c.in-Some.is)) in
    let r = c.requires.room in
    omega arith

pub returns-in-Some : goal.returns-in-Some
returns-in-Some g c = rw (c.in-Some.is, ← c.entry-len.ensures.written) c.append_file.ensures

use Rattle.std.proofs.Common.{◌≤◌, length, arith, length-append}
use Rattle.bar_wire.specs.Inputs.{Input, Tick, Datagram, plain_input}
use Rattle.bar_bytes.specs.Bytes.{u16_bytes}
use Rattle.bar_record.specs.Recording.{entry_bytes, IsInRange}
use Rattle.bar_party.proofs.fuzz.reading.add_entry_of.Goals as goal

entry-fits : (input : Input) → IsInRange input → length (entry_bytes input) ≤ 65510
unfolding u16_bytes
entry-fits Tick h = omega arith
entry-fits (Datagram bytes) h = let e = length-append (u16_bytes (length bytes)) bytes in omega arith

pub entry-len-requires-clause-room : goal.entry-len-requires-clause-room
entry-len-requires-clause-room c =
    let h = entry-fits (plain_input c.args.input.now) c.requires.datagram in
    let r = c.requires.room in
    omega arith

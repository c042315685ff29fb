use Rattle.bar_bytes.specs.Bytes.{u16_bytes}
use Rattle.bar_bytes.specs.Code.Rooms.{kept_in}
use Rattle.bar_core.proofs.Entries.{entry_put}
use Rattle.bar_core.proofs.evidence.add_entry.Goals as goal

pub returns-clause-kept : goal.returns-clause-kept
unfolding u16_bytes
returns-clause-kept c =
    entry_put (kept_in c.args.rooms.now) (kept_in c.add.new.self) (kept_in c.add-2.new.self) c.args.number
    c.to_be_bytes-len.result c.args.datagram.now c.to_be_bytes-len.ensures c.add.ensures.kept c.add-2.ensures.kept

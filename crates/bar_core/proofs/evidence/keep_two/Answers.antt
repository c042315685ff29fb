use Rattle.std.proofs.Common.{◌∙◌, ◌==◌, ◌+◌, ◌++◌, ◌∷◌, [], List, ℕ, Some, length, ap, arith}
use Rattle.std.specs.Prelude.{if◌then◌else◌}
use Rattle.bar_bytes.specs.Code.Rooms.{kept_in}
use Rattle.bar_wire.specs.Grammar.{entry}
use Rattle.bar_wire.proofs.Lists.{entry_length}
use Rattle.bar_core.proofs.Entries.{put_there, put_behind, leaves_room, two_spelled}
use Rattle.bar_core.proofs.evidence.keep_two.Goals as goal

pub add_entry-requires-2-clause-fits : goal.add_entry-requires-2-clause-fits
add_entry-requires-2-clause-fits c =
    leaves_room (kept_in c.add_entry.new.rooms c.args.number) ((2 ∷ []) ++ entry c.args.one.now) (2 + length c.args.two.now) c.add_entry.new.rooms.size
    (put_there (kept_in c.args.rooms.now) (kept_in c.add_entry.new.rooms) c.args.number (Some ((2 ∷ []) ++ entry c.args.one.now))
    (put_behind (kept_in c.args.rooms.now) (kept_in c.keep.new.self) (kept_in c.add_entry.new.rooms) c.args.number (2 ∷ []) (entry c.args.one.now)
    c.keep.ensures.kept c.add_entry.ensures.kept))
    (omega (arith, entry_length c.args.one.now, c.if-one-two.false, c.size.ensures, c.keep.ensures.size, c.add_entry.ensures.size))

pub returns-clause-kept : goal.returns-clause-kept
returns-clause-kept c one two fits n =
    put_behind (kept_in c.args.rooms.now) (kept_in c.add_entry.new.rooms) (kept_in c.add_entry-2.new.rooms) c.args.number
    ((2 ∷ []) ++ entry c.args.one.now) (entry c.args.two.now)
    (put_behind (kept_in c.args.rooms.now) (kept_in c.keep.new.self) (kept_in c.add_entry.new.rooms) c.args.number (2 ∷ []) (entry c.args.one.now)
    c.keep.ensures.kept c.add_entry.ensures.kept)
    c.add_entry-2.ensures.kept n
    ∙ ap (λ (x : List ℕ). if n == c.args.number then Some x else kept_in c.args.rooms.now n) (two_spelled c.args.one.now c.args.two.now)

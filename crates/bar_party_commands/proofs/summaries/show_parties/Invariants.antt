use Rattle.std.proofs.Common.{Ok}
use Rattle.bar_bytes.specs.Code.Rooms.{kept_in}
use Rattle.bar_outside.specs.Plan.{Outside, with_out}
use Rattle.bar_outside.specs.Code.Follows.{Follows}
use Rattle.bar_party_commands.specs.Summaries.{shown_parties}
use Rattle.bar_party_commands.proofs.summaries.show_parties.Given as goal

-- the lines of the parties so far were shown
abbrev pub invariant-loop-before : goal.invariant-loop-before
invariant-loop-before g l =
    (w : Outside) → Follows {T = Unit {0}} (shown_parties l.word (kept_in l.evidence) l.before)
    (with_out w (g.K.Sink.stream l.fn.out)) (with_out w (g.K.Sink.stream l.out)) (Ok tt)

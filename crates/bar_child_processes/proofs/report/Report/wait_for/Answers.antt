use Rattle.std.proofs.Common.{rules, SFits, w32, to_z-of_z}
use Rattle.bar_child_processes.specs.Code.Views.{report_view}
use Rattle.bar_child_processes.proofs.OneChild.{reports-fault, reports-quiet, reports-shown}
use Rattle.bar_child_processes.proofs.report.Report.wait_for.Goals as goal

pub returns-then-self : goal.returns-then-self
returns-then-self g c =
    let child = c.args.child.now in
    let fits : SFits w32 c.in-Ok.status = search rules in
    reports-shown child.party child.number c.in-Ok.status _ _ _ _ _ _ c.in-Ok.ensures c.if-self.true
    (rw (to_z-of_z fits) at (c.show.ensures child.number c.if-self.true))

pub returns-else-self : goal.returns-else-self
returns-else-self g c =
    let child = c.args.child.now in
    reports-quiet child.party child.number c.in-Ok.status (report_view c.args.self.now) (g.K.Sink.stream c.args.out.now) _ _ c.in-Ok.ensures
    c.if-self.false

pub returns-in-Err : goal.returns-in-Err
returns-in-Err g c =
    let child = c.args.child.now in
    reports-fault child.party child.number c.in-Err.fault (report_view c.args.self.now) (report_view c.note.new.self)
    (g.K.Sink.stream c.args.out.now) _ _ c.in-Err.ensures (rw c.outcome_of.ensures at c.note.ensures)

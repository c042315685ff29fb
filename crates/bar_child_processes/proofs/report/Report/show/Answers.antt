use Rattle.std.proofs.Common.{◌≡◌, ◌∙◌, pos, refl, ap, sym, to_z, of_z, to_z-of_z, w32}
use Rattle.bar_child_processes.specs.Family.{Whole, Refused, Wanting}
use Rattle.bar_child_processes.specs.Outcomes.{code_of, joined}
use Rattle.bar_child_processes.proofs.Codes.{joined-none, code-zero, code-other}
use Rattle.bar_child_processes.proofs.report.Report.show.Goals as goal
use Rattle.bar_child_processes.proofs.report.Report.show.Goals.{in-Failed, in-NoMemory}

pub returns-then-status-ne0 : goal.returns-then-status-ne0
returns-then-status-ne0 g c = λ number prints.
    let same = to_z-of_z c.ranges.status in
    record {
      shown = Whole;
      tried = refl;
      shows = rw same at (c.in-Ok.ensures number);
      prints = ap (λ r. r.prints) c.note.ensures ∙ prints;
      code = ap (λ r. r.code) c.note.ensures
          ∙ sym (code-other (code_of c.args.self.now.outcome) c.args.status (λ e. c.if-status-ne0.true (ap (of_z w32) e)));
    }

pub returns-else-status-ne0 : goal.returns-else-status-ne0
returns-else-status-ne0 g c = λ number prints.
    let same = to_z-of_z c.ranges.status in
    let none : c.args.status ≡ pos 0 = sym same ∙ ap (to_z w32) c.if-status-ne0.false in
    record {
      shown = Whole;
      tried = refl;
      shows = rw same at (c.in-Ok.ensures number);
      prints = prints;
      code = sym (code-zero (code_of c.args.self.now.outcome) c.args.status none);
    }

pub returns-after-fault : goal.returns-after-fault
returns-after-fault g c = λ number prints.
    let was = code_of c.args.self.now.outcome in
    let shows = rw (to_z-of_z c.ranges.status) at (c.in-Err.ensures number) in
    elim c.match-fault.branch [
      | in-Failed w ↦ record {
        shown = Refused;
        tried = refl;
        shows = rw w.in-Failed.is at shows;
        prints = ap (λ r. r.prints) c.note-in-Err.ensures;
        code = ap (λ r. r.code) c.note-in-Err.ensures ∙ (ap (λ o. joined was (code_of o)) w.note-is ∙ sym (joined-none (joined was 7)));
      }
      | in-NoMemory w ↦ record {
        shown = Wanting;
        tried = refl;
        shows = rw w.in-NoMemory.is at shows;
        prints = ap (λ r. r.prints) c.note-in-Err.ensures;
        code = ap (λ r. r.code) c.note-in-Err.ensures ∙ (ap (λ o. joined was (code_of o)) w.note-is ∙ sym (joined-none 70));
      }
    ]

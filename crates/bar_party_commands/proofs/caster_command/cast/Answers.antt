use Rattle.std.proofs.Common.{◌∙◌, ap, sym, None}
use Rattle.std.proofs.lemmas.Result.{err_from_is_err_and}
use Rattle.bar_core.specs.Rules.{Rules}
use Rattle.bar_node.specs.Runs.{summary_of, taken_of}
use Rattle.bar_outside.specs.Code.MemTaken.{bound_in}
use Rattle.bar_caster.specs.Code.Core.{caster_rules}
use Rattle.bar_caster.specs.Code.Memory.{member_of, stream_of}
use Rattle.bar_party_commands.specs.Code.Views.{caster_view}
use Rattle.bar_party_commands.proofs.Planned.{caster-behind-run, caster-in-run, caster-unbound, caster-unspent}
use Rattle.bar_party_commands.proofs.Unprinted.{never-file, never-link}
use Rattle.bar_party_commands.proofs.caster_command.cast.Goals as goal

pub returns-in_err-write_anew-clause-follows : goal.returns-in_err-write_anew-clause-follows
returns-in_err-write_anew-clause-follows g c = λ was session secrets member spent place.
    let p = err_from_is_err_and c.from_residual.result c.from_residual.ensures.1 in
    let memory = c.args.caster.now.memory in
    rw (p.1, p.2)
    (caster-unspent (caster_view c.args.names.now) session secrets (stream_of memory) c.args.text.now (bound_in c.args.place.now)
    (member_of memory) spent place member _ _ _ _ _ (λ w. c.in_err-write_anew.ensures w was))

pub returns-in_err-bind_place-clause-follows : goal.returns-in_err-bind_place-clause-follows
returns-in_err-bind_place-clause-follows g c = λ was session secrets member spent place.
    let p = err_from_is_err_and c.from_residual-in_err-bind_place.result c.from_residual-in_err-bind_place.ensures.1 in
    let memory = c.args.caster.now.memory in
    rw (p.1, p.2)
    (caster-unbound (caster_view c.args.names.now) session secrets (stream_of memory) c.args.text.now (bound_in c.args.place.now)
    (member_of memory) spent place member _ _ _ _ _ (λ w. c.in_ok-write_anew.ensures w was) _ _ c.in_err-bind_place.ensures)

pub returns-in_err-summary-clause-follows : goal.returns-in_err-summary-clause-follows
returns-in_err-summary-clause-follows g c = λ was session secrets member spent place.
    let p = err_from_is_err_and c.from_residual-in_err-summary.result c.from_residual-in_err-summary.ensures.1 in
    let memory = c.args.caster.now.memory in
    rw (p.1, p.2)
    (caster-in-run (caster_view c.args.names.now) session secrets (stream_of memory) c.args.text.now (bound_in c.args.place.now)
    (member_of memory) spent place member _ _ _ _ _ (λ w. c.in_ok-write_anew.ensures w was) _ _ c.in_ok-bind_place.ensures _ _ _ _
    (c.in_err-summary.ensures.ran was))

pub returns-clause-follows : goal.returns-clause-follows
returns-clause-follows g c = λ was session secrets member spent place.
    let memory = c.args.caster.now.memory in
    let ran = (c.in_ok-summary.ensures.ran was) in
    let same = c.in_ok-summary.ensures.rules in
    let inputs = taken_of (caster_rules (member_of memory) (stream_of memory)) ran.given in
    caster-behind-run (caster_view c.args.names.now) session secrets (stream_of memory) c.args.text.now (bound_in c.args.place.now)
    (member_of memory) spent place member _ _ _ _ _ (λ w.
    c.in_ok-write_anew.ensures w was) _ _ c.in_ok-bind_place.ensures _ _ _ _ ran _ _ _ same
    (c.show_summary.ensures inputs ran.stands (ran.summary ∙ ap (λ (r : Rules). summary_of r inputs) (sym same)))

pub returns-clause-unprinted : goal.returns-clause-unprinted
returns-clause-unprinted g c = λ e.
    let memory = c.args.caster.now.memory in
    let ran = (c.in_ok-summary.ensures.ran (λ path. None)) in
    let inputs = taken_of (caster_rules (member_of memory) (stream_of memory)) ran.given in
    let is = ran.summary ∙ ap (λ (r : Rules). summary_of r inputs) (sym c.in_ok-summary.ensures.rules) in
    absurd (never-file _ _ _ _ (c.show_summary.ensures inputs ran.stands is) e)

pub returns-clause-quiet : goal.returns-clause-quiet
returns-clause-quiet g c = λ e.
    let memory = c.args.caster.now.memory in
    let ran = (c.in_ok-summary.ensures.ran (λ path. None)) in
    let inputs = taken_of (caster_rules (member_of memory) (stream_of memory)) ran.given in
    let is = ran.summary ∙ ap (λ (r : Rules). summary_of r inputs) (sym c.in_ok-summary.ensures.rules) in
    absurd (never-link _ _ _ _ (c.show_summary.ensures inputs ran.stands is) e)

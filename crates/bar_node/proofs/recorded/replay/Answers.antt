use Rattle.std.proofs.Common.{◌≡◌, ℕ, List, [], ap, subst, Result}
use Rattle.std.proofs.lemmas.Result.{err_from_is_err_and}
use Rattle.bar_wire.specs.Inputs.{Input}
use Rattle.bar_record.specs.Code.Inputs.{inputs_left}
use Rattle.bar_record.specs.Pacing.{paced}
use Rattle.bar_outside.specs.Plan.{Outside, with_out}
use Rattle.bar_outside.specs.Code.Follows.{Follows}
use Rattle.bar_outside.specs.declared.fault.Fault.{Fault}
use Rattle.bar_outside.proofs.Following.{answered, handed, no_memory}
use Rattle.bar_core.specs.Rules.{Rules}
use Rattle.bar_findings.specs.Findings.{findings_actions}
use Rattle.bar_node.specs.Code.Turns.{turns, replay_layout}
use Rattle.bar_node.specs.Runs.{found_after}
use Rattle.bar_node.proofs.Parts.{first-stopped, then-second}
use Rattle.bar_node.proofs.RunEnds.{summary-is}
use Rattle.bar_node.proofs.recorded.replay.Goals as goal

-- the findings by equal rules are written alike
found-along : {T : Type 0} (rules r : Rules) (found : List ℕ) (taken : List Input) (old new : Outside) (q : Result T Fault) → rules ≡ r →
    Follows (findings_actions (found_after found rules taken)) old new q → Follows (findings_actions (found_after found r taken)) old new q
found-along rules r found taken old new q same f =
    subst (λ (by : Rules). Follows (findings_actions (found_after found by taken)) old new q) same f

pub returns-in_err-buf-clause-follows : goal.returns-in_err-buf-clause-follows
returns-in_err-buf-clause-follows g c = λ w was.
    let p = err_from_is_err_and c.from_residual.result c.from_residual.ensures.1 in
    rw (p.1, p.2) (no_memory _ _)

pub returns-in_err-counts-clause-follows : goal.returns-in_err-counts-clause-follows
returns-in_err-counts-clause-follows g c = λ w was.
    let p = err_from_is_err_and c.from_residual-in_err-counts.result c.from_residual-in_err-counts.ensures.1 in
    let r = (g.C.Core.face c.args.core.now).rules in
    let taken = paced r.last (inputs_left c.args.items) in
    rw (p.1, p.2)
    (first-stopped (turns (replay_layout c.args.played.now) r [] taken) (findings_actions (found_after c.args.found.now r taken)) _ _ _
    (c.in_err-counts.ensures.follows w was))

pub returns-in_err-write_found-clause-follows : goal.returns-in_err-write_found-clause-follows
returns-in_err-write_found-clause-follows g c = λ w was.
    let p = err_from_is_err_and c.from_residual-in_err-write_found.result c.from_residual-in_err-write_found.ensures.1 in
    let r = (g.C.Core.face c.args.core.now).rules in
    let taken = paced r.last (inputs_left c.args.items) in
    rw (p.1, p.2)
    (then-second (turns (replay_layout c.args.played.now) r [] taken) (findings_actions (found_after c.args.found.now r taken)) _ _ _ _ _
    (c.in_ok-counts.ensures.follows w was)
    (handed _ _ _ _ (found-along _ r c.args.found.now taken _ _ _ c.in_ok-counts.ensures.rules
    (c.in_err-write_found.ensures _ c.in_ok-counts.ensures.took.stands (with_out w (g.K.Sink.stream c.show_inputs.new.out)) was))))

pub returns-clause-follows : goal.returns-clause-follows
returns-clause-follows g c = λ w was.
    let r = (g.C.Core.face c.args.core.now).rules in
    let taken = paced r.last (inputs_left c.args.items) in
    then-second (turns (replay_layout c.args.played.now) r [] taken) (findings_actions (found_after c.args.found.now r taken)) _ _ _ _ _
    (c.in_ok-counts.ensures.follows w was)
    (answered _ _ _ (tt {0}) _ (found-along _ r c.args.found.now taken _ _ _ c.in_ok-counts.ensures.rules
    (c.in_ok-write_found.ensures _ c.in_ok-counts.ensures.took.stands (with_out w (g.K.Sink.stream c.show_inputs.new.out)) was)))

pub returns-clause-summary : goal.returns-clause-summary
returns-clause-summary g c =
    summary-is (g.C.Core.face c.args.core.now).rules (inputs_left c.args.items) _ _ _ c.in_ok-counts.counts c.ticks_taken.ensures
    (g.met.C.Core.timed c.show_inputs.new.core _ c.in_ok-counts.ensures.took.stands)
    (ap (λ (r : Rules). r.last) c.in_ok-counts.ensures.rules) c.in_ok-counts.ensures.took.counted

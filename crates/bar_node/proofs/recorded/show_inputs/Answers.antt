use Rattle.std.proofs.Common.{[], refl, arith}
use Rattle.std.proofs.lemmas.Result.{err_from_is_err_and}
use Rattle.bar_wire.specs.Inputs.{plain_input}
use Rattle.bar_record.specs.Code.Inputs.{inputs_left}
use Rattle.bar_record.proofs.DueLemmas.{not-late}
use Rattle.bar_outside.proofs.Following.{nothing_done, answered}
use Rattle.bar_node.specs.Code.Turns.{replay_layout}
use Rattle.bar_node.proofs.Turning.{took-none, turns-along, took-along}
use Rattle.bar_node.proofs.Shown.{count-exact, shown-whole, shown-over, shown-stopped, shown-then, shown-more}
use Rattle.bar_node.proofs.recorded.show_inputs.Goals as goal

pub loop-input-init : goal.loop-input-init
loop-input-init g c = (
  tt,
  tt,
  record {
    rules = refl;
    idle = c.requires.idle;
    taken = [];
    split = rw (c.into_iter-input-iterator.ensures.into_iter_gives, c.new-paced.ensures) refl;
    took =
        rw c.none-counts.ensures (took-none [] (g.C.Core.stands c.args.core.now) (g.C.Core.face c.args.core.now).rules c.requires.stands);
    row = rw c.new-paced.ensures (omega arith);
    few = omega arith;
    follows = λ w was. nothing_done _;
  },
)

pub returns-in_err-more-clause-follows : goal.returns-in_err-more-clause-follows
returns-in_err-more-clause-follows g c = λ w was.
    let p = err_from_is_err_and c.from_residual.result c.from_residual.ensures.1 in
    let i = c.loop-input.invariant.2 in
    let timed = g.met.C.Core.timed c.loop-input.core _ i.took.stands in
    let goes = not-late _ _ c.if-is_over.ensures in
    let count = count-exact _ _ _ _ _ _ _ _ i timed goes (g.met.C.Core.few c.loop-input.core) in
    rw (p.1, p.2)
    (shown-stopped _ _ _ _ _ _ _ _ i timed goes (plain_input c.in-Some.input) (inputs_left c.next.new.self) c.in-Some.ensures.steps
    (replay_layout c.args.played.now) _ _ _ (tt {0}) _ (i.follows w was) (c.in_err-more.ensures.follows i.taken i.took.stands count w was))

pub loop-input-preserved : goal.loop-input-preserved
loop-input-preserved g c =
    let i = c.loop-input.invariant.2 in
    let timed = g.met.C.Core.timed c.loop-input.core _ i.took.stands in
    let goes = not-late _ _ c.if-is_over.ensures in
    let count = count-exact _ _ _ _ _ _ _ _ i timed goes (g.met.C.Core.few c.loop-input.core) in (
      tt,
      tt,
      rw c.with-counts.ensures
          (shown-more _ _ _ _ _ _ _ _ i timed goes (plain_input c.in-Some.input) (inputs_left c.next.new.self) c.in-Some.ensures.steps
          _ _ _ _ _ (c.in_ok-more.ensures.took i.taken i.took.stands)
          c.in_ok-more.ensures.idle c.in_ok-more.ensures.rules c.in_ok-more.ensures.run
          (λ w was. answered _ _ _ c.in_ok-more.more (tt {0})
          (shown-then _ _ _ _ _ _ _ _ i timed goes (plain_input c.in-Some.input) (inputs_left c.next.new.self) c.in-Some.ensures.steps
          (replay_layout c.args.played.now) _ _ _ (tt {0}) _ (i.follows w was) (c.in_ok-more.ensures.follows i.taken i.took.stands count w was)))),
    )

pub returns-clause-follows : goal.returns-clause-follows
returns-clause-follows g c = λ w was.
    let i = c.loop-input.invariant.2 in
    turns-along (replay_layout c.args.played.now) (g.C.Core.face c.args.core.now).rules [] i.taken _ _ _ _
    (shown-whole _ _ _ _ _ _ _ _ i c.in-None.ensures.steps.0) (answered _ _ _ (tt {0}) _ (i.follows w was))

pub returns-then-is_over-clause-follows : goal.returns-then-is_over-clause-follows
returns-then-is_over-clause-follows g c = λ w was.
    let i = c.loop-input.invariant.2 in
    turns-along (replay_layout c.args.played.now) (g.C.Core.face c.args.core.now).rules [] i.taken _ _ _ _
    (shown-over _ _ _ _ _ _ _ _ i (g.met.C.Core.timed c.loop-input.core _ i.took.stands) c.if-is_over.ensures)
    (answered _ _ _ (tt {0}) _ (i.follows w was))

pub returns-then-is_over-clause-took : goal.returns-then-is_over-clause-took
returns-then-is_over-clause-took g c =
    let i = c.loop-input.invariant.2 in
    took-along _ _ _ i.taken _ _
    (shown-over _ _ _ _ _ _ _ _ i (g.met.C.Core.timed c.loop-input.core _ i.took.stands) c.if-is_over.ensures) i.took

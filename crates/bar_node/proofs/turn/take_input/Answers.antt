use Rattle.std.proofs.Common.{[], ◌∷◌, ◌++◌}
use Rattle.std.proofs.lemmas.Result.{err_from_is_err_and}
use Rattle.bar_wire.specs.Inputs.{plain_input}
use Rattle.bar_outside.specs.Plan.{with_files}
use Rattle.bar_outside.proofs.Following.{answered, handed}
use Rattle.bar_node.specs.Code.Taking.{layout_of}
use Rattle.bar_node.proofs.Turning.{counted-one, stopped-entering, stopped-playing, then-sending}
use Rattle.bar_node.proofs.turn.take_input.Goals as goal

pub returns-in_err-keep_entry-clause-follows : goal.returns-in_err-keep_entry-clause-follows
returns-in_err-keep_entry-clause-follows g c = λ before stands is w was.
    let p = err_from_is_err_and c.from_residual.result c.from_residual.ensures.1 in
    rw (p.1, p.2)
    (stopped-entering (layout_of c.args.kept.now g.O.Outlet.given) (g.C.Core.face c.args.core.now).rules before (plain_input c.args.input) _ _ _
    (c.in_err-keep_entry.ensures (g.O.Outlet.placed w c.args.target.now) was))

pub returns-in_err-played-clause-follows : goal.returns-in_err-played-clause-follows
returns-in_err-played-clause-follows g c = λ before stands is w was.
    let p = err_from_is_err_and c.from_residual-in_err-played.result c.from_residual-in_err-played.ensures.1 in
    rw (p.1, p.2)
    (stopped-playing (layout_of c.args.kept.now g.O.Outlet.given) (g.C.Core.face c.args.core.now).rules before (plain_input c.args.input) _ _ _ _ _ _
    (c.take.ensures.plays before stands)
    (c.in_ok-keep_entry.ensures (g.O.Outlet.placed w c.args.target.now) was)
    (c.in_err-played.ensures.follows (g.O.Outlet.placed w c.args.target.now) was))

pub returns-in_err-sent-clause-follows : goal.returns-in_err-sent-clause-follows
returns-in_err-sent-clause-follows g c = λ before stands is w was.
    let p = err_from_is_err_and c.from_residual-in_err-sent.result c.from_residual-in_err-sent.ensures.1 in
    rw (p.1, p.2)
    (then-sending (layout_of c.args.kept.now g.O.Outlet.given) (g.C.Core.face c.args.core.now).rules before (plain_input c.args.input) _ _ _ _ _ _ _ _
    (c.take.ensures.plays before stands)
    (c.in_ok-keep_entry.ensures (g.O.Outlet.placed w c.args.target.now) was)
    (c.in_ok-played.ensures.follows (g.O.Outlet.placed w c.args.target.now) was)
    (handed _ _ _ _ (rw (
      is,
      g.met.O.Outlet.apart w (g.F.Files.disk c.play_all.new.files was) c.args.target.now,
      g.met.O.Outlet.apart w (g.F.Files.disk c.play_all.new.files was) c.give_all.new.target,
    ) at
    (c.in_err-sent.ensures.follows (before ++ plain_input c.args.input ∷ [])
    ((g.C.Core.face c.args.core.now).rules.sends before (plain_input c.args.input))
    (c.in_ok-played.ensures.keeps.stands _ (c.take.ensures.stands before stands))
    (c.in_ok-played.ensures.owes _ _ (c.take.ensures.sends before stands))
    (with_files w (g.F.Files.disk c.play_all.new.files was))))))

pub returns-clause-follows : goal.returns-clause-follows
returns-clause-follows g c = λ before stands is w was.
    then-sending (layout_of c.args.kept.now g.O.Outlet.given) (g.C.Core.face c.args.core.now).rules before (plain_input c.args.input) _ _ _ _ _ _ _ _
    (c.take.ensures.plays before stands)
    (c.in_ok-keep_entry.ensures (g.O.Outlet.placed w c.args.target.now) was)
    (c.in_ok-played.ensures.follows (g.O.Outlet.placed w c.args.target.now) was)
    (answered _ _ _ _ _ (rw (
      is,
      g.met.O.Outlet.apart w (g.F.Files.disk c.play_all.new.files was) c.args.target.now,
      g.met.O.Outlet.apart w (g.F.Files.disk c.play_all.new.files was) c.give_all.new.target,
    ) at
    (c.in_ok-sent.ensures.follows (before ++ plain_input c.args.input ∷ [])
    ((g.C.Core.face c.args.core.now).rules.sends before (plain_input c.args.input))
    (c.in_ok-played.ensures.keeps.stands _ (c.take.ensures.stands before stands))
    (c.in_ok-played.ensures.owes _ _ (c.take.ensures.sends before stands))
    (with_files w (g.F.Files.disk c.play_all.new.files was)))))

pub returns-clause-took : goal.returns-clause-took
returns-clause-took g c = λ before stands.
    let stands_then = c.in_ok-played.ensures.keeps.stands _ (c.take.ensures.stands before stands) in
    let owes_then = c.in_ok-played.ensures.owes _ _ (c.take.ensures.sends before stands) in
    record {
      stands = c.in_ok-sent.ensures.keeps.stands _ stands_then;
      counted = counted-one (g.C.Core.face c.args.core.now).rules before (plain_input c.args.input) _ _
          (rw (c.take.ensures.plays before stands) at c.in_ok-played.ensures.count)
          (c.in_ok-sent.ensures.count (before ++ plain_input c.args.input ∷ []) _ stands_then owes_then);
    }

use Rattle.std.proofs.Common.{◌≡◌, ℕ, ◌+◌, List, [], ◌∷◌, ◌++◌, length, length-append, ap, arith}
use Rattle.std.proofs.lemmas.Result.{err_from_is_err_and}
use Rattle.bar_wire.specs.Inputs.{Input, Tick, plain_input}
use Rattle.bar_core.specs.Rules.{Rules}
use Rattle.bar_outside.proofs.Following.{answered}
use Rattle.bar_node.specs.Code.Taking.{layout_of}
use Rattle.bar_node.proofs.Turning.{turns-then, turns-stopped, turns-along, took-both, took-along}
use Rattle.bar_record.proofs.DueLemmas.{due-plain, due-last, due-both, due-first}
use Rattle.bar_node.proofs.turn.take_paced.Goals as goal

next : {taken n : ℕ} → taken ≡ n → taken + 1 ≡ n + 1
next e = omega arith

second : {taken : ℕ} (before : List Input) → taken ≡ length before → taken + 2 ≡ length (before ++ Tick ∷ []) + 1
second before e = let n = length-append before (Tick ∷ []) in omega arith

pub returns-then-not-due-clause-follows : goal.returns-then-not-due-clause-follows
returns-then-not-due-clause-follows g c = λ before stands is w was.
    turns-along (layout_of c.args.kept.now g.O.Outlet.given) (g.C.Core.face c.args.core.now).rules before _ _ _ _ _
    (due-plain _ _ _ c.requires.goes c.is_datagram.result (plain_input c.args.input) c.is_datagram.ensures c.if-not-due.ensures.answer)
    (c.take_input.ensures.follows before stands (next is) w was)

pub returns-in_err-first-clause-follows : goal.returns-in_err-first-clause-follows
returns-in_err-first-clause-follows g c = λ before stands is w was.
    let p = err_from_is_err_and c.from_residual.result c.from_residual.ensures.1 in
    let due =
    due-first _ _ c.args.paced.now c.requires.goes c.is_datagram.result (plain_input c.args.input) c.is_datagram.ensures
    c.if-not-due.ensures.answer
    in
    rw (p.1, p.2)
    (turns-along (layout_of c.args.kept.now g.O.Outlet.given) (g.C.Core.face c.args.core.now).rules before (Tick ∷ due.0) _ _ _ _ due.1
    (turns-stopped (layout_of c.args.kept.now g.O.Outlet.given) (g.C.Core.face c.args.core.now).rules before (Tick ∷ []) due.0 _ _ _
    (c.in_err-first.ensures.follows before stands (next is) w was)))

pub returns-then-is_over-clause-follows : goal.returns-then-is_over-clause-follows
returns-then-is_over-clause-follows g c = λ before stands is w was.
    let first = c.in_ok-first.ensures.took before stands in
    let last = ap (λ (r : Rules). r.last) c.in_ok-first.ensures.rules in
    turns-along (layout_of c.args.kept.now g.O.Outlet.given) (g.C.Core.face c.args.core.now).rules before (Tick ∷ []) _ _ _ _
    (due-last _ _ _ c.requires.goes c.is_datagram.result before (g.met.C.Core.timed c.args.core.now before stands) _ _ last
    (g.met.C.Core.timed c.take_input-2.new.core _ first.stands) (plain_input c.args.input) c.is_datagram.ensures c.if-not-due.ensures.answer
    c.if-is_over.ensures)
    (c.in_ok-first.ensures.follows before stands (next is) w was)

pub returns-then-is_over-clause-took : goal.returns-then-is_over-clause-took
returns-then-is_over-clause-took g c = λ before stands.
    let first = c.in_ok-first.ensures.took before stands in
    let last = ap (λ (r : Rules). r.last) c.in_ok-first.ensures.rules in
    took-along before _ _ (Tick ∷ []) _ _
    (due-last _ _ _ c.requires.goes c.is_datagram.result before (g.met.C.Core.timed c.args.core.now before stands) _ _ last
    (g.met.C.Core.timed c.take_input-2.new.core _ first.stands) (plain_input c.args.input) c.is_datagram.ensures c.if-not-due.ensures.answer
    c.if-is_over.ensures)
    first

pub returns-in_err-second-clause-follows : goal.returns-in_err-second-clause-follows
returns-in_err-second-clause-follows g c = λ before stands is w was.
    let p = err_from_is_err_and c.from_residual-in_err-second.result c.from_residual-in_err-second.ensures.1 in
    let first = c.in_ok-first.ensures.took before stands in
    let last = ap (λ (r : Rules). r.last) c.in_ok-first.ensures.rules in
    rw (p.1, p.2)
    (turns-along (layout_of c.args.kept.now g.O.Outlet.given) (g.C.Core.face c.args.core.now).rules before
    (Tick ∷ plain_input c.args.input ∷ []) _ _ _ _
    (due-both _ _ _ c.requires.goes c.is_datagram.result before (g.met.C.Core.timed c.args.core.now before stands) _ _ last
    (g.met.C.Core.timed c.take_input-2.new.core _ first.stands) (plain_input c.args.input) c.is_datagram.ensures c.if-not-due.ensures.answer
    c.if-is_over.ensures)
    (turns-then (layout_of c.args.kept.now g.O.Outlet.given) (g.C.Core.face c.args.core.now).rules before (Tick ∷ [])
    (plain_input c.args.input ∷ []) _ _ _ _ _
    (c.in_ok-first.ensures.follows before stands (next is) w was)
    (rw c.in_ok-first.ensures.rules at (c.in_err-second.ensures.follows (before ++ Tick ∷ []) first.stands (second before is) w was))))

pub returns-clause-follows : goal.returns-clause-follows
returns-clause-follows g c = λ before stands is w was.
    let first = c.in_ok-first.ensures.took before stands in
    let last = ap (λ (r : Rules). r.last) c.in_ok-first.ensures.rules in
    turns-along (layout_of c.args.kept.now g.O.Outlet.given) (g.C.Core.face c.args.core.now).rules before
    (Tick ∷ plain_input c.args.input ∷ []) _ _ _ _
    (due-both _ _ _ c.requires.goes c.is_datagram.result before (g.met.C.Core.timed c.args.core.now before stands) _ _ last
    (g.met.C.Core.timed c.take_input-2.new.core _ first.stands) (plain_input c.args.input) c.is_datagram.ensures c.if-not-due.ensures.answer
    c.if-is_over.ensures)
    (turns-then (layout_of c.args.kept.now g.O.Outlet.given) (g.C.Core.face c.args.core.now).rules before (Tick ∷ [])
    (plain_input c.args.input ∷ []) _ _ _ _ _
    (c.in_ok-first.ensures.follows before stands (next is) w was)
    (answered _ _ _ c.in_ok-second.second _
    (rw c.in_ok-first.ensures.rules at (c.in_ok-second.ensures.follows (before ++ Tick ∷ []) first.stands (second before is) w was))))

pub returns-clause-took : goal.returns-clause-took
returns-clause-took g c = λ before stands.
    let first = c.in_ok-first.ensures.took before stands in
    let last = ap (λ (r : Rules). r.last) c.in_ok-first.ensures.rules in
    took-along before _ _ (Tick ∷ plain_input c.args.input ∷ []) _ _
    (due-both _ _ _ c.requires.goes c.is_datagram.result before (g.met.C.Core.timed c.args.core.now before stands) _ _ last
    (g.met.C.Core.timed c.take_input-2.new.core _ first.stands) (plain_input c.args.input) c.is_datagram.ensures c.if-not-due.ensures.answer
    c.if-is_over.ensures)
    (rw c.with.ensures
    (took-both before _ _ _ (Tick ∷ []) (plain_input c.args.input ∷ []) _ _ first
    (rw c.in_ok-first.ensures.rules at (c.in_ok-second.ensures.took (before ++ Tick ∷ []) first.stands))))

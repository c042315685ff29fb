use Rattle.std.proofs.Common.{rules, ◌≡◌, [], ◌∷◌, take}
use Rattle.bar_system.specs.Binding.{came_by}
use Rattle.bar_system.proofs.Accounts.{gives-then}
use Rattle.bar_system.proofs.bound.Bound.wait.Goals as goal

pub returns-in_err-len-clause-gives : goal.returns-in_err-len-clause-gives
returns-in_err-len-clause-gives g c =
    let none : came_by c.take_one.new.buf c.from_residual-in_err-len.result ≡ [] = search rules in
    rw none (gives-then g.S.Socket.account [] c.args.self.now c.loop.self c.take_one.new.self c.loop.invariant c.in_err-len.ensures.gives)

pub returns-in-Some-clause-gives : goal.returns-in-Some-clause-gives
returns-in-Some-clause-gives g c =
    let gives = rw c.in-Some.is at c.in_ok-len.ensures.gives in
    gives-then g.S.Socket.account (take c.in-Some.len c.take_one.new.buf ∷ []) c.args.self.now c.loop.self c.take_one.new.self c.loop.invariant gives

pub loop-preserved : goal.loop-preserved
loop-preserved g c =
    let gives = rw c.in_default.is at c.in_ok-len.ensures.gives in
    gives-then g.S.Socket.account [] c.args.self.now c.loop.self c.take_one.new.self c.loop.invariant gives

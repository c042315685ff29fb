use Rattle.bar_world.proofs.Decided.{once-ok, twice-ok}
use Rattle.bar_world.specs.Code.Moves.{plain_move}
use Rattle.bar_world.proofs.network.Network.decide.Goals as goal
use Rattle.std.proofs.Common.{◌≡◌, ◌%◌, arith}

pub returns-in_ok-make-in-1-clause-plays : goal.returns-in_ok-make-in-1-clause-plays
returns-in_ok-make-in-1-clause-plays c =
    let one : c.args.number % 10 ≡ 1 = omega arith in
    twice-ok c.args.self.now c.make.new.self _ (plain_move c.args.entry.now) c.args.number _ one
    c.in_ok-make-in-1.ensures.plays c.make-in-1.ensures.plays

pub returns-in_default-clause-plays : goal.returns-in_default-clause-plays
returns-in_default-clause-plays c =
    let zero_not : c.args.number % 10 ≡ 0 → ⊥ = λ e. omega arith in
    let one_not : c.args.number % 10 ≡ 1 → ⊥ = λ e. omega arith in
    once-ok c.args.self.now _ (plain_move c.args.entry.now) c.args.number _ zero_not one_not c.make-in_default.ensures.plays

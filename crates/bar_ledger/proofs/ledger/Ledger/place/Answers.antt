use Rattle.std.proofs.Common.{◌∙◌, subst, sym, arith}
use Rattle.bar_ledger.specs.Code.Memory.{all_in}
use Rattle.bar_ledger.specs.Code.Order.{IsFirstAbove}
use Rattle.bar_ledger.proofs.Rising.{start-all, step-number, end-of-walk, number-found}
use Rattle.bar_ledger.proofs.ledger.Ledger.place.Goals as goal

pub walk-init : goal.walk-init
walk-init c = (start-all (all_in c.args.self.now), omega arith)

pub walk-preserved : goal.walk-preserved
walk-preserved c =
    let xs = all_in c.args.self.now in
    let first = subst (λ o. IsFirstAbove c.walk.after o xs) c.in_ok-x.was c.next_kept.ensures.rest in
    ((step-number c.walk.after xs c.walk.number c.in_ok-x.x c.walk.invariant.0 first).1, omega (arith, c.walk-test.true))

pub returns-in_err-x : goal.returns-in_err-x
returns-in_err-x c =
    c.from_residual.ensures
    ∙ sym (end-of-walk c.walk.after (all_in c.args.self.now) c.walk.number c.args.k c.next_kept.result (λ x e. let none = c.in_err-x.was in cc) c.walk.invariant.0
    c.next_kept.ensures.rest c.walk.invariant.1)

pub returns : goal.returns
returns c =
    number-found c.walk.after (all_in c.args.self.now) c.walk.number c.args.k c.next_kept-2.result c.walk.invariant.0 c.next_kept-2.ensures.rest
    (omega (arith, c.walk.invariant.1, c.walk-test.false))

use Rattle.std.proofs.Common.{arith}
use Rattle.bar_wire.specs.Code.Views.{plain}
use Rattle.bar_judge.specs.Code.Parts.{plain_choice}
use Rattle.bar_wire.proofs.ChoiceLemmas.{choice_rounds}
use Rattle.bar_judge.proofs.one.shows_wrong_partner.Goals as goal

pub returns-then-not-is_known_seed-clause-cost : goal.returns-then-not-is_known_seed-clause-cost
returns-then-not-is_known_seed-clause-cost g c =
    omega (arith, c.is_known_seed.ensures.cost, choice_rounds (plain c.args.view.now.body) (plain_choice c.in-Some.choice) c.in-Some.ensures)

pub returns-clause-cost : goal.returns-clause-cost
returns-clause-cost g c =
    omega (arith, c.is_known_seed.ensures.cost, choice_rounds (plain c.args.view.now.body) (plain_choice c.in-Some.choice) c.in-Some.ensures)

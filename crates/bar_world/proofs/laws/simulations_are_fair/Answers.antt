use Rattle.bar_world.proofs.Fair.{sims-are-setups, sims-are-runs, sims-forge-nothing}
use Rattle.bar_world.proofs.laws.simulations_are_fair.Goals as goal

pub returns-clause-setup : goal.returns-clause-setup
returns-clause-setup c = sims-are-setups

pub returns-clause-run : goal.returns-clause-run
returns-clause-run c = sims-are-runs

pub returns-clause-unforged : goal.returns-clause-unforged
returns-clause-unforged c = sims-forge-nothing

use Rattle.std.proofs.Common.{[]}
use Rattle.bar_laws.proofs.Runs.{run-obedient, run-balanced, keys-to-partners, said-keys}
use Rattle.bar_laws.proofs.balance.balanced.Goals as goal

pub returns-clause-opened : goal.returns-clause-opened
returns-clause-opened c = λ me is inputs x. run-balanced me inputs x (run-obedient me [] inputs tt)

pub returns-clause-partners : goal.returns-clause-partners
returns-clause-partners c = λ me is inputs. keys-to-partners me inputs (run-obedient me [] inputs tt)

pub returns-clause-said : goal.returns-clause-said
returns-clause-said c = said-keys

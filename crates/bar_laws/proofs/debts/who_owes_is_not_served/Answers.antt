use Rattle.bar_laws.proofs.Debtors.{serves-no-debtor}
use Rattle.bar_laws.proofs.debts.who_owes_is_not_served.Goals as goal

pub returns : goal.returns
returns c = λ me is inputs. serves-no-debtor me inputs

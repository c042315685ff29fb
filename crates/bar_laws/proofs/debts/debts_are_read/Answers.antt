use Rattle.bar_laws.proofs.Logs.{debt-read, debt-there}
use Rattle.bar_laws.proofs.debts.debts_are_read.Goals as goal

pub returns : goal.returns
returns c = λ me log party. record { read = debt-read me log party; there = debt-there me log party }

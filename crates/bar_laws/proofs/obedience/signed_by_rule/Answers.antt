use Rattle.std.proofs.Common.{[]}
use Rattle.bar_laws.proofs.Runs.{run-obedient, sent-by-rule}
use Rattle.bar_laws.proofs.obedience.signed_by_rule.Goals as goal

pub returns : goal.returns
returns c = λ me is inputs. record { obedient = run-obedient me [] inputs tt; sent = sent-by-rule me inputs }

use Rattle.bar_laws.proofs.Worlds.{packets-accepted, steps-accepted}
use Rattle.bar_laws.proofs.parties.sent_is_accepted.Goals as goal

pub returns-clause-step : goal.returns-clause-step
returns-clause-step c = steps-accepted

pub returns-clause-packets : goal.returns-clause-packets
returns-clause-packets c = packets-accepted

use Rattle.bar_laws.proofs.Judging.{heard-came, openings-told}
use Rattle.bar_laws.proofs.heard.what_was_heard_came.Goals as goal

pub returns-clause-came : goal.returns-clause-came
returns-clause-came c = heard-came

pub returns-clause-told : goal.returns-clause-told
returns-clause-told c = openings-told

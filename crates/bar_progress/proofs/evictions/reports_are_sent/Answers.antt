use Rattle.bar_progress.proofs.Reporting.{reports-sent}
use Rattle.bar_progress.proofs.evictions.reports_are_sent.Goals as goal

pub returns : goal.returns
returns c = reports-sent

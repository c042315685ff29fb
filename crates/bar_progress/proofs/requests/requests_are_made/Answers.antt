use Rattle.bar_progress.proofs.Requesting.{requests-made}
use Rattle.bar_progress.proofs.requests.requests_are_made.Goals as goal

pub returns : goal.returns
returns c = requests-made

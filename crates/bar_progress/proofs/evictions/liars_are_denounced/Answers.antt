use Rattle.bar_progress.proofs.Lying.{liars-denounced}
use Rattle.bar_progress.proofs.evictions.liars_are_denounced.Goals as goal

pub returns : goal.returns
returns c = liars-denounced c.parties_run_alone.ensures.peers c.parties_run_alone.ensures.broadcaster

use Rattle.bar_laws.proofs.Fitting.{shown-short}
use Rattle.bar_laws.proofs.broadcasting.shown_evidence_is_short.Goals as goal

pub returns : goal.returns
returns c = shown-short

use Rattle.bar_progress.proofs.Requesting.{requests-admitted}
use Rattle.bar_progress.proofs.requests.requests_are_admitted.Goals as goal

pub returns : goal.returns
returns c = requests-admitted c.parties_run_alone.ensures.peers c.premises_can_be_met.ensures.members c.signed_by_rule.ensures

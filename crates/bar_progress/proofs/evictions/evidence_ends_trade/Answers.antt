use Rattle.bar_progress.proofs.Silencing.{evidence-ends}
use Rattle.bar_progress.proofs.evictions.evidence_ends_trade.Goals as goal

pub returns : goal.returns
returns c =
    evidence-ends c.reports_evict.ensures c.notices_are_sent.ensures c.notices_arrive.ensures
    c.announced_parties_are_left_alone.ensures.ignored c.announced_parties_are_left_alone.ensures.spared c.nobody_is_accused.ensures
    c.parties_run_alone.ensures.peers c.parties_run_alone.ensures.broadcaster c.logs_grow.ensures.parties
    c.premises_can_be_met.ensures.members

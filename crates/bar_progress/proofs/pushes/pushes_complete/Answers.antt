use Rattle.bar_progress.proofs.PushTrades.{pushes-complete}
use Rattle.bar_progress.proofs.pushes.pushes_complete.Goals as goal

pub returns : goal.returns
returns c =
    pushes-complete c.knowledge_is_enough.ensures.step c.sent_is_accepted.ensures.step c.nobody_is_accused.ensures
    c.keys_open_well.ensures c.promises_are_equally_long.ensures.equal c.signed_by_rule.ensures c.parties_run_alone.ensures.peers
    c.premises_can_be_met.ensures.members

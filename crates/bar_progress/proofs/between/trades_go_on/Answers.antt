use Rattle.bar_progress.proofs.Going.{packets-given, trades-go-on}
use Rattle.bar_progress.proofs.between.trades_go_on.Goals as goal

pub returns-clause-goes : goal.returns-clause-goes
returns-clause-goes c =
    trades-go-on c.knowledge_is_enough.ensures.step c.parties_run_alone.ensures.peers c.logs_grow.ensures.peers c.sent_is_accepted.ensures.step c.signed_by_rule.ensures
    c.premises_can_be_met.ensures.members c.nobody_is_accused.ensures c.nobody_is_announced.ensures c.promises_are_equally_long.ensures.equal c.what_was_heard_was_said.ensures c.keys_open_well.ensures c.logs_are_sound.ensures

pub returns-clause-given : goal.returns-clause-given
returns-clause-given c = packets-given

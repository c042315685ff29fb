use Rattle.bar_node.proofs.SentOver.{sent-part}
use Rattle.bar_node.proofs.laws.a_part_of_a_run_sent.Goals as goal

pub returns : goal.returns
returns c = sent-part

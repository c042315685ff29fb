use Rattle.bar_node.proofs.SentOver.{sent-whole}
use Rattle.bar_node.proofs.laws.a_whole_run_sent.Goals as goal

pub returns : goal.returns
returns c = sent-whole

use Rattle.bar_lanes.proofs.HeadLemmas.{scheduled_five}
use Rattle.bar_lanes.proofs.head.put_head.Goals as goal

pub returns : goal.returns
returns c j block below begins = scheduled_five block j c.args.head begins c.args.words.now c.told-words

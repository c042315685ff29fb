use Rattle.std.proofs.Common.{refl}
use Rattle.sha2.specs.Sha256.{rounds}
use Rattle.bar_lanes.proofs.ScheduleLemmas.{scheduled_first}
use Rattle.bar_lanes.proofs.rounds.compress.Goals as goal

pub returns : goal.returns
unfolding rounds
returns c j block below is =
    c.last_steps.ensures j block below (c.fill_words.ensures j block below (scheduled_first block j c.args.words.now is)) refl

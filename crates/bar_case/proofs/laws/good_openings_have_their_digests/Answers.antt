use Rattle.bar_case.proofs.Longer.{good_told}
use Rattle.bar_case.proofs.laws.good_openings_have_their_digests.Goals as goal

pub returns : goal.returns
returns c = good_told

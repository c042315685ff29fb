use Rattle.bar_judge.proofs.TableSizes.{listed_short}
use Rattle.bar_judge.proofs.laws.manifests_fit_their_entries.Goals as goal

pub returns : goal.returns
returns c s last manifest list session listed =
    listed_short s last manifest list (λ d read. (c.the_datagram_is_spelled.ensures s.shape d manifest).0 read) session listed

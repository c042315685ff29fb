use Rattle.std.proofs.Common.{sym}
use Rattle.bar_peer.proofs.search.Search.case_here.Goals as goal

pub returns-then-is_key_again-clause-exact : goal.returns-then-is_key_again-clause-exact
returns-then-is_key_again-clause-exact g c k goes = sym (c.is_key_again.ensures c.if-is_key_again.true k goes)

use Rattle.bar_case.proofs.OwnKey.{own_key}
use Rattle.bar_case.proofs.laws.own_key_never_opens_badly.Goals as goal

pub returns : goal.returns
returns c = own_key

use Rattle.bar_laws.proofs.Worlds.{tables-extended}
use Rattle.bar_laws.proofs.parties.tables_are_extended.Goals as goal

pub returns : goal.returns
returns c = tables-extended

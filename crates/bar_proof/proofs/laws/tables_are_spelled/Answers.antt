use Rattle.bar_proof.proofs.TableManifests.{spelled-so}
use Rattle.bar_proof.proofs.laws.tables_are_spelled.Goals as goal

pub returns : goal.returns
returns c = spelled-so

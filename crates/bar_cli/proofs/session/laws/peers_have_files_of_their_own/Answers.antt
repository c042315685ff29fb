use Rattle.bar_cli.proofs.SessionFiles.{own-names}
use Rattle.bar_cli.proofs.session.laws.peers_have_files_of_their_own.Goals as goal

pub returns : goal.returns
returns c = own-names

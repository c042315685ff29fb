use Rattle.std.proofs.Common.{rules}
use Rattle.bar_child_processes.specs.Code.Views.{names_view}
use Rattle.bar_child_processes.proofs.WordLemmas.{words-peer}
use Rattle.bar_child_processes.proofs.words.peer_words.Goals as goal

pub returns : goal.returns
returns c = rw (words-peer (names_view c.args.names.now) c.args.party c.requires) (search rules)

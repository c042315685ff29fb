use Rattle.bar_window.proofs.Spelling.{window_told}
use Rattle.bar_window.proofs.laws.bytes_tell_the_set.Goals as goal

pub returns : goal.returns
returns c = window_told

use Rattle.bar_window.proofs.Spelling.{same_members}
use Rattle.bar_window.proofs.laws.members_tell_the_words.Goals as goal

pub returns : goal.returns
returns c = same_members

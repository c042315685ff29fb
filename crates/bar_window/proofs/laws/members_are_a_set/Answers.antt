use Rattle.bar_window.proofs.Spelling.{members_are_set, members_filter}
use Rattle.bar_window.proofs.laws.members_are_a_set.Goals as goal

pub returns : goal.returns
returns c = record { set = members_are_set; kept = members_filter }

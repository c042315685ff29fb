use Rattle.bar_roster.proofs.SessionLemmas.{session_in_range}
use Rattle.bar_roster.proofs.laws.accepted_sessions_are_in_range.Goals as goal

pub returns : goal.returns
returns c bytes s accepted = session_in_range bytes s accepted

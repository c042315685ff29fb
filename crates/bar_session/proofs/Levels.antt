-- What the levels of a session's signatures imply for their types and for the ranges of its numbers.
use Rattle.std.proofs.Common.{◌≤◌, Bool, true, false, None, arith}
use Rattle.bar_lms.specs.declared.params.Params.{Params}
use Rattle.bar_lms.specs.Schemes.{length_by}
use Rattle.bar_lms.proofs.SchemeLemmas.{long_short}
use Rattle.bar_session.specs.Limits.{last_lms_by, most_long_rounds, rounds_by}
use Rattle.bar_session.specs.SessionData.{SessionData}
use Rattle.bar_session.specs.Sessions.{AreLevels, IsSession}

-- the limits for either number of levels are at most the greatest limits
pub rounds_most : (two : Bool) → rounds_by two ≤ most_long_rounds
rounds_most true = omega arith
rounds_most false = omega arith

pub lms_most : (two : Bool) → last_lms_by two ≤ 7
lms_most true = omega arith
lms_most false = omega arith

-- one level imposes no condition
pub one_level : (p : Params) → AreLevels None p
one_level p = record { low = λ height e. absurd (cc); few = λ height e. absurd (cc) }

-- the signatures of a session are short
pub session_short : (s : SessionData) → IsSession s → length_by s.top s.params ≤ 9004
session_short s is = long_short s.top s.params is.levels.few

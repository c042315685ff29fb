-- The statuses at which something may have been printed on standard output.
use Rattle.std.specs.Prelude.{◌==◌, ◌||◌, ℕ, Bool}

-- `peer` and `broadcaster` print their summaries at the end
abbrev pub live_may_print : ℕ → Bool
live_may_print status = status == 0 || status == 7 || status == 70

-- a replay prints as it runs
abbrev pub replay_may_print : ℕ → Bool
replay_may_print status = status == 0 || status == 3 || status == 7 || status == 70

-- `keygen` prints at the end
abbrev pub keygen_may_print : ℕ → Bool
keygen_may_print status = status == 0 || status == 7 || status == 70

-- `session` prints the status of each child
abbrev pub session_may_print : ℕ → Bool
session_may_print status = status == 0 || status == 7 || status == 9 || status == 70

-- `simulate` prints how the simulation ended
abbrev pub simulate_may_print : ℕ → Bool
simulate_may_print status = status == 0 || status == 7 || status == 70

-- `audit` prints its lines at the end
abbrev pub audit_may_print : ℕ → Bool
audit_may_print status = status == 0 || status == 1 || status == 7 || status == 70

-- `judge` and `verify` print their verdict, and `pack` the length of its file or why there is none
abbrev pub judge_may_print : ℕ → Bool
judge_may_print status = status == 0 || status == 1 || status == 7 || status == 70

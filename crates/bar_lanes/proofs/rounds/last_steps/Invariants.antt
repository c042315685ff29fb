use Rattle.std.proofs.Common.{◌≡◌, ℕ, ◌*◌, ◌<◌, List}
use Rattle.sha2.specs.Sha256.{rounds, schedule}
use Rattle.bar_lanes.specs.Code.Lane.{hash_lane, IsScheduled}
use Rattle.bar_lanes.proofs.rounds.last_steps.Given as goal

abbrev pub invariant-fours : goal.invariant-fours
invariant-fours l = (j : ℕ) (block : List ℕ) → j < 8 → IsScheduled block j l.words 64
    → hash_lane j l.fn.start ≡ rounds (hash_lane j l.hash) (schedule block 48) (4 * l.first)
    → hash_lane j l.working ≡ rounds (hash_lane j l.hash) (schedule block 48) (4 * l.four)

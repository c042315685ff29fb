use Rattle.std.proofs.Common.{◌≡◌, ℕ, ◌*◌, ◌<◌, List}
use Rattle.bar_lanes.specs.Code.Lane.{IsScheduled}
use Rattle.bar_lanes.proofs.rounds.fill_words.Given as goal

abbrev pub invariant-fours : goal.invariant-fours
invariant-fours l = (j : ℕ) (block : List ℕ) → j < 8 → IsScheduled block j l.initial.words (4 * l.first)
    → IsScheduled block j l.words (4 * l.four)

use Rattle.std.proofs.Common.{◌≡◌, ◌*◌, take, count_ones, sum_by, length}
use lib.Lanes.{sum_l}
use Rattle.bar_lanes.proofs.words.count.Given as goal

abbrev pub invariant-wide : goal.invariant-wide
invariant-wide l = (length l.sums ≡ 4) × (sum_l l.sums ≡ sum_by count_ones (take (4 * l.i) l.a))

abbrev pub invariant-narrow : goal.invariant-narrow
invariant-narrow l = l.sum ≡ sum_by count_ones (take l.k l.a)

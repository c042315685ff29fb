use Rattle.std.proofs.Common.{◌≡◌, slice_index}
use Rattle.bar_lms.specs.Chains.{most_of}
use Rattle.bar_lms.proofs.groups.most.Given as goal

abbrev pub invariant-numbers : goal.invariant-numbers
invariant-numbers l = l.most ≡ most_of (slice_index l.numbers) 0 l.j

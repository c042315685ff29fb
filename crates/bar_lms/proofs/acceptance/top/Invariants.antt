use Rattle.std.proofs.Common.{◌≡◌, ◌+◌, ◌/◌, ◌^◌}
use Rattle.bar_lms.specs.Params.{levels}
use Rattle.bar_lms.specs.Signature.{hash_at}
use Rattle.bar_lms.specs.Tree.{climb}
use Rattle.bar_lms.proofs.acceptance.top.Given as goal

abbrev pub invariant-path : goal.invariant-path
invariant-path g l = record {
  number : l.r ≡ (2 ^ levels l.fn.height + l.q) / 2 ^ l.level;
  below : l.below ≡ climb l.ident (hash_at l.path) (2 ^ levels l.fn.height + l.q) l.fn.leaf l.level;
  cost : l.steps ≡ l.initial.steps + l.level;
}

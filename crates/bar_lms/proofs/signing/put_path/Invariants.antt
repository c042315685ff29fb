use Rattle.std.proofs.Common.{◌≡◌, ◌+◌, ◌*◌, ◌/◌, ◌^◌, ◌++◌, take, drop}
use Rattle.bar_lms.specs.Chains.{joined}
use Rattle.bar_lms.specs.Params.{levels}
use Rattle.bar_lms.specs.Signature.{sibling_at}
use Rattle.bar_lms.proofs.signing.put_path.Given as goal

abbrev pub invariant-path : goal.invariant-path
invariant-path l = record {
  number : l.r ≡ (2 ^ levels l.key.params.height + l.q) / 2 ^ l.level;
  rest : drop (l.at + 32 * levels l.key.params.height) l.out ≡ drop (l.at + 32 * levels l.key.params.height) l.initial.out;
  written : take (l.at + 32 * l.level) l.out ≡ take l.at l.initial.out ++ joined (sibling_at l.key l.q) l.level;
}

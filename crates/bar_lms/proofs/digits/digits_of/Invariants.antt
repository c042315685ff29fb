use Rattle.std.proofs.Common.{◌≡◌, ℕ, ◌≤◌, ◌<◌, length, slice_index}
use Rattle.bar_lms.specs.Params.{last}
use Rattle.bar_lms.specs.Chains.{digit}
use Rattle.bar_lms.proofs.digits.digits_of.Given as goal

abbrev pub invariant-digits : goal.invariant-digits
invariant-digits l = record {
  long : length l.digits ≡ 265;
  value : (i : ℕ) → i < l.i → slice_index l.digits i ≡ digit l.ots l.hash i;
  bound : (i : ℕ) → i < l.i → slice_index l.digits i ≤ last l.ots;
}

-- Numbers in range name types of their levels.
use Rattle.std.proofs.Common.{◌≡◌, ℕ, ◌≤◌, Option, Some, None, arith, ap, inl, inr}
use Rattle.std.specs.Prelude.{is_some, option_map}
use Rattle.std.proofs.lemmas.Bool.{cases_lt}
use Rattle.bar_lms.specs.Params.{chains}
use Rattle.bar_session.specs.Limits.{first_ots_by, last_lms_by}
use Rattle.bar_session.specs.Sessions.{AreLevels}
use Rattle.bar_session.proofs.Levels.{one_level}
use Rattle.bar_roster.specs.Shapes.{height_of, ots_of, params_of}

-- types 3 and 4 of one-time signatures have few chains
wide_few : (ots : ℕ) → 3 ≤ ots → ots ≤ 4 → chains (ots_of ots) ≤ 67
wide_few ots low high = elim (cases_lt ots 4) [
  | inl less ↦ let e : ots ≡ 3 = omega (arith, less, low) in rw e (omega arith)
  | inr most ↦ let e : ots ≡ 4 = omega (arith, most, high) in rw e (omega arith)
]

-- numbers in range name types of their levels
pub levels_are : (top : Option ℕ) (lms ots : ℕ) → 5 ≤ lms → lms ≤ last_lms_by (is_some top) → first_ots_by (is_some top) ≤ ots → ots ≤ 4
    → AreLevels (option_map height_of top) (params_of lms ots)
levels_are None lms ots low high first last = one_level (params_of lms ots)
levels_are (Some top) lms ots low high first last =
    let five : lms ≡ 5 = omega (arith, low, high) in
    record { low = λ height e. ap height_of five; few = λ height e. wide_few ots first last }

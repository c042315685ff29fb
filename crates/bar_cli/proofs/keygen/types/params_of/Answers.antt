use Rattle.std.proofs.Common.{◌≡◌, ◌∙◌, ◌≤◌, ◌==◌, ap, refl, cond, arith, ℕ, Bool, true, false}
use Rattle.std.specs.Result.{result_ok}
use Rattle.std.proofs.lemmas.Bool.{eqb-true}
use Rattle.std.proofs.lemmas.Bool.Decides.{nat_tests}
use Rattle.bar_lms.specs.declared.params.Height.TheVariants.{H5, H10, H15}
use Rattle.bar_lms.specs.declared.params.Ots.TheVariants.{W1, W2, W4, W8}
use Rattle.bar_lms.specs.Params.{lms_type, ots_type}
use Rattle.bar_roster.specs.Shapes.{height_of, ots_of, params_of}
use Rattle.bar_cli.proofs.keygen.types.params_of.Goals as goal

height-named : (lms : ℕ) → 5 ≤ lms → lms ≤ 7 → lms ≡ lms_type (height_of lms)
height-named lms low high = by_tests (lms == 5) (lms == 6) refl refl
  where
    by_tests : (a b : Bool) → (lms == 5) ≡ a → (lms == 6) ≡ b → lms ≡ lms_type (cond a H5 (cond b H10 H15))
    by_tests true b e f = eqb-true lms 5 e
    by_tests false true e f = eqb-true lms 6 f
    by_tests false false e f = grind (arith, nat_tests)

ots-named : (ots : ℕ) → 1 ≤ ots → ots ≤ 4 → ots ≡ ots_type (ots_of ots)
ots-named ots low high = by_tests (ots == 1) (ots == 2) (ots == 3) refl refl refl
  where
    by_tests : (a b d : Bool) → (ots == 1) ≡ a → (ots == 2) ≡ b → (ots == 3) ≡ d → ots ≡ ots_type (cond a W1 (cond b W2 (cond d W4 W8)))
    by_tests true b d e f h = eqb-true ots 1 e
    by_tests false true d e f h = eqb-true ots 2 f
    by_tests false false true e f h = eqb-true ots 3 h
    by_tests false false false e f h = grind (arith, nat_tests)

pub returns : goal.returns
returns c =
    c.ok.ensures.value
    ∙ ap result_ok ((c.of_types.ensures.found (params_of c.args.lms c.args.ots)).1
    (height-named c.args.lms c.requires.lms.0 c.requires.lms.1, ots-named c.args.ots c.requires.ots.0 c.requires.ots.1))

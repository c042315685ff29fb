use Rattle.std.proofs.Common.{◌≡◌, ◌∙◌, ap, ℕ, List, Option, Some, None, option_map, option_and_then}
use Rattle.bar_lms.specs.declared.params.Height.{Height}
use Rattle.bar_lms.specs.declared.params.Params.{Params}
use Rattle.bar_roster.specs.Shapes.{params_of}
use Rattle.bar_arguments.specs.Numbers.{number_in}
use Rattle.bar_cli.specs.Keygen.Types.{types_of}
use Rattle.bar_cli.proofs.keygen.types.types_of.Goals as goal

named : (lms_word ots_word : List ℕ) (lms ots : ℕ) (p : Params) → Some lms ≡ number_in 5 7 lms_word → Some ots ≡ number_in 1 4 ots_word →
    Some p ≡ Some (params_of lms ots) → ◌≡◌ {A = Option (Option Height × Params)} (Some (None, p)) (types_of lms_word ots_word)
named lms_word ots_word lms ots p e f is =
    let types : Params → Option Height × Params = λ q. (None, q) in
    ap (λ (x : Option Params). option_map types x) is
    ∙ ap (λ (x : Option ℕ). option_map (λ (n : ℕ). types (params_of lms n)) x) f
    ∙ ap (λ (x : Option ℕ). option_and_then (λ (m : ℕ). option_map (λ (n : ℕ). types (params_of m n)) (number_in 1 4 ots_word)) x) e

pub returns : goal.returns
returns c =
    named c.args.lms.now c.args.ots.now c.in_ok-lms.field-0 c.in_ok-ots.field-0 c.in_ok-params.params c.in_ok-lms.ensures.value
    c.in_ok-ots.ensures.value c.in_ok-params.ensures

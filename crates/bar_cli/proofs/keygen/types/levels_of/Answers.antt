use Rattle.std.proofs.Common.{◌≡◌, ◌∙◌, ap, ℕ, List, Option, Some, option_map, option_and_then}
use Rattle.bar_lms.specs.declared.params.Height.{Height}
use Rattle.bar_lms.specs.declared.params.Params.{Params}
use Rattle.bar_roster.specs.Shapes.{height_of, params_of}
use Rattle.bar_arguments.specs.Numbers.{number_in}
use Rattle.bar_cli.specs.Keygen.Types.{levels_of}
use Rattle.bar_cli.proofs.keygen.types.levels_of.Goals as goal

named : (top_word ots_word : List ℕ) (top ots : ℕ) (upper p : Params) → Some top ≡ number_in 5 7 top_word → Some ots ≡ number_in 3 4 ots_word →
    Some upper ≡ Some (params_of top ots) → Some p ≡ Some (params_of 5 ots) →
    ◌≡◌ {A = Option (Option Height × Params)} (Some (Some upper.height, p)) (levels_of top_word ots_word)
named top_word ots_word top ots upper p e f above is =
    let types : ℕ → ℕ → Option Height × Params = λ m n. (Some (height_of m), params_of 5 n) in
    (λ i. option_and_then (λ (u : Params). option_map (λ (q : Params). (Some u.height, q)) (is i)) (above i))
    ∙ ap (λ (x : Option ℕ). option_map (λ (n : ℕ). types top n) x) f
    ∙ ap (λ (x : Option ℕ). option_and_then (λ (m : ℕ). option_map (λ (n : ℕ). types m n) (number_in 3 4 ots_word)) x) e

pub returns : goal.returns
returns c =
    named c.args.top.now c.args.ots.now c.in_ok-top.field-0 c.in_ok-ots.field-0 c.in_ok-upper.upper c.in_ok-params.params c.in_ok-top.ensures.value
    c.in_ok-ots.ensures.value c.in_ok-upper.ensures c.in_ok-params.ensures

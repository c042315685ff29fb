use Rattle.std.proofs.Common.{◌∙◌, ap, sym, arith, rules, tests, slice_index_or, [], List, ℕ, Option}
use Rattle.std.specs.Borrow.{Bor}
use Rattle.std.proofs.lemmas.Bool.Decides.{nat_tests}
use Rattle.bar_lms.specs.declared.params.Height.{Height}
use Rattle.bar_lms.specs.declared.params.Params.{Params}
use Rattle.bar_session.specs.Limits.{most_rounds}
use Rattle.bar_cli.specs.Line.{asked_by, keygen_values}
use Rattle.bar_cli.proofs.WordLemmas.{not-seven, seven-are}
use Rattle.bar_cli.proofs.line.keygen.keygen_of.Goals as goal
use Rattle.bar_cli.proofs.line.keygen.keygen_of.Goals.{in_default-via-then-values-lt7, in_default-via-else-values-lt7+else-values-lt8}

pub returns-in_default : goal.returns-in_default
returns-in_default c =
    not-seven c.args.values.now
    (λ e. elim c.in_default.branch [
      | in_default-via-then-values-lt7 w ↦ first_of (search (rules, tests), grind (arith, nat_tests, w))
      | in_default-via-else-values-lt7+else-values-lt8 w ↦ first_of (search (rules, tests), grind (arith, nat_tests, w))
    ])

pub returns : goal.returns
returns c =
    let d : Bor (List ℕ) = record { ref_ptr = (0, 0); now = [] } in
    let value : ℕ → List ℕ = λ i. (slice_index_or c.args.values.now i d).now in
    c.asked_of.ensures
    ∙ ap (λ (types : Option (Option Height × Params)). asked_by most_rounds types (value 0) (value 1) (value 2) (value 5) (value 6)) c.types_of.ensures
    ∙ sym (ap keygen_values (seven-are c.args.values.now d (omega arith)))

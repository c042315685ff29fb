use Rattle.std.proofs.Common.{◌≡◌, ◌∙◌, sym, ap, arith, List, ℕ, [], ◌∷◌, ◌++◌, rules, Some, length, length-append}
use Rattle.std.specs.Borrow.{Bor}
use Rattle.std.proofs.lemmas.List.{map-append}
use Rattle.clap.specs.Words.{found_of}
use Rattle.clap.specs.Matches.{first_value}
use Rattle.bar_arguments.specs.Options.{texts}
use Rattle.bar_arguments.proofs.ValueLemmas.{more-at, none-at}
use Rattle.bar_arguments.proofs.options.values_in.Goals as goal

-- the default past the end of the names
nameless : Bor (List ℕ)
nameless = record { ref_ptr = (0, 0); now = [] }

pub returns-in_default-clause-none : goal.returns-in_default-clause-none
unfolding nameless
returns-in_default-clause-none c = λ _.
    none-at (first_value (found_of c.args.found.now)) c.args.names.now c.loop-name.name-index nameless (omega arith) (sym c.in_default.ensures)

pub loop-name-preserved : goal.loop-name-preserved
unfolding nameless
loop-name-preserved c =
    let grown : c.push.new.self.items ≡ c.loop-name.values.items ++ c.in-Some.value ∷ [] = search rules in
    let more =
    more-at (first_value (found_of c.args.found.now)) c.args.names.now c.loop-name.name-index nameless c.in-Some.value.now (texts c.loop-name.values.items)
    (omega arith) c.loop-name.invariant.0 (sym c.in-Some.ensures)
    in (
      more ∙ ap Some (sym (ap texts grown ∙ map-append (λ (text : Bor (List ℕ)). text.now) c.loop-name.values.items (c.in-Some.value ∷ []))),
      ap length grown ∙ (length-append c.loop-name.values.items (c.in-Some.value ∷ []) ∙ omega (arith, c.loop-name.invariant.1)),
    )

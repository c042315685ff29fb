use Rattle.std.proofs.Common.{refl, arith, ⊎_elim, ◌≡◌, ◌∙◌, ap, sym, map, true, false, string_bytes, [], ◌∷◌, List}
use Rattle.std.proofs.lemmas.Bool.Decides.{nat_tests}
use Rattle.clap.specs.Words.{app_of, found_of, is_simple, matches_of, fault_of, is_simple_and_free}
use Rattle.clap.specs.Kinds.{IsAmong}
use Rattle.clap.specs.Walk.{is_empty}
use Rattle.clap.specs.declared.error.kind.ErrorKind.{ErrorKind}
use Rattle.bar_arguments.specs.Options.{is_taken, texts}
use Rattle.bar_arguments.proofs.ValueLemmas.{values-found}
use Rattle.bar_arguments.proofs.OptionLemmas.{options-simple, options-simple_and_free}
use Rattle.bar_arguments.proofs.options.taken.Goals as goal

-- a list that contains a kind isn't empty
some_kind : (k : ErrorKind) (kinds : List ErrorKind) → IsAmong k kinds → is_empty kinds ≡ false
some_kind k [] h = absurd h
some_kind k (x ∷ kinds) h = grind (arith, nat_tests)

pub returns-in-Ok-clause-ok : goal.returns-in-Ok-clause-ok
unfolding is_taken
returns-in-Ok-clause-ok c =
    let names = texts c.args.names.now in
    let words = map string_bytes c.args.words.now in
    let simple = ap is_simple c.in_ok-command_with.ensures ∙ options-simple names in
    let free = ap is_simple_and_free c.in_ok-command_with.ensures ∙ options-simple_and_free names in
    let taken : is_taken names words ≡ true =
    sym (ap (λ app. is_empty (fault_of app words)) c.in_ok-command_with.ensures) ∙ ap is_empty (c.in-Ok.ensures.kinds free)
    in
    let rows = (c.in-Ok.ensures.matches simple).0 ∙ ap (λ app. matches_of app words) c.in_ok-command_with.ensures in
    sym (values-found (found_of c.in-Ok.found) names words rows taken)

pub returns : goal.returns
unfolding is_taken
returns c =
    let names = texts c.args.names.now in
    let words = map string_bytes c.args.words.now in
    let free = ap is_simple_and_free c.in_ok-command_with.ensures ∙ options-simple_and_free names in
    let kinds = fault_of (app_of c.in_ok-command_with.field-0) words in
    let some : is_empty kinds ≡ false =
    ⊎_elim (λ memory. absurd (c.in_default.not-OutOfMemory (c.kind.ensures ∙ memory))) (λ among. some_kind _ kinds among) (c.in-Err.ensures.kinds free)
    in
    let refused : is_taken names words ≡ false = sym (ap (λ app. is_empty (fault_of app words)) c.in_ok-command_with.ensures) ∙ some in
    record { ok = tt; usage = λ _. rw refused refl }

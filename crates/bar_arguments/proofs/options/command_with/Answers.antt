use Rattle.std.proofs.Common.{List, get_or, ℕ, rules, arith, ◌≡◌, ◌∙◌, ap, ap₂, [], true}
use Rattle.std.specs.Borrow.{Bor}
use Rattle.clap.specs.Words.{rule_of, with_rule}
use Rattle.clap.specs.Simple.{App, app_of_fields, on_top}
use Rattle.bar_arguments.specs.Options.{options_of, option_rule}
use Rattle.bar_arguments.proofs.OptionLemmas.{option-at}
use Rattle.bar_arguments.proofs.options.command_with.Goals as goal

abbrev bare : App → App
bare = on_top (λ s. record s { no_binary_name = true })

abbrev helpless : App → App
helpless = on_top (λ s. record s { disable_help_flag = true })

pub loop-name-init : goal.loop-name-init
unfolding options_of
loop-name-init c =
    ap app_of_fields c.disable_help_flag-command.ensures ∙ ap helpless (ap app_of_fields c.no_binary_name.ensures ∙ ap bare c.new.ensures.app)

-- the default past the end of the names
nameless : Bor (List ℕ)
nameless = record { ref_ptr = (0, 0); now = [] }

pub loop-name-preserved : goal.loop-name-preserved
unfolding nameless
loop-name-preserved c =
    let option_is : rule_of c.required-option.result ≡ option_rule (get_or c.args.names.now c.loop-name.name-index nameless).now = search rules in
    c.in_ok-command.ensures.shape (search rules) ∙ ap₂ with_rule c.loop-name.invariant option_is
    ∙ option-at c.args.names.now c.loop-name.name-index nameless (omega arith)

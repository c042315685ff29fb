-- Which arguments are the options of a command: those that its `clap` command accepts.
use Rattle.std.specs.Prelude.{Bool, true, List, [], ◌∷◌, Option, Some, None, is_some, option_and_then, option_map, map, codes, if◌then◌else◌}
use Rattle.std.specs.List.{list_all}
use Rattle.clap.specs.Words.{App, Rule, Text, first_of, matches_of, new_app, new_rule}
use Rattle.clap.specs.Walk.{is_empty}
pub use Rattle.clap.specs.Walk.{texts}
use Rattle.clap.specs.Simple.{on_top}
use Rattle.clap.specs.Matches.{first_value, found_of}
use Rattle.clap.specs.declared.parser.matches.ArgMatches.{ArgMatches}
use Rattle.clap.specs.Faults.{fault_of}
use Rattle.clap.specs.declared.builder.action.ArgAction.TheVariants.{Set}

-- a required option that takes one value and may be given only once
abbrev pub option_rule : Text → Rule
option_rule name = record (new_rule name) { long = Some name; action = Some Set; required = true }

-- the command with these options: it has no positional arguments, its first argument isn't a program name, and it has no help flag
unfoldable pub options_of : List Text → App
options_of names =
    on_top (λ s. record s { rules = map option_rule names; no_binary_name = true; disable_help_flag = true }) (new_app (codes "bar"))

-- the command accepts these arguments: they have no fault
unfoldable pub is_taken : List Text → List Text → Bool
is_taken names words = is_empty (fault_of (options_of names) words)

-- the value of one option in arguments that are accepted
unfoldable pub value_of : List Text → List Text → Text → Option Text
value_of names words name = first_of name (matches_of (options_of names) words)

-- each option has a value in the arguments
abbrev pub each_has_value : List Text → List Text → Bool
each_has_value names words = list_all (λ name. is_some (value_of names words name)) names

-- the values for these names, in order, if each has one
abbrev pub values_by : (Text → Option Text) → List Text → Option (List Text)
values_by value [] = Some []
values_by value (name ∷ names) = option_and_then (λ own. option_map (λ values. own ∷ values) (values_by value names)) (value name)

-- the values of these options in the order of the names, if the arguments are accepted
abbrev pub values_of : List Text → List Text → Option (List Text)
values_of names words = if is_taken names words then values_by (value_of names words) names else None

-- the values of these options in what `clap` found
abbrev pub found_values : ArgMatches → List Text → Option (List Text)
found_values found names = values_by (first_value (found_of found)) names

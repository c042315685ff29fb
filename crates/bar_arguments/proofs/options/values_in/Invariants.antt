use Rattle.std.proofs.Common.{◌≡◌, take, length, Some}
use Rattle.clap.specs.Words.{found_of}
use Rattle.clap.specs.Matches.{first_value}
use Rattle.bar_arguments.specs.Options.{texts, values_by}
use Rattle.bar_arguments.proofs.options.values_in.Given as goal

-- the values of the names so far
abbrev pub invariant-loop-name : goal.invariant-loop-name
invariant-loop-name l =
    (values_by (first_value (found_of l.found)) (texts (take l.name-index l.names)) ≡ Some (texts l.values.items))
    × (length l.values.items ≡ l.name-index)

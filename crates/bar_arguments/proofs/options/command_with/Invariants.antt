use Rattle.std.proofs.Common.{◌≡◌, map, take}
use Rattle.clap.specs.Words.{app_of}
use Rattle.bar_arguments.specs.Options.{options_of}
use Rattle.bar_arguments.proofs.options.command_with.Given as goal

-- the options so far
abbrev pub invariant-loop-name : goal.invariant-loop-name
invariant-loop-name l = app_of l.command ≡ options_of (map (λ name. name.now) (take l.name-index l.names))

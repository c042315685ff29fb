-- The state of a core after it took inputs.
use Rattle.std.specs.Prelude.{◌≡◌, ℕ, List, ◌++◌}
use Rattle.std.specs.Option.{option_copied}
use Rattle.bar_wire.specs.Inputs.{Input}
use Rattle.bar_outside.specs.Plan.{Action}
use Rattle.bar_core.specs.Rules.{Rules, Send}
use Rattle.bar_node.specs.Code.Turns.{Layout, layout_by}
use Rattle.bar_node.specs.Code.Counting.{counts_over}
use Rattle.bar_node.specs.declared.counts.Counts.{Counts}
use Rattle.bar_node.specs.declared.kept.Kept.{Kept}

-- After the previous inputs, these inputs were taken, and everything that they play and send was counted.
pub record Took (before : List Input) (now : List Input → Type 0) (r : Rules) (inputs : List Input) (counts : Counts) : Type 0 where
  pub stands : now (before ++ inputs)
  pub counted : counts ≡ counts_over r before inputs

-- the layout of a run that keeps these files and gives out datagrams in this way
abbrev pub layout_of : Kept → (ℕ → Send → List Action) → Layout
layout_of kept give = layout_by (option_copied kept.recording) (option_copied kept.played) give

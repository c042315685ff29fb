-- The status of a session.
use Rattle.std.specs.Prelude.{ℕ, ◌==◌, if◌then◌else◌}
use Rattle.bar_outside.specs.declared.spawner.ChildFault.{ChildFault}
use Rattle.bar_outside.specs.declared.spawner.ChildFault.TheVariants as fault
use Rattle.bar_child_processes.specs.declared.outcome.Outcome.{Outcome}
use Rattle.bar_child_processes.specs.declared.outcome.Outcome.TheVariants.{Done, ChildFailed, OutputFailed, NoMemory}

abbrev pub code_of : Outcome → ℕ
code_of Done = 0
code_of ChildFailed = 9
code_of OutputFailed = 7
code_of NoMemory = 70

abbrev pub code_of_fault : ChildFault → ℕ
code_of_fault fault.Failed = 9
code_of_fault fault.NoMemory = 70

-- the first failure of two, except that running out of memory takes precedence
abbrev pub joined : ℕ → ℕ → ℕ
joined first later = if later == 70 then 70 else if first == 0 then later else first

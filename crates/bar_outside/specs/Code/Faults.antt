-- The fault of a command for each fault of the outside, with its status and line.
use Rattle.std.specs.Prelude.{ℕ, List, Result, Ok, Err}
use Rattle.bar_outside.specs.Plan as plan
use Rattle.bar_outside.specs.declared.files.FileFault.{FileFault}
use Rattle.bar_outside.specs.declared.files.FileFault.TheVariants as file
use Rattle.bar_outside.specs.declared.sink.SinkFault.{SinkFault}
use Rattle.bar_outside.specs.declared.sink.SinkFault.TheVariants as sink
use Rattle.bar_outside.specs.declared.link.LinkFault.{LinkFault}
use Rattle.bar_outside.specs.declared.link.LinkFault.TheVariants as link
use Rattle.bar_outside.specs.declared.fault.Fault.{Fault}
use Rattle.bar_outside.specs.declared.fault.Fault.TheVariants.{File, Link, Output, NoMemory}

abbrev pub fault_of_file : FileFault → Fault
fault_of_file file.Failed = File
fault_of_file file.NoMemory = NoMemory

abbrev pub fault_of_sink : SinkFault → Fault
fault_of_sink sink.Failed = Output
fault_of_sink sink.NoMemory = NoMemory

abbrev pub fault_of_link : LinkFault → Fault
fault_of_link link.Failed = Link
fault_of_link link.NoMemory = NoMemory

-- the exit status of a fault
abbrev pub code_of_fault : Fault → ℕ
code_of_fault File = 3
code_of_fault Link = 6
code_of_fault Output = 7
code_of_fault NoMemory = 70

-- the line printed for a fault
abbrev pub line_of_fault : Fault → List ℕ
line_of_fault File = plan.file_failed
line_of_fault Link = plan.link_failed
line_of_fault Output = plan.output_failed
line_of_fault NoMemory = plan.no_memory

-- the status and the line of a command after actions that may fail
abbrev pub code_after : {T : Type 0} → ℕ → Result T Fault → ℕ
code_after status (Ok x) = status
code_after status (Err fault) = code_of_fault fault

abbrev pub line_after : {T : Type 0} → List ℕ → Result T Fault → List ℕ
line_after line (Ok x) = line
line_after line (Err fault) = line_of_fault fault

-- The lines printed when a session's text or a key text is refused.
use Rattle.std.specs.Prelude.{ℕ, List, ◌++◌, codes}
use Rattle.bar_roster.specs.declared.fault.SessionFault.{SessionFault}
use Rattle.bar_roster.specs.declared.key_fault.KeyFileFault.{KeyFileFault}
use Rattle.bar_roster.specs.FaultText.{fault_text}
use Rattle.bar_roster.specs.KeyFaultText.{key_fault_text}

abbrev pub session_refused : SessionFault → List ℕ
session_refused fault = codes "bar: session refused: " ++ (fault_text fault ++ codes "\n")

abbrev pub key_refused : KeyFileFault → List ℕ
key_refused fault = codes "bar: key refused: " ++ (key_fault_text fault ++ codes "\n")

-- The exit statuses, and the line of each.
use Rattle.std.specs.Prelude.{ℕ, ◌==◌, ◌||◌, Bool, true, false, List, [], Result, Ok, Err}
use Rattle.bar_outside.specs.Plan as plan
use Rattle.bar_outside.specs.Code.Faults.{code_of_fault, line_of_fault}
use Rattle.bar_outside.specs.declared.fault.Fault.{Fault}
use Rattle.bar_cli.specs.declared.status.Status.{Status}
use Rattle.bar_cli.specs.declared.status.Status.TheVariants.{Done, NoFault, Unbalanced, Usage, FileFailed, LinkFailed, SessionRefused, KeyRefused, OutputFailed, ChildFailed, RecordingRefused, PartiesRefused, StreamRefused, SecretRefused, TableRefused, EvidenceRefused, NoMemory, ProofRefused}
use Rattle.bar_cli.specs.Line.{usage}
use Rattle.bar_cli.specs.Session.{child_failed}
use Rattle.bar_cli.specs.Refusals.{session_refused, key_refused, recording_refused, parties_refused, stream_refused, secret_refused, table_refused, evidence_refused, proof_refused}

abbrev pub code_of : Status → ℕ
code_of Done = 0
code_of NoFault = 1
code_of Unbalanced = 1
code_of Usage = 2
code_of FileFailed = 3
code_of (SessionRefused fault) = 4
code_of (KeyRefused fault) = 5
code_of LinkFailed = 6
code_of OutputFailed = 7
code_of (RecordingRefused fault) = 8
code_of PartiesRefused = 8
code_of (StreamRefused have room) = 8
code_of (SecretRefused len) = 8
code_of (TableRefused at) = 8
code_of EvidenceRefused = 8
code_of (ProofRefused fault) = 8
code_of ChildFailed = 9
code_of NoMemory = 70

-- the line that is printed for a status
abbrev pub said_at : Status → List ℕ
said_at Done = []
said_at NoFault = []
said_at Unbalanced = []
said_at Usage = usage
said_at FileFailed = plan.file_failed
said_at LinkFailed = plan.link_failed
said_at (SessionRefused fault) = session_refused fault
said_at (KeyRefused fault) = key_refused fault
said_at OutputFailed = plan.output_failed
said_at (RecordingRefused fault) = recording_refused fault
said_at PartiesRefused = parties_refused
said_at (StreamRefused have room) = stream_refused have room
said_at (SecretRefused len) = secret_refused len
said_at (TableRefused at) = table_refused at
said_at EvidenceRefused = evidence_refused
said_at (ProofRefused fault) = proof_refused fault
said_at ChildFailed = child_failed
said_at NoMemory = plan.no_memory

-- the status and the line of a command that a fault may stop
abbrev pub code_of_run : Result Status Fault → ℕ
code_of_run (Ok status) = code_of status
code_of_run (Err fault) = code_of_fault fault

abbrev pub said_by_run : Result Status Fault → List ℕ
said_by_run (Ok status) = said_at status
said_by_run (Err fault) = line_of_fault fault

-- how a replay ends if no fault stops it
abbrev pub is_replay_end : Status → Bool
is_replay_end Done = true
is_replay_end (SessionRefused fault) = true
is_replay_end (KeyRefused fault) = true
is_replay_end (RecordingRefused fault) = true
is_replay_end PartiesRefused = false
is_replay_end (StreamRefused have room) = false
is_replay_end Usage = false
is_replay_end FileFailed = false
is_replay_end LinkFailed = false
is_replay_end OutputFailed = false
is_replay_end (SecretRefused len) = false
is_replay_end NoFault = false
is_replay_end Unbalanced = false
is_replay_end (TableRefused at) = false
is_replay_end EvidenceRefused = false
is_replay_end (ProofRefused fault) = false
is_replay_end ChildFailed = false
is_replay_end NoMemory = false

-- how `keygen` ends if no fault stops it
abbrev pub is_keygen_end : Status → Bool
is_keygen_end Done = true
is_keygen_end (SessionRefused fault) = true
is_keygen_end (SecretRefused len) = true
is_keygen_end (KeyRefused fault) = false
is_keygen_end (RecordingRefused fault) = false
is_keygen_end PartiesRefused = false
is_keygen_end (StreamRefused have room) = false
is_keygen_end NoFault = false
is_keygen_end Unbalanced = false
is_keygen_end (TableRefused at) = false
is_keygen_end EvidenceRefused = false
is_keygen_end (ProofRefused fault) = false
is_keygen_end Usage = false
is_keygen_end FileFailed = false
is_keygen_end LinkFailed = false
is_keygen_end OutputFailed = false
is_keygen_end ChildFailed = false
is_keygen_end NoMemory = false

-- how `audit` ends if no fault stops it
abbrev pub is_audit_end : Status → Bool
is_audit_end Done = true
is_audit_end Unbalanced = true
is_audit_end (SessionRefused fault) = true
is_audit_end PartiesRefused = true
is_audit_end (RecordingRefused fault) = true
is_audit_end NoFault = false
is_audit_end (KeyRefused fault) = false
is_audit_end (StreamRefused have room) = false
is_audit_end (SecretRefused len) = false
is_audit_end (TableRefused at) = false
is_audit_end EvidenceRefused = false
is_audit_end (ProofRefused fault) = false
is_audit_end Usage = false
is_audit_end FileFailed = false
is_audit_end LinkFailed = false
is_audit_end OutputFailed = false
is_audit_end ChildFailed = false
is_audit_end NoMemory = false

-- how `judge` ends if no fault stops it
abbrev pub is_judge_end : Status → Bool
is_judge_end Done = true
is_judge_end NoFault = true
is_judge_end Unbalanced = false
is_judge_end (SessionRefused fault) = true
is_judge_end (TableRefused at) = true
is_judge_end EvidenceRefused = true
is_judge_end (ProofRefused fault) = false
is_judge_end (KeyRefused fault) = false
is_judge_end (RecordingRefused fault) = false
is_judge_end PartiesRefused = false
is_judge_end (StreamRefused have room) = false
is_judge_end (SecretRefused len) = false
is_judge_end Usage = false
is_judge_end FileFailed = false
is_judge_end LinkFailed = false
is_judge_end OutputFailed = false
is_judge_end ChildFailed = false
is_judge_end NoMemory = false

-- the statuses of `pack` and of `verify` if no fault stops them
abbrev pub is_proof_end : ℕ → Bool
is_proof_end status = status == 0 || status == 1 || status == 4 || status == 8

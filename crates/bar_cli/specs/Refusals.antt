-- The lines printed for refusals.
use Rattle.std.specs.Prelude.{ℕ, List, [], ◌∷◌, ◌++◌, codes}
use Rattle.std.specs.Fmt.{decimal}
use Rattle.bar_record.specs.declared.fault.RecordFault.{RecordFault}
use Rattle.bar_record.specs.declared.fault.RecordFault.TheVariants.{BadHead, BadEntry, NoEnd, AfterEnd, AfterLast}
use Rattle.bar_proof.specs.declared.proof_fault.ProofFault.{ProofFault}
use Rattle.bar_proof.specs.declared.proof_fault.ProofFault.TheVariants as proof
pub use Rattle.bar_session_files.specs.Refusals.{key_refused, session_refused}
pub use Rattle.bar_party_commands.specs.Streams.{stream_refused}

-- the text of a recording's fault, with its place if it has one
abbrev pub record_fault_text : RecordFault → List ℕ
record_fault_text BadHead = codes "BadHead"
record_fault_text (BadEntry at) = codes "BadEntry at " ++ decimal at
record_fault_text NoEnd = codes "NoEnd"
record_fault_text AfterEnd = codes "AfterEnd"
record_fault_text (AfterLast at) = codes "AfterLast at " ++ decimal at

-- the line for a refused recording
abbrev pub recording_refused : RecordFault → List ℕ
recording_refused fault = codes "bar: input refused: recording " ++ (record_fault_text fault ++ codes "\n")

-- the line for refused parties of an audit
abbrev pub parties_refused : List ℕ
parties_refused = codes "bar: input refused: parties" ++ 10 ∷ []

-- the line for a table that is refused at this place
abbrev pub table_refused : ℕ → List ℕ
table_refused at = codes "bar: input refused: table at " ++ (decimal at ++ codes "\n")

-- the line for a refused evidence file
abbrev pub evidence_refused : List ℕ
evidence_refused = codes "bar: input refused: evidence" ++ 10 ∷ []

-- the text of a proof file's fault, with its place if it has one
abbrev pub proof_fault_text : ProofFault → List ℕ
proof_fault_text proof.BadHead = codes "BadHead"
proof_fault_text (proof.BadManifest at) = codes "manifest at " ++ decimal at
proof_fault_text proof.BadEvidence = codes "evidence"
proof_fault_text proof.NoMemory = codes "NoMemory"

-- the line for a refused proof file
abbrev pub proof_refused : ProofFault → List ℕ
proof_refused fault = codes "bar: input refused: proof " ++ (proof_fault_text fault ++ codes "\n")

-- the line for a refused secret of this length
abbrev pub secret_refused : ℕ → List ℕ
secret_refused len = codes "bar: input refused: secret length " ++ (decimal len ++ codes "\n")

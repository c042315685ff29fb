-- The meaning of a table file, and the verdicts on evidence and on a proof file.
use Rattle.std.specs.Prelude.{◌≡◌, ◌<◌, ℕ, List, ◌++◌, codes, slice_index, Result, Ok, Err}
use Rattle.std.specs.Option.{ok_or}
use Rattle.bar_terms.specs.Table.{Table, Lists, digests_of}
use Rattle.bar_session.specs.SessionData.{SessionData}
use Rattle.bar_rules.specs.Judge.Verdict.{Verdict, Shown, NotShown}
use Rattle.bar_rules.specs.Judge.Verdict as rules
use Rattle.bar_judge.specs.declared.table_fault.TableFault.{TableFault}
use Rattle.bar_judge.specs.declared.table_fault.TableFault.TheVariants.{BadEntry, NoMemory}
use Rattle.bar_judge.specs.TableFile.{table_of}
use Rattle.bar_judge.specs.Texts.{verdict_text}
use Rattle.bar_proof.specs.ProofFile.{evidence_of, proof_verdict}
use Rattle.bar_proof.specs.declared.proof_fault.ProofFault.{ProofFault}

-- each of these numbers is a byte, as in a file
abbrev pub AreBytes : List ℕ → Type 0
AreBytes bytes = (i : ℕ) → slice_index bytes i < 256

-- the place of a bad entry; in the specification a table file never gives `NoMemory`
abbrev pub place_of : TableFault → ℕ
place_of (BadEntry at) = at
place_of NoMemory = 0

abbrev pub or_place : Result Lists TableFault → Result Lists ℕ
or_place (Ok lists) = Ok lists
or_place (Err fault) = Err (place_of fault)

-- the lists of a table file under a session, or the place of its first bad entry
unfoldable pub lists_of : SessionData → List ℕ → Result Lists ℕ
lists_of s bytes = or_place (table_of s bytes)

-- the bytes are a table file, and this is the table of its lists
abbrev pub IsTableOf : SessionData → List ℕ → Table → Type 0
IsTableOf s bytes table = (lists : Lists) × (lists_of s bytes ≡ Ok lists) × (table ≡ digests_of lists)

-- the datagrams of an evidence file, if the bytes are one
abbrev pub datagrams_in : List ℕ → Result (List (List ℕ)) (Unit {0})
datagrams_in bytes = ok_or (evidence_of bytes) tt

-- the verdict of the rules on these datagrams under a table of these lists
unfoldable pub verdict_of : SessionData → Lists → List (List ℕ) → Verdict
verdict_of s lists datagrams = rules.verdict s (digests_of lists) datagrams

-- the verdict of the rules on a proof file's evidence under the table of its own manifests, or the file's first fault
unfoldable pub verdict_of_proof : SessionData → List ℕ → Result Verdict ProofFault
verdict_of_proof s bytes = proof_verdict s bytes

-- the line that is printed for a verdict
abbrev pub verdict_line : Verdict → List ℕ
verdict_line verdict = verdict_text verdict ++ codes "\n"

-- 0 if a fault is shown, 1 if none is
abbrev pub status_of_verdict : Verdict → ℕ
status_of_verdict (Shown party fault) = 0
status_of_verdict (NotShown why) = 1

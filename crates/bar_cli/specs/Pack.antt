-- The plan of the command `pack`, and what holds after it.
use Rattle.std.specs.Prelude.{◌≡◌, ◌≢◌, ◌⊎◌, ℕ, List, [], ◌∷◌, ◌++◌, codes, length, Some, Ok, Err, take}
use Rattle.std.specs.Fmt.{decimal}
use Rattle.bar_outside.specs.Disk.{Content, Failure, readable}
use Rattle.bar_outside.specs.declared.files.CallKind.TheVariants.{Read, Create, Append}
use Rattle.bar_outside.specs.Plan.{Action, Outside, Plan}
use Rattle.bar_outside.specs.Plan.Action.{create, append, show}
use Rattle.bar_outside.specs.Ends.{SameFiles, NothingPrinted}
use Rattle.bar_outside.specs.Stages.{Stages, accepts, plan_by, refuses}
use Rattle.bar_outside.specs.Stages.Stages.{does, reads}
use Rattle.bar_terms.specs.Table.{Lists}
use Rattle.bar_session.specs.SessionData.{SessionData}
use Rattle.bar_rules.specs.Judge.Verdict.{Fault, Why, Verdict, Shown, NotShown}
use Rattle.bar_proof.specs.Packing.{IsPacked, IsSpelled, packed_bytes}
use Rattle.bar_session_files.specs.Accepting.{HasSession, session_stage}
use Rattle.bar_cli.specs.Judge.Judging.{AreBytes, datagrams_in, lists_of, status_of_verdict, verdict_of, verdict_line}
use Rattle.bar_cli.specs.Refusals.{table_refused, evidence_refused}

-- the files of `pack`: three that it reads, and the proof file
pub record PackFiles : Type 0 where
  pub session : List ℕ
  pub table : List ℕ
  pub evidence : List ℕ
  pub proof : List ℕ

-- the line with a proof file's length
abbrev pub packed_line : List ℕ → List ℕ
packed_line file = codes "packed " ++ (decimal (length file) ++ codes " bytes\n")

-- the proof file is created and written, and its length is printed
abbrev pub packing_actions : List ℕ → List ℕ → List Action
packing_actions proof file = create proof ∷ append proof file ∷ show (packed_line file) ∷ []

-- ---- its stages

-- this is done if a fault is shown; otherwise the reason is printed
abbrev pub verdict_actions : PackFiles → List ℕ → Verdict → List Action
verdict_actions names file (Shown party fault) = packing_actions names.proof file
verdict_actions names file (NotShown why) = show (verdict_line (NotShown why)) ∷ []

abbrev pub packing_end : PackFiles → List ℕ → Verdict → Plan
packing_end names file verdict = record { actions = verdict_actions names file verdict; status = status_of_verdict verdict; line = [] }

-- the evidence is accepted and judged, or refused
abbrev pub evidence_stages : PackFiles → SessionData → List ℕ → List ℕ → Lists → Stages
evidence_stages names session table evidence lists =
    accepts (datagrams_in evidence)
    (λ datagrams. does (packing_end names (packed_bytes session lists table datagrams) (verdict_of session lists datagrams)))
    (λ _. refuses 8 evidence_refused)

-- before that the table is accepted or refused
abbrev pub inputs_stages : PackFiles → SessionData → List ℕ → List ℕ → Stages
inputs_stages names session table evidence =
    accepts (lists_of session table) (evidence_stages names session table evidence) (λ at. refuses 8 (table_refused at))

-- before that both are read
abbrev pub reading_stages : PackFiles → SessionData → Stages
reading_stages names session = reads names.table (λ table. reads names.evidence (inputs_stages names session table))

-- before both the session is read
abbrev pub pack_stages : PackFiles → Stages
pack_stages names = session_stage names.session (reading_stages names)

abbrev pub pack_plan : PackFiles → Content → Plan
pack_plan names = plan_by (pack_stages names)

-- ---- what was accepted, and what was refused

-- the session's text exists and is accepted, and the table and the evidence exist
pub record HasInputs (names : PackFiles) (content : Content) : Type 0 where
  pub session : SessionData
  pub in_session : HasSession names.session content session
  pub table : List ℕ
  pub table_read : readable content names.table ≡ Some table
  pub evidence : List ℕ
  pub evidence_read : readable content names.evidence ≡ Some evidence

-- the table is accepted, and has these lists
pub record HasTable (names : PackFiles) (content : Content) : Type 0 where
  pub inputs : HasInputs names content
  pub lists : Lists
  pub is : lists_of inputs.session inputs.table ≡ Ok lists

-- the evidence is accepted, too, and has these datagrams
pub record PackAccepted (names : PackFiles) (content : Content) : Type 0 where
  pub by_table : HasTable names content
  pub datagrams : List (List ℕ)
  pub is : datagrams_in by_table.inputs.evidence ≡ Ok datagrams

-- the table is refused at this place
pub record HasBadTable (names : PackFiles) (content : Content) (at : ℕ) : Type 0 where
  pub inputs : HasInputs names content
  pub is : lists_of inputs.session inputs.table ≡ Err at

-- the table is accepted, and the evidence is refused
pub record HasBadEvidence (names : PackFiles) (content : Content) : Type 0 where
  pub by_table : HasTable names content
  pub is : datagrams_in by_table.inputs.evidence ≡ Err tt

-- the verdict of the rules on the accepted files
abbrev pub verdict_in : (names : PackFiles) (content : Content) → PackAccepted names content → Verdict
verdict_in names content a = verdict_of a.by_table.inputs.session a.by_table.lists a.datagrams

-- the proof file that is packed from them
abbrev pub file_in : (names : PackFiles) (content : Content) → PackAccepted names content → List ℕ
file_in names content a = packed_bytes a.by_table.inputs.session a.by_table.lists a.by_table.inputs.table a.datagrams

-- everything was accepted, and the rules show this fault of this party
pub record HasShownOne (names : PackFiles) (content : Content) : Type 0 where
  pub accepted : PackAccepted names content
  pub party : ℕ
  pub fault : Fault
  pub shown : verdict_in names content accepted ≡ Shown party fault

-- the proof file that is packed for it
abbrev pub file_of : (names : PackFiles) (content : Content) → HasShownOne names content → List ℕ
file_of names content one = file_in names content one.accepted

-- A fault is shown, the proof file contains exactly what is packed, its length was printed, and no other file was changed. The evidence is
-- packed with the one manifest of the table that it needs, or with none. The proof file is judged to show the same fault of the same party,
-- also under every table that extends its own.
pub record Packed (names : PackFiles) (old new : Outside) : Type 0 where
  pub one : HasShownOne names old.files.content
  pub packed : IsPacked one.accepted.by_table.inputs.session one.accepted.by_table.inputs.table one.accepted.by_table.inputs.evidence
      (file_of names old.files.content one)
  -- the table file is the encoding of its manifests, without any other byte
  pub spelled : AreBytes one.accepted.by_table.inputs.table →
      IsSpelled one.accepted.by_table.inputs.session one.accepted.by_table.inputs.table
  pub party_is : packed.party ≡ one.party
  pub fault_is : packed.fault ≡ one.fault
  pub written : new.files.content names.proof ≡ Some (file_of names old.files.content one)
  pub printed : new.out.bytes ≡ old.out.bytes ++ packed_line (file_of names old.files.content one)
  pub others : (path : List ℕ) → path ≢ names.proof → new.files.content path ≡ old.files.content path

-- everything was accepted, the rules show no fault for this reason, its line was printed, and nothing else was done
pub record NotPacked (names : PackFiles) (old new : Outside) : Type 0 where
  pub accepted : PackAccepted names old.files.content
  pub why : Why
  pub is : verdict_in names old.files.content accepted ≡ NotShown why
  pub printed : new.out.bytes ≡ old.out.bytes ++ verdict_line (NotShown why)
  pub files : SameFiles old new

-- everything was accepted, the rules show no fault for this reason, a prefix of its line was printed, and nothing else was done
pub record NotPackedFront (names : PackFiles) (old new : Outside) : Type 0 where
  pub accepted : PackAccepted names old.files.content
  pub why : Why
  pub is : verdict_in names old.files.content accepted ≡ NotShown why
  pub printed : (k : ℕ) × (new.out.bytes ≡ old.out.bytes ++ take k (verdict_line (NotShown why)))
  pub files : SameFiles old new

-- a fault is shown, the proof file contains exactly what is packed, and a prefix of its line was printed
pub record ProofWritten (names : PackFiles) (old new : Outside) : Type 0 where
  pub one : HasShownOne names old.files.content
  pub printed_count : ℕ
  pub written : new.files.content names.proof ≡ Some (file_of names old.files.content one)
  pub printed : new.out.bytes ≡ old.out.bytes ++ take printed_count (packed_line (file_of names old.files.content one))

-- a fault is shown, the proof file contains a prefix of what is packed, and once it was complete a prefix of its line was printed
pub record ProofBegun (names : PackFiles) (old new : Outside) : Type 0 where
  pub one : HasShownOne names old.files.content
  pub written_count : ℕ
  pub printed_count : ℕ
  pub written : new.files.content names.proof ≡ Some (take written_count (file_of names old.files.content one))
  pub printed : new.out.bytes ≡ old.out.bytes ++ take printed_count (packed_line (file_of names old.files.content one))
  pub order : (printed_count ≡ 0) ⊎ (new.files.content names.proof ≡ Some (file_of names old.files.content one))

-- a call that `pack` makes: it reads its three files, and creates and writes the proof file
abbrev pub IsPackCall : PackFiles → Failure → Type 0
IsPackCall names call =
    (call ≡ record { kind = Read; path = names.session })
    ⊎ ((call ≡ record { kind = Read; path = names.table })
    ⊎ ((call ≡ record { kind = Read; path = names.evidence })
    ⊎ ((call ≡ record { kind = Create; path = names.proof }) ⊎ (call ≡ record { kind = Append; path = names.proof }))))

-- nothing was changed or printed, or only a prefix of the reason was printed, or the proof file was begun
abbrev pub PackFront : PackFiles → Outside → Outside → Type 0
PackFront names old new = (SameFiles old new × NothingPrinted old new) ⊎ (NotPackedFront names old new ⊎ ProofBegun names old new)

-- Properties of `pack` at every status. At 0 the proof was packed, and at 1 only the reason was printed why no fault is shown. No file is
-- changed except the proof file, and that only if a fault is shown.
pub record PackStands (names : PackFiles) (old new : Outside) (status : ℕ) : Type 0 where
  pub packed : status ≡ 0 → Packed names old new
  pub not_packed : status ≡ 1 → NotPacked names old new
  pub front : PackFront names old new
  pub others : (path : List ℕ) → path ≢ names.proof → new.files.content path ≡ old.files.content path

-- The plan of the command `audit`.
use Rattle.std.specs.Prelude.{◌≡◌, ◌⊎◌, ℕ, suc, ◌-◌, ◌&&◌, Bool, List, [], ◌∷◌, ◌++◌, Option, Result, Ok, Err, codes, map, nat_le}
use Rattle.std.specs.Bool.{then_some}
use Rattle.std.specs.List.{AllByRecursion, range_with_len}
use Rattle.std.specs.Option.{ok_or}
use Rattle.bar_outside.specs.Disk.{Content, Failure}
use Rattle.bar_outside.specs.declared.files.CallKind.TheVariants.{Read}
use Rattle.bar_outside.specs.declared.fault.Fault.{Fault}
use Rattle.bar_outside.specs.Ends.{EndsWith}
use Rattle.bar_outside.specs.Code.Faults.{code_of_fault, line_of_fault}
use Rattle.bar_outside.specs.Plan.{Outside, Plan}
use Rattle.bar_outside.specs.Plan.Action.{show}
use Rattle.bar_outside.specs.Stages.{Stages, IsAccepted, IsRefused, accepts, plan_by, refuses, stage}
use Rattle.bar_outside.specs.Stages.Stages.{does}
use Rattle.bar_window.specs.declared.exchange.Exchange.{Exchange}
use Rattle.bar_wire.specs.Inputs.{Input}
use Rattle.bar_record.specs.Recording as entries
use Rattle.bar_record.specs.declared.fault.RecordFault.{RecordFault}
use Rattle.bar_session.specs.SessionData.{SessionData}
use Rattle.bar_session.specs.Time.{last_tick}
use Rattle.bar_audit.specs.declared.audit.Audit.{Audit}
use Rattle.bar_audit.specs.Audits.{Audits}
use Rattle.bar_audit.specs.Exchanges.{unbalanced}
use Rattle.bar_audit.specs.Listed.{recorded}
use Rattle.bar_audit.specs.Recordings.{Recording}
use Rattle.bar_child_processes.specs.Words.{named}
use Rattle.bar_session_files.specs.Accepting.{HasSession, session_stage}
use Rattle.bar_cli.specs.Audit.Text.{status_of_balance, text_for}
use Rattle.bar_cli.specs.Refusals.{parties_refused, recording_refused}

-- the session's text, the prefix of the recordings' names, and the first and the last party whose recordings are read
pub record AuditFiles : Type 0 where
  pub session : List ℕ
  pub results : List ℕ
  pub first : ℕ
  pub last : ℕ

-- ---- what is read

-- the name of a party's recording
abbrev pub recording_name : List ℕ → ℕ → List ℕ
recording_name results party = named results party ++ codes ".recording"

-- the inputs of this party's recording that the bytes encode under a session, as they are listed there, or its first fault
unfoldable pub inputs_listed : SessionData → ℕ → List ℕ → Result (List Input) RecordFault
inputs_listed s party bytes = entries.recording_of s.shape.id party (last_tick s) bytes

-- whether the parties are peers of a session with this many peers, and the first doesn't exceed the last
abbrev pub is_range : AuditFiles → ℕ → Bool
is_range names peers = nat_le 1 names.first && nat_le names.first names.last && nat_le names.last peers

-- the parties from the first to the last
unfoldable pub all_parties : AuditFiles → List ℕ
all_parties names = range_with_len names.first (suc (names.last - names.first))

-- the parties whose recordings are read, in order, if they are in range
abbrev pub parties_of : AuditFiles → SessionData → Result (List ℕ) (Unit {0})
parties_of names s = ok_or (then_some (is_range names s.shape.peers) (all_parties names)) tt

-- ---- the report

-- the first recorded exchange that isn't balanced
unfoldable pub balance_of : SessionData → List Recording → Option Exchange
balance_of s recordings = unbalanced s recordings (recorded s recordings)

-- a line for each recorded exchange, in order, and then the balance
unfoldable pub audit_text : SessionData → List Recording → List ℕ
audit_text s recordings = text_for s recordings (recorded s recordings)

-- ---- its stages

abbrev pub telling_end : SessionData → List Recording → Plan
telling_end s recordings = record {
  actions = show (audit_text s recordings) ∷ [];
  status = status_of_balance (balance_of s recordings);
  line = [];
}

abbrev pub telling_plan : SessionData → List Recording → Content → Plan
telling_plan s recordings = plan_by (does (telling_end s recordings))

-- after some accepted recordings, the recording of each of these parties is read, and accepted or refused before the next is read
abbrev pub recordings_stages : List ℕ → SessionData → List ℕ → List Recording → Stages
recordings_stages results s [] given = does (telling_end s given)
recordings_stages results s (party ∷ parties) given =
    stage (recording_name results party) (inputs_listed s party) 8 recording_refused
    (λ inputs. recordings_stages results s parties (given ++ (record { party = party; inputs = inputs }) ∷ []))

-- before any recording is read, the parties are accepted or refused
abbrev pub parties_stages : AuditFiles → SessionData → Stages
parties_stages names s =
    accepts (parties_of names s) (λ parties. recordings_stages names.results s parties []) (λ _. refuses 8 parties_refused)

-- before that the session is read
abbrev pub audit_stages : AuditFiles → Stages
audit_stages names = session_stage names.session (parties_stages names)

abbrev pub audit_plan : AuditFiles → Content → Plan
audit_plan names = plan_by (audit_stages names)

-- the plan of all recordings
abbrev pub all_plan : AuditFiles → SessionData → Content → Plan
all_plan names s = plan_by (recordings_stages names.results s (all_parties names) [])

-- ---- how far the recordings were read

-- if a command ends by the rest of a plan from here, it ends by the whole plan from there
abbrev pub Leaves : (Content → Plan) → (Content → Plan) → Outside → Outside → Type 0
Leaves whole rest old now =
    (new : Outside) (status : ℕ) (line : List ℕ) → EndsWith rest now new status line → EndsWith whole old new status line

-- All recordings were accepted and given to an auditor, whose report is to be printed; or one was refused, or the outside failed.
abbrev pub ReadsRecordings : AuditFiles → SessionData → Result (Result Audit RecordFault) Fault → Outside → Outside → Type 0
ReadsRecordings names s (Ok (Ok audit)) old new =
    (recordings : List Recording) × Audits s recordings audit
    × Leaves (all_plan names s) (telling_plan s recordings) old new
ReadsRecordings names s (Ok (Err fault)) old new =
    EndsWith (all_plan names s) old new 8 (recording_refused fault)
ReadsRecordings names s (Err fault) old new =
    EndsWith (all_plan names s) old new (code_of_fault fault) (line_of_fault fault)

-- ---- what was accepted, and what was refused

-- the recording of its party exists, is accepted, and lists these inputs
abbrev pub HasRecording : List ℕ → Content → SessionData → Recording → Type 0
HasRecording results content s r = IsAccepted (recording_name results r.party) (inputs_listed s r.party) content r.inputs

-- the same for the recordings of these parties, in order
pub record HasRecordings (results : List ℕ) (content : Content) (s : SessionData) (parties : List ℕ) (recordings : List Recording) : Type 0
  where
    pub order : map (λ (r : Recording). r.party) recordings ≡ parties
    pub each : AllByRecursion (HasRecording results content s) recordings

-- the session is accepted, and these parties are peers of it
pub record HasParties (names : AuditFiles) (content : Content) (s : SessionData) (parties : List ℕ) : Type 0 where
  pub in_session : HasSession names.session content s
  pub are : parties_of names s ≡ Ok parties

-- all recordings are accepted, too
pub record AuditAccepted (names : AuditFiles) (content : Content) : Type 0 where
  pub session : SessionData
  pub parties : List ℕ
  pub recordings : List Recording
  pub by_parties : HasParties names content session parties
  pub has : HasRecordings names.results content session parties recordings

-- the session is accepted, and the parties aren't peers of it, or the first exceeds the last
pub record HasBadParties (names : AuditFiles) (content : Content) : Type 0 where
  pub session : SessionData
  pub in_session : HasSession names.session content session
  pub is : parties_of names session ≡ Err tt

-- the parties are accepted, and so are the recordings of the parties before this one
pub record IsNextParty (names : AuditFiles) (content : Content) (s : SessionData) (party : ℕ) : Type 0 where
  pub parties : List ℕ
  pub by_parties : HasParties names content s parties
  pub before : List ℕ
  pub after : List ℕ
  pub order : parties ≡ before ++ party ∷ after
  pub recordings : List Recording
  pub has : HasRecordings names.results content s before recordings

-- this is the next party, and its recording exists and is refused with this fault
pub record HasBadRecording (names : AuditFiles) (content : Content) (fault : RecordFault) : Type 0 where
  pub session : SessionData
  pub party : ℕ
  pub next : IsNextParty names content session party
  pub in_recording : IsRefused (recording_name names.results party) (inputs_listed session party) content fault

-- a call that `audit` makes: it only reads its files
abbrev pub IsAuditCall : AuditFiles → Failure → Type 0
IsAuditCall names call =
    (call ≡ record { kind = Read; path = names.session })
    ⊎ ((party : ℕ) × (call ≡ record { kind = Read; path = recording_name names.results party }))

-- The plan of the command `judge`.
use Rattle.std.specs.Prelude.{◌≡◌, ◌⊎◌, ℕ, List, [], ◌∷◌, ◌++◌, take}
use Rattle.bar_outside.specs.Disk.{Content, Failure}
use Rattle.bar_outside.specs.declared.files.CallKind.TheVariants.{Read}
use Rattle.bar_outside.specs.Plan.{Outside, Plan}
use Rattle.bar_outside.specs.Plan.Action.{show}
use Rattle.bar_outside.specs.Ends.{SameFiles}
use Rattle.bar_outside.specs.Stages.{Stages, IsAccepted, IsRefused, plan_by, stage}
use Rattle.bar_outside.specs.Stages.Stages.{does}
use Rattle.bar_terms.specs.Table.{Lists}
use Rattle.bar_session.specs.SessionData.{SessionData}
use Rattle.bar_rules.specs.Judge.Verdict.{Verdict}
use Rattle.bar_cli.specs.Judge.Judging.{datagrams_in, lists_of, verdict_of, verdict_line, status_of_verdict}
use Rattle.bar_cli.specs.Refusals.{table_refused, evidence_refused}
use Rattle.bar_session_files.specs.Accepting.{HasSession, session_stage}

-- the files of a judge
pub record JudgeFiles : Type 0 where
  pub session : List ℕ
  pub table : List ℕ
  pub evidence : List ℕ

-- ---- its stages

-- the line of the verdict is printed
abbrev pub saying_end : Verdict → Plan
saying_end verdict = record { actions = show (verdict_line verdict) ∷ []; status = status_of_verdict verdict; line = [] }

abbrev pub saying : Verdict → Stages
saying verdict = does (saying_end verdict)

abbrev pub saying_plan : Verdict → Content → Plan
saying_plan verdict = plan_by (saying verdict)

-- the evidence is read, and judged if it is accepted
abbrev pub evidence_stages : JudgeFiles → SessionData → Lists → Stages
evidence_stages names session lists =
    stage names.evidence datagrams_in 8 (λ _. evidence_refused) (λ datagrams. saying (verdict_of session lists datagrams))

-- before that the table is read
abbrev pub table_stages : JudgeFiles → SessionData → Stages
table_stages names session = stage names.table (lists_of session) 8 table_refused (evidence_stages names session)

-- before both the session is read
abbrev pub judge_stages : JudgeFiles → Stages
judge_stages names = session_stage names.session (table_stages names)

abbrev pub judge_plan : JudgeFiles → Content → Plan
judge_plan names = plan_by (judge_stages names)

-- ---- what was accepted, and what was refused

-- the session and the table are accepted, and the table has these lists
pub record HasTable (names : JudgeFiles) (content : Content) (session : SessionData) (lists : Lists) : Type 0 where
  pub in_session : HasSession names.session content session
  pub in_table : IsAccepted names.table (lists_of session) content lists

-- the evidence is accepted, too, and has these datagrams
pub record JudgeAccepted (names : JudgeFiles) (content : Content) : Type 0 where
  pub session : SessionData
  pub lists : Lists
  pub datagrams : List (List ℕ)
  pub by_table : HasTable names content session lists
  pub in_evidence : IsAccepted names.evidence datagrams_in content datagrams

-- the session is accepted, and the table exists and is refused at this place
pub record HasBadTable (names : JudgeFiles) (content : Content) (at : ℕ) : Type 0 where
  pub session : SessionData
  pub in_session : HasSession names.session content session
  pub in_table : IsRefused names.table (lists_of session) content at

-- both are accepted, and the evidence exists and is refused
pub record HasBadEvidence (names : JudgeFiles) (content : Content) : Type 0 where
  pub session : SessionData
  pub lists : Lists
  pub by_table : HasTable names content session lists
  pub in_evidence : IsRefused names.evidence datagrams_in content tt

-- the verdict of the rules on the accepted files
abbrev pub verdict_in : (names : JudgeFiles) (content : Content) → JudgeAccepted names content → Verdict
verdict_in names content accepted = verdict_of accepted.session accepted.lists accepted.datagrams

-- everything was accepted, this is the verdict of the rules, its line was printed, and nothing else was done
pub record Judged (names : JudgeFiles) (verdict : Verdict) (old new : Outside) : Type 0 where
  pub accepted : JudgeAccepted names old.files.content
  pub is : verdict_in names old.files.content accepted ≡ verdict
  pub printed : new.out.bytes ≡ old.out.bytes ++ verdict_line verdict
  pub files : SameFiles old new

-- this holds for the verdict that has this status
abbrev pub HasJudged : JudgeFiles → ℕ → Outside → Outside → Type 0
HasJudged names status old new = (verdict : Verdict) × (status ≡ status_of_verdict verdict) × Judged names verdict old new

-- everything was accepted, and a prefix of the verdict's line was printed
pub record JudgedFront (names : JudgeFiles) (old new : Outside) : Type 0 where
  pub accepted : JudgeAccepted names old.files.content
  pub printed : (k : ℕ) × (new.out.bytes ≡ old.out.bytes ++ take k (verdict_line (verdict_in names old.files.content accepted)))

-- a call that `judge` makes: it only reads its files
abbrev pub IsJudgeCall : JudgeFiles → Failure → Type 0
IsJudgeCall names call =
    (call ≡ record { kind = Read; path = names.session })
    ⊎ ((call ≡ record { kind = Read; path = names.table }) ⊎ (call ≡ record { kind = Read; path = names.evidence }))

-- The rows of the status table, derived from how `judge` ended.
use Rattle.std.proofs.Common.{◌≡◌, ◌⊎◌, ◌==◌, ℕ, List, false, IsTrue, refl, subst, inl, inr}
use Rattle.bar_outside.specs.Disk.{Content}
use Rattle.bar_outside.specs.Plan.{Outside, Plan, is_stop}
use Rattle.bar_outside.specs.Stages.{GoesInOrder}
use Rattle.bar_outside.proofs.StageRows.{IsWithin, Sorts, cause_at, sorts-last, sorts-stage, stage-within, unlinked-within}
use Rattle.bar_outside.proofs.Unlinked.{IsUnlinked}
use Rattle.bar_roster.specs.declared.fault.SessionFault.{SessionFault}
use Rattle.bar_rules.specs.Judge.Verdict.{Verdict, Fault, Why, Shown, NotShown}
use Rattle.bar_session_files.specs.Accepting.{HasBadSession, session_of}
use Rattle.bar_cli.specs.Judge.Judging.{datagrams_in, lists_of, verdict_of, verdict_line, status_of_verdict}
use Rattle.bar_cli.specs.Judge.Plan.{JudgeFiles, JudgeAccepted, HasBadTable, HasBadEvidence, HasJudged, IsJudgeCall, evidence_stages, judge_plan, judge_stages, saying, saying_end, table_stages, verdict_in}
use Rattle.bar_cli.specs.Refusals.{session_refused, table_refused, evidence_refused}
use Rattle.bar_cli.proofs.EndLemmas.{differ}
use Rattle.bar_cli.proofs.SayingRows.{SaysInOrder, says-in-order}

-- ---- the status of a verdict

pub says-on : (v : Verdict) → is_stop (status_of_verdict v) ≡ false
says-on (Shown party fault) = refl
says-on (NotShown why) = refl

is-shown : (v : Verdict) → 0 ≡ status_of_verdict v → (party : ℕ) × (fault : Fault) × (v ≡ Shown party fault)
is-shown (Shown party fault) e = (party, fault, refl)
is-shown (NotShown why) e = absurd (differ 0 1 refl e)

is-not_shown : (v : Verdict) → 1 ≡ status_of_verdict v → (why : Why) × (v ≡ NotShown why)
is-not_shown (Shown party fault) e = absurd (differ 1 0 refl e)
is-not_shown (NotShown why) e = (why, refl)

pub verdict-small : (v : Verdict) → (status_of_verdict v ≡ 0) ⊎ (status_of_verdict v ≡ 1)
verdict-small (Shown party fault) = inl refl
verdict-small (NotShown why) = inr refl

-- at 0 a fault is shown, at 1 none is

pub shown-so : (P : Verdict → Type 0) → (v : Verdict) × (0 ≡ status_of_verdict v) × P v → (party : ℕ) × (fault : Fault) × P (Shown party fault)
shown-so P j = let s = is-shown j.0 j.1 in (s.0, s.1, subst P s.2 j.2)

pub not_shown-so : (P : Verdict → Type 0) → (v : Verdict) × (1 ≡ status_of_verdict v) × P v → (why : Why) × P (NotShown why)
not_shown-so P j = let s = is-not_shown j.0 j.1 in (s.0, subst P s.1 j.2)

-- ---- its stages

pub within : (names : JudgeFiles) → IsWithin (IsJudgeCall names) (judge_stages names)
within names =
    stage-within (IsJudgeCall names) names.session session_of 4 session_refused (table_stages names) (inl refl)
    (λ s. stage-within (IsJudgeCall names) names.table (lists_of s) 8 table_refused (evidence_stages names s) (inr (inl refl))
    (λ lists. stage-within (IsJudgeCall names) names.evidence datagrams_in 8 (λ _. evidence_refused)
    (λ datagrams. saying (verdict_of s lists datagrams)) (inr (inr refl))
    (λ datagrams. record { unlinked = tt; calls = λ call h. absurd h })))

-- nothing is done over the link
pub unlinked-plan : (names : JudgeFiles) (content : Content) → IsUnlinked (judge_plan names content).actions
unlinked-plan names content = unlinked-within (IsJudgeCall names) (judge_stages names) content (within names)

module _ (names : JudgeFiles) (content : Content) where
  abbrev pub judge_end : JudgeAccepted names content → Plan
  judge_end a = saying_end (verdict_in names content a)

  -- the cause of a refusal, by the status
  abbrev pub Causes : ℕ → Type 0
  Causes status =
      cause_at (status == 4) ((fault : SessionFault) × HasBadSession names.session content fault)
      (cause_at (status == 8) (((at : ℕ) × HasBadTable names content at) ⊎ HasBadEvidence names content) ⊥)

  sorts : Sorts Causes judge_end content (judge_stages names)
  sorts =
      sorts-stage Causes judge_end content names.session session_of 4 session_refused (table_stages names) (λ fault bad. (fault, bad))
      (λ s has. sorts-stage Causes judge_end content names.table (lists_of s) 8 table_refused (evidence_stages names s)
      (λ at bad. inl (at, record { session = s; in_session = has; in_table = bad }))
      (λ lists has_table. sorts-stage Causes judge_end content names.evidence datagrams_in 8 (λ _. evidence_refused)
      (λ datagrams. saying (verdict_of s lists datagrams))
      (λ none bad. inr (record {
        session = s;
        lists = lists;
        by_table = record { in_session = has; in_table = has_table };
        in_evidence = bad;
      }))
      (λ datagrams has_evidence. sorts-last Causes judge_end content (record {
        session = s;
        lists = lists;
        datagrams = datagrams;
        by_table = record { in_session = has; in_table = has_table };
        in_evidence = has_evidence;
      }))))

-- ---- the rows

module _ (names : JudgeFiles) (old new : Outside) (status : ℕ) (told : IsTrue new.files.told)
    (order : GoesInOrder (judge_stages names) old new status) where
  abbrev content : Content
  content = old.files.content

  abbrev line : JudgeAccepted names content → List ℕ
  line a = verdict_line (verdict_in names content a)

  abbrev final : JudgeAccepted names content → ℕ
  final a = status_of_verdict (verdict_in names content a)

  pub judge-order : SaysInOrder (Causes names content) line final old new status
  judge-order =
      says-in-order (Causes names content) line final old new status (λ a. verdict-small (verdict_in names content a)) (λ why. why)
      (λ why. why) (judge_stages names) told (sorts names content) order.gone

  -- the verdict with this status was printed
  pub judged : (status ≡ 0) ⊎ (status ≡ 1) → HasJudged names status old new
  judged which =
      let a = judge-order.ended which in
      (verdict_in names content a.0, a.1, record { accepted = a.0; is = refl; printed = a.2; files = judge-order.files })

-- The rows of the status table, derived from how `verify` ended.
use Rattle.std.proofs.Common.{◌≡◌, ◌⊎◌, ◌==◌, ℕ, List, IsTrue, refl, inl, inr}
use Rattle.bar_outside.specs.Disk.{Content}
use Rattle.bar_outside.specs.Plan.{Outside, Plan}
use Rattle.bar_outside.specs.Stages.{GoesInOrder}
use Rattle.bar_outside.proofs.StageRows.{IsWithin, Sorts, cause_at, sorts-last, sorts-stage, stage-within, unlinked-within}
use Rattle.bar_outside.proofs.Unlinked.{IsUnlinked}
use Rattle.bar_roster.specs.declared.fault.SessionFault.{SessionFault}
use Rattle.bar_rules.specs.Judge.Verdict.{Verdict}
use Rattle.bar_proof.specs.declared.proof_fault.ProofFault.{ProofFault}
use Rattle.bar_proof.specs.Laws.{ProofsAreSpelled}
use Rattle.bar_session_files.specs.Accepting.{HasBadSession, session_of}
use Rattle.bar_cli.specs.Judge.Judging.{verdict_of_proof, verdict_line, status_of_verdict}
use Rattle.bar_cli.specs.Judge.Plan.{saying, saying_end}
use Rattle.bar_cli.specs.Verify.{VerifyFiles, VerifyAccepted, HasBadProof, HasVerified, IsVerifyCall, proof_stages, verify_plan, verify_stages}
use Rattle.bar_cli.specs.Refusals.{session_refused, proof_refused}
use Rattle.bar_cli.proofs.JudgeRows.{verdict-small}
use Rattle.bar_cli.proofs.SayingRows.{SaysInOrder, says-in-order}

-- ---- its stages

pub within : (names : VerifyFiles) → IsWithin (IsVerifyCall names) (verify_stages names)
within names =
    stage-within (IsVerifyCall names) names.session session_of 4 session_refused (proof_stages names) (inl refl)
    (λ s. stage-within (IsVerifyCall names) names.proof (verdict_of_proof s) 8 proof_refused saying (inr refl)
    (λ verdict. record { unlinked = tt; calls = λ call h. absurd h }))

-- nothing is done over the link
pub unlinked-plan : (names : VerifyFiles) (content : Content) → IsUnlinked (verify_plan names content).actions
unlinked-plan names content = unlinked-within (IsVerifyCall names) (verify_stages names) content (within names)

module _ (names : VerifyFiles) (content : Content) where
  -- the cause of a refusal, by the status
  abbrev pub Causes : ℕ → Type 0
  Causes status =
      cause_at (status == 4) ((fault : SessionFault) × HasBadSession names.session content fault)
      (cause_at (status == 8) ((fault : ProofFault) × HasBadProof names content fault) ⊥)

  -- both were accepted, with some verdict
  abbrev Accepted : Type 0
  Accepted = (verdict : Verdict) × VerifyAccepted names content verdict

  abbrev end_of : Accepted → Plan
  end_of a = saying_end a.0

  sorts : Sorts Causes end_of content (verify_stages names)
  sorts =
      sorts-stage Causes end_of content names.session session_of 4 session_refused (proof_stages names) (λ fault bad. (fault, bad))
      (λ s has. sorts-stage Causes end_of content names.proof (verdict_of_proof s) 8 proof_refused saying
      (λ fault bad. (fault, record { session = s; in_session = has; in_proof = bad }))
      (λ verdict in_proof. sorts-last Causes end_of content (verdict, record { session = s; in_session = has; in_proof = in_proof })))

-- ---- the rows

module _ (names : VerifyFiles) (old new : Outside) (status : ℕ) (told : IsTrue new.files.told)
    (order : GoesInOrder (verify_stages names) old new status) where
  abbrev content : Content
  content = old.files.content

  abbrev line : Accepted names content → List ℕ
  line a = verdict_line a.0

  abbrev final : Accepted names content → ℕ
  final a = status_of_verdict a.0

  pub verify-order : SaysInOrder (Causes names content) line final old new status
  verify-order =
      says-in-order (Causes names content) line final old new status (λ a. verdict-small a.0) (λ why. why) (λ why. why) (verify_stages names)
      told (sorts names content) order.gone

  -- the verdict with this status was printed
  pub verified : ProofsAreSpelled → (status ≡ 0) ⊎ (status ≡ 1) → HasVerified names status old new
  verified spells which =
      let a = verify-order.ended which in
      let accepted = a.0.1 in (
        a.0.0,
        a.1,
        record {
          accepted = accepted;
          spelled = λ bytes proof is. spells accepted.session accepted.in_proof.bytes proof bytes is;
          printed = a.2;
          files = verify-order.files;
        },
      )

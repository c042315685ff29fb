-- The plan of the command `verify`, and what holds after it.
use Rattle.std.specs.Prelude.{◌≡◌, ◌⊎◌, ℕ, List, ◌++◌, take}
use Rattle.bar_outside.specs.Disk.{Content, Failure}
use Rattle.bar_outside.specs.declared.files.CallKind.TheVariants.{Read}
use Rattle.bar_outside.specs.Plan.{Outside, Plan}
use Rattle.bar_outside.specs.Ends.{SameFiles}
use Rattle.bar_outside.specs.Stages.{Stages, IsAccepted, IsRefused, plan_by, stage}
use Rattle.bar_session.specs.SessionData.{SessionData}
use Rattle.bar_rules.specs.Judge.Verdict.{Verdict}
use Rattle.bar_proof.specs.declared.proof_fault.ProofFault.{ProofFault}
use Rattle.bar_proof.specs.Laws.{IsProofSpelled}
use Rattle.bar_session_files.specs.Accepting.{HasSession, session_stage}
use Rattle.bar_cli.specs.Judge.Judging.{AreBytes, verdict_of_proof, verdict_line, status_of_verdict}
use Rattle.bar_cli.specs.Judge.Plan.{saying}
use Rattle.bar_cli.specs.Refusals.{proof_refused}

-- the files of `verify`
pub record VerifyFiles : Type 0 where
  pub session : List ℕ
  pub proof : List ℕ

-- the proof file is read, and judged if it is accepted
abbrev pub proof_stages : VerifyFiles → SessionData → Stages
proof_stages names session = stage names.proof (verdict_of_proof session) 8 proof_refused saying

-- before that the session is read
abbrev pub verify_stages : VerifyFiles → Stages
verify_stages names = session_stage names.session (proof_stages names)

abbrev pub verify_plan : VerifyFiles → Content → Plan
verify_plan names = plan_by (verify_stages names)

-- the session and the proof file are accepted, and this is the verdict of the rules under the proof file's own table
pub record VerifyAccepted (names : VerifyFiles) (content : Content) (verdict : Verdict) : Type 0 where
  pub session : SessionData
  pub in_session : HasSession names.session content session
  pub in_proof : IsAccepted names.proof (verdict_of_proof session) content verdict

-- the session is accepted, and the proof file exists and is refused with this fault
pub record HasBadProof (names : VerifyFiles) (content : Content) (fault : ProofFault) : Type 0 where
  pub session : SessionData
  pub in_session : HasSession names.session content session
  pub in_proof : IsRefused names.proof (verdict_of_proof session) content fault

-- both were accepted, this is the verdict of the rules, its line was printed, and nothing else was done
pub record Verified (names : VerifyFiles) (verdict : Verdict) (old new : Outside) : Type 0 where
  pub accepted : VerifyAccepted names old.files.content verdict
  -- the proof file is the encoding of its manifests and its evidence, without any other byte
  pub spelled : AreBytes accepted.in_proof.bytes → IsProofSpelled accepted.session accepted.in_proof.bytes
  pub printed : new.out.bytes ≡ old.out.bytes ++ verdict_line verdict
  pub files : SameFiles old new

-- this holds for the verdict that has this status
abbrev pub HasVerified : VerifyFiles → ℕ → Outside → Outside → Type 0
HasVerified names status old new = (verdict : Verdict) × (status ≡ status_of_verdict verdict) × Verified names verdict old new

-- both were accepted, and a prefix of the verdict's line was printed
pub record VerifiedFront (names : VerifyFiles) (old new : Outside) : Type 0 where
  pub verdict : Verdict
  pub accepted : VerifyAccepted names old.files.content verdict
  pub printed : (k : ℕ) × (new.out.bytes ≡ old.out.bytes ++ take k (verdict_line verdict))

-- a call that `verify` makes: it only reads its files
abbrev pub IsVerifyCall : VerifyFiles → Failure → Type 0
IsVerifyCall names call = (call ≡ record { kind = Read; path = names.session }) ⊎ (call ≡ record { kind = Read; path = names.proof })

-- properties of `verify` at every status: at 0 and 1 the line of the rules' verdict was printed, with a fault at 0 and none at 1, and no
-- file was changed
pub record VerifyStands (names : VerifyFiles) (old new : Outside) (status : ℕ) : Type 0 where
  pub said : (status ≡ 0) ⊎ (status ≡ 1) → HasVerified names status old new
  pub files : SameFiles old new

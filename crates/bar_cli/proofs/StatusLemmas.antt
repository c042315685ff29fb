-- The statuses of each command.
use Rattle.std.proofs.Common.{◌≡◌, ◌≢◌, ◌⊎◌, ◌==◌, ◌||◌, ℕ, Bool, true, false, List, [], Option, None, Some, Result, Ok, Err, IfOk, IsTrue, refl, sym, ap, ◌∙◌, subst, inl, inr, arith, true≢false}
use Rattle.std.proofs.lemmas.Bool.{eqb-true}
use Rattle.bar_outside.specs.Code.Causes.{Rose}
use Rattle.bar_outside.specs.Disk.{Content}
use Rattle.bar_outside.specs.Stream.{Stream}
use Rattle.bar_outside.specs.Wire.{no_traffic}
use Rattle.bar_outside.specs.Plan.{Outside, with_out, Action, Plan}
use Rattle.bar_outside.specs.Code.Faults.{code_of_fault}
use Rattle.bar_outside.specs.Code.Follows.{Follows}
use Rattle.bar_outside.specs.Ends.{EndsWith}
use Rattle.bar_outside.specs.declared.fault.Fault.{Fault}
use Rattle.bar_outside.specs.declared.fault.Fault.TheVariants.{File, Link, Output, NoMemory as WantOfMemory}
use Rattle.bar_party_commands.specs.CasterPlan.{CasterNames}
use Rattle.bar_party_commands.specs.PeerPlan.{PeerNames}
use Rattle.bar_party_commands.specs.Code.Views.{code_of_run as live_code_of_run}
use Rattle.bar_party_commands.specs.declared.ended.Ended.{Ended}
use Rattle.bar_party_commands.specs.declared.ended.Ended.TheVariants as live
use Rattle.bar_cli.specs.Audit.Plan.{AuditFiles}
use Rattle.bar_cli.specs.Judge.Plan.{JudgeFiles}
use Rattle.bar_cli.specs.Line.{Line, peer, broadcaster, replay, keygen, audit, judge, session_run, simulate, is_status_of, may_print, usage, pack, verify}
use Rattle.bar_cli.specs.Printing.{audit_may_print, keygen_may_print, judge_may_print, replay_may_print}
use Rattle.bar_cli.specs.Status.{code_of, said_at, code_of_run, is_replay_end, is_keygen_end, is_audit_end, is_judge_end, is_proof_end}
use Rattle.bar_cli.specs.declared.status.Status.{Status}
use Rattle.bar_cli.specs.declared.status.Status.TheVariants.{Done, NoFault, Unbalanced, Usage, FileFailed, LinkFailed, SessionRefused, KeyRefused, OutputFailed, ChildFailed, RecordingRefused, PartiesRefused, StreamRefused, SecretRefused, TableRefused, EvidenceRefused, NoMemory, ProofRefused}
use Rattle.bar_rules.specs.Judge.Verdict.{Verdict, Shown, NotShown}
use Rattle.bar_cli.specs.Judge.Judging.{status_of_verdict}
use Rattle.bar_cli.specs.Pack.{PackFiles}
use Rattle.bar_cli.specs.Verify.{VerifyFiles}
use Rattle.bar_cli.specs.Replay.Plan.{ReplayFiles}
use Rattle.bar_cli.specs.Keygen.Plan.{Keygen}

-- an outside in which nothing failed
abbrev pub quiet : Outside
quiet = record {
  files = record { told = false; reliable = false; content = λ path. None; created_here = λ path. false; failed = None; faults = 0 };
  out = record { reliable = false; bytes = []; faults = 0 };
  wire = record { reliable = false; traffic = no_traffic; faults = 0 };
}

-- what holds over any files doesn't fail because of them
pub never-file : {T : Type 0} (plan : List Action) (old new : Stream) (r : Result T Fault) →
    ((w : Outside) → Follows plan (with_out w old) (with_out w new) r) → r ≡ Err File → ⊥
never-file plan old new r follows e = let h : Rose 0 0 = ((follows quiet).file (rw e refl)).rose in absurd (omega arith)

-- if the fault count of the link didn't rise, the fault isn't one of the link
pub never-link : {T : Type 0} (plan : List Action) (old new : Outside) (r : Result T Fault) → old.wire.faults ≡ 0 → new.wire.faults ≡ 0 →
    Follows plan old new r → r ≡ Err Link → ⊥
never-link plan old new r before after follows e = let h = follows.link (rw e refl) in absurd (omega arith)

-- in this case a command doesn't end with 6
pub never-six : (plan : Content → Plan) (old new : Outside) (status : ℕ) (line : List ℕ) → old.wire.faults ≡ 0 → new.wire.faults ≡ 0 →
    EndsWith plan old new status line → status ≡ 6 → ⊥
never-six plan old new status line before after ends e = let h = ends.ends.link_rose e in absurd (omega arith)

pub never-linked : (plan : Content → Plan) (old new : Outside) (ended : Result Status Fault) (line : List ℕ) → old.wire.faults ≡ 0 →
    new.wire.faults ≡ 0 → EndsWith plan old new (code_of_run ended) line → ended ≡ Err Link → ⊥
never-linked plan old new ended line before after ends e =
    never-six plan old new (code_of_run ended) line before after ends (ap code_of_run e)

-- a fault's status isn't that of a refusal
pub no-refusal : (fault : Fault) → code_of_fault fault ≢ 4
no-refusal File = λ e. absurd (omega arith)
no-refusal Link = λ e. absurd (omega arith)
no-refusal Output = λ e. absurd (omega arith)
no-refusal WantOfMemory = λ e. absurd (omega arith)

-- if `keygen` may not have printed anything, a fault is one of the files or of the link
pub unprinted-at : (fault : Fault) (P : Type 0) → (fault ≡ File → P) → (fault ≡ Link → P) →
    keygen_may_print (code_of_fault fault) ≡ false → P
unprinted-at File P h k e = h refl
unprinted-at Link P h k e = k refl
unprinted-at Output P h k e = absurd cc
unprinted-at WantOfMemory P h k e = absurd cc

-- if a replay may not have printed anything, a fault is one of the link
pub unshown-at : (fault : Fault) (P : Type 0) → (fault ≡ Link → P) → replay_may_print (code_of_fault fault) ≡ false → P
unshown-at File P h e = absurd cc
unshown-at Link P h e = h refl
unshown-at Output P h e = absurd cc
unshown-at WantOfMemory P h e = absurd cc

-- if `audit` may not have printed anything, a fault is one of the files or of the link
pub untold-at : (fault : Fault) (P : Type 0) → (fault ≡ File → P) → (fault ≡ Link → P) → audit_may_print (code_of_fault fault) ≡ false → P
untold-at File P h k e = h refl
untold-at Link P h k e = k refl
untold-at Output P h k e = absurd cc
untold-at WantOfMemory P h k e = absurd cc

-- if `judge` may not have printed anything, a fault is one of the files or of the link
pub unsaid-at : (fault : Fault) (P : Type 0) → (fault ≡ File → P) → (fault ≡ Link → P) → judge_may_print (code_of_fault fault) ≡ false → P
unsaid-at File P h k e = h refl
unsaid-at Link P h k e = k refl
unsaid-at Output P h k e = absurd cc
unsaid-at WantOfMemory P h k e = absurd cc

-- the statuses of a replay
pub replay-statuses : (names : ReplayFiles) (ended : Result Status Fault) → IfOk ended (λ status. IsTrue (is_replay_end status)) →
    (ended ≡ Err Link → ⊥) →
    IsTrue (is_status_of (Some (replay names)) (code_of_run ended))
replay-statuses names (Ok Done) h other = refl
replay-statuses names (Ok Usage) h other = absurd cc
replay-statuses names (Ok NoFault) h other = absurd cc
replay-statuses names (Ok Unbalanced) h other = absurd cc
replay-statuses names (Ok (TableRefused at)) h other = absurd cc
replay-statuses names (Ok EvidenceRefused) h other = absurd cc
replay-statuses names (Ok (ProofRefused fault)) h other = absurd cc
replay-statuses names (Ok FileFailed) h other = absurd cc
replay-statuses names (Ok LinkFailed) h other = absurd cc
replay-statuses names (Ok (SessionRefused fault)) h other = refl
replay-statuses names (Ok (KeyRefused fault)) h other = refl
replay-statuses names (Ok OutputFailed) h other = absurd cc
replay-statuses names (Ok (RecordingRefused fault)) h other = refl
replay-statuses names (Ok PartiesRefused) h other = absurd cc
replay-statuses names (Ok (StreamRefused have room)) h other = absurd cc
replay-statuses names (Ok (SecretRefused len)) h other = absurd cc
replay-statuses names (Ok ChildFailed) h other = absurd cc
replay-statuses names (Ok NoMemory) h other = absurd cc
replay-statuses names (Err File) h other = refl
replay-statuses names (Err Link) h other = absurd (other refl)
replay-statuses names (Err Output) h other = refl
replay-statuses names (Err WantOfMemory) h other = refl

-- the statuses of `keygen`
pub keygen-statuses : (asked : Keygen) (ended : Result Status Fault) → IfOk ended (λ status. IsTrue (is_keygen_end status)) →
    (ended ≡ Err Link → ⊥) →
    IsTrue (is_status_of (Some (keygen asked)) (code_of_run ended))
keygen-statuses asked (Ok Done) h other = refl
keygen-statuses asked (Ok Usage) h other = absurd cc
keygen-statuses asked (Ok NoFault) h other = absurd cc
keygen-statuses asked (Ok Unbalanced) h other = absurd cc
keygen-statuses asked (Ok (TableRefused at)) h other = absurd cc
keygen-statuses asked (Ok EvidenceRefused) h other = absurd cc
keygen-statuses asked (Ok (ProofRefused fault)) h other = absurd cc
keygen-statuses asked (Ok FileFailed) h other = absurd cc
keygen-statuses asked (Ok LinkFailed) h other = absurd cc
keygen-statuses asked (Ok (SessionRefused fault)) h other = refl
keygen-statuses asked (Ok (KeyRefused fault)) h other = absurd cc
keygen-statuses asked (Ok OutputFailed) h other = absurd cc
keygen-statuses asked (Ok (RecordingRefused fault)) h other = absurd cc
keygen-statuses asked (Ok PartiesRefused) h other = absurd cc
keygen-statuses asked (Ok (StreamRefused have room)) h other = absurd cc
keygen-statuses asked (Ok (SecretRefused len)) h other = refl
keygen-statuses asked (Ok ChildFailed) h other = absurd cc
keygen-statuses asked (Ok NoMemory) h other = absurd cc
keygen-statuses asked (Err File) h other = refl
keygen-statuses asked (Err Link) h other = absurd (other refl)
keygen-statuses asked (Err Output) h other = refl
keygen-statuses asked (Err WantOfMemory) h other = refl

-- the statuses of `audit`
pub audit-statuses : (names : AuditFiles) (ended : Result Status Fault) → IfOk ended (λ status. IsTrue (is_audit_end status)) →
    (ended ≡ Err Link → ⊥) →
    IsTrue (is_status_of (Some (audit names)) (code_of_run ended))
audit-statuses names (Ok Done) h other = refl
audit-statuses names (Ok NoFault) h other = absurd cc
audit-statuses names (Ok Unbalanced) h other = refl
audit-statuses names (Ok Usage) h other = absurd cc
audit-statuses names (Ok FileFailed) h other = absurd cc
audit-statuses names (Ok LinkFailed) h other = absurd cc
audit-statuses names (Ok (SessionRefused fault)) h other = refl
audit-statuses names (Ok (KeyRefused fault)) h other = absurd cc
audit-statuses names (Ok OutputFailed) h other = absurd cc
audit-statuses names (Ok (RecordingRefused fault)) h other = refl
audit-statuses names (Ok PartiesRefused) h other = refl
audit-statuses names (Ok (StreamRefused have room)) h other = absurd cc
audit-statuses names (Ok (SecretRefused len)) h other = absurd cc
audit-statuses names (Ok (TableRefused at)) h other = absurd cc
audit-statuses names (Ok EvidenceRefused) h other = absurd cc
audit-statuses names (Ok (ProofRefused fault)) h other = absurd cc
audit-statuses names (Ok ChildFailed) h other = absurd cc
audit-statuses names (Ok NoMemory) h other = absurd cc
audit-statuses names (Err File) h other = refl
audit-statuses names (Err Link) h other = absurd (other refl)
audit-statuses names (Err Output) h other = refl
audit-statuses names (Err WantOfMemory) h other = refl

-- the statuses of `judge`
pub judge-statuses : (names : JudgeFiles) (ended : Result Status Fault) → IfOk ended (λ status. IsTrue (is_judge_end status)) →
    (ended ≡ Err Link → ⊥) →
    IsTrue (is_status_of (Some (judge names)) (code_of_run ended))
judge-statuses names (Ok Done) h other = refl
judge-statuses names (Ok NoFault) h other = refl
judge-statuses names (Ok Unbalanced) h other = absurd cc
judge-statuses names (Ok Usage) h other = absurd cc
judge-statuses names (Ok FileFailed) h other = absurd cc
judge-statuses names (Ok LinkFailed) h other = absurd cc
judge-statuses names (Ok (SessionRefused fault)) h other = refl
judge-statuses names (Ok (KeyRefused fault)) h other = absurd cc
judge-statuses names (Ok OutputFailed) h other = absurd cc
judge-statuses names (Ok (RecordingRefused fault)) h other = absurd cc
judge-statuses names (Ok PartiesRefused) h other = absurd cc
judge-statuses names (Ok (StreamRefused have room)) h other = absurd cc
judge-statuses names (Ok (SecretRefused len)) h other = absurd cc
judge-statuses names (Ok (TableRefused at)) h other = refl
judge-statuses names (Ok EvidenceRefused) h other = refl
judge-statuses names (Ok (ProofRefused fault)) h other = absurd cc
judge-statuses names (Ok ChildFailed) h other = absurd cc
judge-statuses names (Ok NoMemory) h other = absurd cc
judge-statuses names (Err File) h other = refl
judge-statuses names (Err Link) h other = absurd (other refl)
judge-statuses names (Err Output) h other = refl
judge-statuses names (Err WantOfMemory) h other = refl

-- the statuses of `pack` and of `verify`

-- the statuses without a fault are among them
proof-status : (status : ℕ) → IsTrue (is_proof_end status) →
    IsTrue (status == 0 || status == 1 || status == 3 || status == 4 || status == 7 || status == 8 || status == 70)
proof-status status h = by_tests (status == 0) (status == 1) (status == 3) (status == 4) (status == 7) (status == 8) (status == 70) h
  where
    by_tests : (a b c d e f g : Bool) → IsTrue (a || b || d || f) → IsTrue (a || b || c || d || e || f || g)
    by_tests true b c d e f g h = refl
    by_tests false true c d e f g h = refl
    by_tests false false true d e f g h = refl
    by_tests false false false true e f g h = refl
    by_tests false false false false true f g h = refl
    by_tests false false false false false true g h = refl
    by_tests false false false false false false g h = absurd cc

pub pack-statuses : (names : PackFiles) (ended : Result Status Fault) → IfOk ended (λ status. IsTrue (is_proof_end (code_of status))) →
    (ended ≡ Err Link → ⊥) → IsTrue (is_status_of (Some (pack names)) (code_of_run ended))
pack-statuses names (Ok status) h other = proof-status (code_of status) h
pack-statuses names (Err File) h other = refl
pack-statuses names (Err Link) h other = absurd (other refl)
pack-statuses names (Err Output) h other = refl
pack-statuses names (Err WantOfMemory) h other = refl

pub verify-statuses : (names : VerifyFiles) (ended : Result Status Fault) → IfOk ended (λ status. IsTrue (is_proof_end (code_of status))) →
    (ended ≡ Err Link → ⊥) → IsTrue (is_status_of (Some (verify names)) (code_of_run ended))
verify-statuses names (Ok status) h other = proof-status (code_of status) h
verify-statuses names (Err File) h other = refl
verify-statuses names (Err Link) h other = absurd (other refl)
verify-statuses names (Err Output) h other = refl
verify-statuses names (Err WantOfMemory) h other = refl

-- the status of a command that printed a verdict
pub proof-end : (v : Verdict) (ended : Result Status Fault) → IfOk ended (λ status. code_of status ≡ status_of_verdict v) →
    IfOk ended (λ status. IsTrue (is_proof_end (code_of status)))
proof-end (Shown party fault) (Ok status) h = ap is_proof_end h
proof-end (NotShown why) (Ok status) h = ap is_proof_end h
proof-end v (Err fault) h = tt

-- the statuses of `simulate`
pub simulate-statuses : (seed : ℕ) (ended : Result Status Fault) → IfOk ended (λ status. status ≡ Done) → (ended ≡ Err File → ⊥) →
    (ended ≡ Err Link → ⊥) → IsTrue (is_status_of (Some (simulate seed)) (code_of_run ended))
simulate-statuses seed (Ok status) h file link = rw h refl
simulate-statuses seed (Err File) h file link = absurd (file refl)
simulate-statuses seed (Err Link) h file link = absurd (link refl)
simulate-statuses seed (Err Output) h file link = refl
simulate-statuses seed (Err WantOfMemory) h file link = refl

-- what holds for any outside doesn't end because of its files
pub never-filed : (plan : Content → Plan) (old new : Outside) (ended : Result Status Fault) (line : List ℕ) → old.files.faults ≡ 0 →
    new.files.faults ≡ 0 → EndsWith plan old new (code_of_run ended) line → ended ≡ Err File → ⊥
never-filed plan old new ended line before after ends e = let h = ends.ends.file_rose (ap code_of_run e) in absurd (omega arith)

-- the statuses of `peer`, which has no stream
pub peer-statuses : (names : PeerNames) (ended : Result Ended Fault) → live_code_of_run ended ≢ 8 →
    IsTrue (is_status_of (Some (peer names)) (live_code_of_run ended))
peer-statuses names (Ok live.Done) h = refl
peer-statuses names (Ok (live.SessionRefused fault)) h = refl
peer-statuses names (Ok (live.KeyRefused fault)) h = refl
peer-statuses names (Ok (live.StreamRefused have room)) h = absurd (h refl)
peer-statuses names (Err File) h = refl
peer-statuses names (Err Link) h = refl
peer-statuses names (Err Output) h = refl
peer-statuses names (Err WantOfMemory) h = refl

-- the statuses of `broadcaster`
pub broadcaster-statuses : (names : CasterNames) (ended : Result Ended Fault) →
    IsTrue (is_status_of (Some (broadcaster names)) (live_code_of_run ended))
broadcaster-statuses names (Ok live.Done) = refl
broadcaster-statuses names (Ok (live.SessionRefused fault)) = refl
broadcaster-statuses names (Ok (live.KeyRefused fault)) = refl
broadcaster-statuses names (Ok (live.StreamRefused have room)) = refl
broadcaster-statuses names (Err File) = refl
broadcaster-statuses names (Err Link) = refl
broadcaster-statuses names (Err Output) = refl
broadcaster-statuses names (Err WantOfMemory) = refl

-- memory may run out for any arguments
pub memory-status : (line : Option Line) → IsTrue (is_status_of line 70)
memory-status None = refl
memory-status (Some (peer names)) = refl
memory-status (Some (broadcaster names)) = refl
memory-status (Some (replay names)) = refl
memory-status (Some (keygen asked)) = refl
memory-status (Some (audit names)) = refl
memory-status (Some (judge names)) = refl
memory-status (Some (pack names)) = refl
memory-status (Some (verify names)) = refl
memory-status (Some (session_run names)) = refl
memory-status (Some (simulate seed)) = refl

-- running out of memory may replace any status
pub or-memory : (line : Option Line) (status result : ℕ) → IsTrue (is_status_of line status) → (result ≡ status) ⊎ (result ≡ 70) →
    IsTrue (is_status_of line result)
or-memory line status result h (inl e) = rw e h
or-memory line status result h (inr e) = rw e (memory-status line)

-- if the arguments aren't a valid command line, there are two statuses
pub no-line : (status : ℕ) → IsTrue (is_status_of None status) → (status ≡ 2) ⊎ (status ≡ 70)
no-line status h = by_test (status == 2) refl h
  where
    by_test : (b : Bool) → (status == 2) ≡ b → IsTrue (b || status == 70) → (status ≡ 2) ⊎ (status ≡ 70)
    by_test true e h = inl (eqb-true status 2 e)
    by_test false e h = inr (eqb-true status 70 h)

-- a command doesn't have the status for invalid arguments
pub no-usage : (line : Line) (status : ℕ) → IsTrue (is_status_of (Some line) status) → status ≡ 2 → ⊥
no-usage line status h e = at-two line (subst (λ n. IsTrue (is_status_of (Some line) n)) e h)
  where
    at-two : (line : Line) → IsTrue (is_status_of (Some line) 2) → ⊥
    at-two (peer names) h = cc
    at-two (broadcaster names) h = cc
    at-two (replay names) h = cc
    at-two (keygen asked) h = cc
    at-two (audit names) h = cc
    at-two (judge names) h = cc
    at-two (pack names) h = cc
    at-two (verify names) h = cc
    at-two (session_run names) h = cc
    at-two (simulate seed) h = cc

-- the status for invalid arguments has one line
pub said-at_two : (status : Status) → code_of status ≡ 2 → said_at status ≡ usage
said-at_two Done e = absurd (omega arith)
said-at_two NoFault e = absurd (omega arith)
said-at_two Unbalanced e = absurd (omega arith)
said-at_two Usage e = refl
said-at_two FileFailed e = absurd (omega arith)
said-at_two LinkFailed e = absurd (omega arith)
said-at_two (SessionRefused fault) e = absurd (omega arith)
said-at_two (KeyRefused fault) e = absurd (omega arith)
said-at_two OutputFailed e = absurd (omega arith)
said-at_two (RecordingRefused fault) e = absurd (omega arith)
said-at_two PartiesRefused e = absurd (omega arith)
said-at_two (StreamRefused have room) e = absurd (omega arith)
said-at_two (SecretRefused len) e = absurd (omega arith)
said-at_two (TableRefused at) e = absurd (omega arith)
said-at_two EvidenceRefused e = absurd (omega arith)
said-at_two (ProofRefused fault) e = absurd (omega arith)
said-at_two ChildFailed e = absurd (omega arith)
said-at_two NoMemory e = absurd (omega arith)

-- if a status may print nothing, nothing is printed either if running out of memory replaces it
pub unprinted-by : (line : Option Line) (status result : ℕ) (P : Type 0) → (may_print line status ≡ false → P) →
    (result ≡ status) ⊎ (result ≡ 70) → may_print line result ≡ false → P
unprinted-by line status result P h (inl e) none = h (ap (may_print line) (sym e) ∙ none)
unprinted-by None status result P h (inr e) none = h refl
unprinted-by (Some line) status result P h (inr e) none =
    absurd (true≢false (sym (prints-at_memory line) ∙ sym (ap (may_print (Some line)) e) ∙ none))
  where
    prints-at_memory : (line : Line) → may_print (Some line) 70 ≡ true
    prints-at_memory (peer names) = refl
    prints-at_memory (broadcaster names) = refl
    prints-at_memory (replay names) = refl
    prints-at_memory (keygen asked) = refl
    prints-at_memory (audit names) = refl
    prints-at_memory (judge names) = refl
    prints-at_memory (pack names) = refl
    prints-at_memory (verify names) = refl
    prints-at_memory (session_run names) = refl
    prints-at_memory (simulate seed) = refl

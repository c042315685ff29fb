-- How a command over a link ends.
use Rattle.std.proofs.Common.{◌≡◌, ◌⊎◌, ◌||◌, ℕ, Bool, true, false, true≢false, is_err, List, [], ◌++◌, Option, None, Some, Result, Ok, Err, IsTrue, refl, sym, ap, ◌∙◌, subst, take, inl, inr, arith}
use Rattle.bar_outside.specs.Disk.{Content, Disk, readable}
use Rattle.bar_outside.specs.Ends.{EndsWith, IsFixed, Prints, Says, is_plain}
use Rattle.bar_outside.specs.Plan.{Outside, Plan, line_at, no_memory, outside, read_then}
use Rattle.bar_outside.specs.Stages.{Stages, accepts, plan_by, refuses, stage}
use Rattle.bar_outside.specs.Stages.Stages.{does}
use Rattle.bar_outside.specs.Stream.{Stream}
use Rattle.bar_outside.specs.Wire.{Arrival, Wire}
use Rattle.bar_outside.proofs.Ending.{EndsWith-memory, Ends-or_memory, said, said-fixed}
use Rattle.bar_session_files.specs.Accepting.{fresh_key_of, session_of}
use Rattle.bar_party_commands.specs.Streams.{no_room, stream_in}
use Rattle.bar_party_commands.specs.CasterPlan.{CasterNames, caster_end, caster_key_stages, caster_plan, caster_stream_stages}
use Rattle.bar_party_commands.specs.PeerPlan.{PeerNames, peer_end, peer_key_stages, peer_plan}
use Rattle.bar_session_files.specs.Refusals.{key_refused, session_refused}
use Rattle.bar_party_commands.specs.Running.{RunEnds, RunEndsWith}
use Rattle.bar_outside.proofs.Following.{Ran-nothing}
use Rattle.bar_outside.proofs.Unlinked.{IsUnlinked}
use Rattle.bar_node.proofs.Doing.{none-more}
use Rattle.bar_party_commands.proofs.Reaching.{nothing-reached, reached-unlinked}
use Rattle.bar_party_commands.proofs.RunFollowing.{heard-nothing}
use Rattle.bar_cli.specs.Line.{Line, peer, broadcaster, replay, keygen, audit, judge, session_run, simulate, plan_of, reads_nothing, usage, pack, verify}
use Rattle.bar_cli.specs.Keygen.Plan.{secret_stages, leaves_for}

-- ---- which plan it was

-- a command without a link receives nothing from it
pub over-no_link : (plan : Content → Plan) (files files_new : Disk) (out out_new : Stream) (wire : Wire) (status : ℕ) (line : List ℕ) →
    ((content : Content) → IsUnlinked (plan content).actions) → (status ≡ 6 → ⊥) → EndsWith plan (outside files out wire) (outside files_new out_new wire) status line →
    RunEndsWith (λ given. plan) (outside files out wire) (outside files_new out_new wire) status line
over-no_link plan files files_new out out_new wire status line unlinked other ends = record {
  given = [];
  heard = heard-nothing (outside files out wire) (outside files_new out_new wire) refl;
  ends = ends;
  reached = λ told. reached-unlinked (plan files.content).actions status _ _ (unlinked files.content) (ends.ends.part told);
  asked = λ told front next rest e. absurd (none-more front next rest e);
  answers = λ reliable. other;
}

-- memory ran out before anything was done
pub no-memory : (plan : List Arrival → Content → Plan) (old : Outside) → RunEndsWith plan old old 70 no_memory
no-memory plan old = record {
  given = [];
  heard = heard-nothing old old refl;
  ends = EndsWith-memory (plan []) old;
  reached = λ told. nothing-reached (plan [] old.files.content).actions old old (Ran-nothing old);
  asked = λ told front next rest e. absurd (none-more front next rest e);
  answers = λ reliable e. absurd (omega arith);
}

-- running out of memory may replace any status
pub run-ends : (plan : List Arrival → Content → Plan) (old new : Outside) (status result : ℕ) (line : List ℕ) →
    (result ≡ status) ⊎ (result ≡ 70) → RunEndsWith plan old new status line → RunEnds plan old new result
run-ends plan old new status result line code r = record {
  given = r.given;
  heard = r.heard;
  ends = Ends-or_memory (plan r.given) old new status result code r.ends.ends;
  reached = r.reached;
  asked = r.asked;
  answers = λ reliable e. elim code [ inl same ↦ r.answers reliable (sym same ∙ e) | inr seventy ↦ absurd (omega arith) ];
}

-- the plan of these arguments is that of this command line
pub ends-as : (words : Option Line) (line : Line) (old new : Outside) (status result : ℕ) (text : List ℕ) → words ≡ Some line →
    (result ≡ status) ⊎ (result ≡ 70) → RunEndsWith (plan_of words) old new status text → RunEnds (plan_of (Some line)) old new result
ends-as words line old new status result text is code r =
    subst (λ asked. RunEnds (plan_of asked) old new result) is (run-ends (plan_of words) old new status result text code r)

-- ---- the line of its end doesn't depend on what the link gives

stage-line : {A E : Type 0} (path : List ℕ) (meaning : List ℕ → Result A E) (status : ℕ) (line : E → List ℕ) (some others : A → Stages)
    (content : Content) → ((meant : A) → (plan_by (some meant) content).line ≡ (plan_by (others meant) content).line) →
    (plan_by (stage path meaning status line some) content).line ≡ (plan_by (stage path meaning status line others) content).line
stage-line {A} {E} path meaning status line some others content h = by_bytes (readable content path)
  where
    by-meaning : (A → Stages) → Result A E → Content → Plan
    by-meaning on r = plan_by (accepts r on (λ fault. refuses status (line fault)))

    by_meaning : (r : Result A E) → (by-meaning some r content).line ≡ (by-meaning others r content).line
    by_meaning (Ok meant) = h meant
    by_meaning (Err fault) = refl

    by_bytes : (o : Option (List ℕ)) →
        (read_then path (λ bytes. by-meaning some (meaning bytes)) content o).line
        ≡ (read_then path (λ bytes. by-meaning others (meaning bytes)) content o).line
    by_bytes None = refl
    by_bytes (Some bytes) = by_meaning (meaning bytes)

peer-line : (names : PeerNames) (given : List Arrival) (content : Content) →
    (peer_plan names given content).line ≡ (peer_plan names [] content).line
peer-line names given content =
    stage-line names.session session_of 4 session_refused (peer_key_stages names given) (peer_key_stages names []) content (λ s.
    stage-line names.key (fresh_key_of false s) 5 key_refused (λ k. does (peer_end names given s k)) (λ k. does (peer_end names [] s k))
    content (λ k. refl))

broadcaster-line : (names : CasterNames) (given : List Arrival) (content : Content) →
    (caster_plan names given content).line ≡ (caster_plan names [] content).line
broadcaster-line names given content =
    stage-line names.session session_of 4 session_refused (caster_key_stages names given) (caster_key_stages names []) content (λ s.
    stage-line names.key (fresh_key_of true s) 5 key_refused (caster_stream_stages names given s) (caster_stream_stages names [] s) content
    (λ k. stage-line names.stream (stream_in s) 8 (no_room s) (λ stream. does (caster_end names given s k stream))
    (λ stream. does (caster_end names [] s k stream)) content (λ stream. refl)))

plan-line : (words : Option Line) (given : List Arrival) (content : Content) →
    (plan_of words given content).line ≡ (plan_of words [] content).line
plan-line None given content = refl
plan-line (Some (peer names)) given content = peer-line names given content
plan-line (Some (broadcaster names)) given content = broadcaster-line names given content
plan-line (Some (replay names)) given content = refl
plan-line (Some (keygen asked)) given content = refl
plan-line (Some (audit names)) given content = refl
plan-line (Some (judge names)) given content = refl
plan-line (Some (pack names)) given content = refl
plan-line (Some (verify names)) given content = refl
plan-line (Some (session_run names)) given content = refl
plan-line (Some (simulate seed)) given content = refl

line-same : (p q : Plan) (status : ℕ) → p.line ≡ q.line → line_at p status ≡ line_at q status
line-same p q status e = ap (λ line. line_at (record { actions = []; status = 0; line = line }) status) e

says-same : (p q : Plan) (status : ℕ) (old new : Stream) → p.line ≡ q.line → Says p status old new → Says q status old new
says-same p q status old new e h = record {
  later = h.later;
  whole = λ other none. h.whole other none ∙ ap (λ line. old.bytes ++ line) (line-same p q status e);
  front = λ other.
      let f = h.front other in (f.0, f.1 ∙ ap (λ line. old.bytes ++ take f.0 line) (line-same p q status e));
  no_memory = λ is.
      let f = h.no_memory is in (f.0, f.1, f.2 ∙ ap (λ line. old.bytes ++ take f.0 line) (line-same p q f.1 e));
}

-- the line for arguments that aren't a valid command line
usage-line : (words : Option Line) (given : List Arrival) (content : Content) (text : List ℕ) → words ≡ None → text ≡ usage →
    text ≡ (plan_of words given content).line
usage-line words given content text none is = is ∙ sym (ap (λ asked. (plan_of asked given content).line) none)

-- ---- plans that don't depend on what the files hold

refused-fixed : {A E : Type 0} (r : Result A E) (others : A → Stages) (line : E → List ℕ) (content : Content) → is_err r ≡ true →
    IsFixed (plan_by (accepts r others (λ fault. refuses 4 (line fault)))) content
refused-fixed (Ok meant) others line content h = absurd (true≢false (sym h))
refused-fixed (Err fault) others line content h = record { same = λ other. refl; unread = tt }

plan-fixed : (words : Option Line) (given : List Arrival) (content : Content) → reads_nothing words ≡ true →
    IsFixed (plan_of words given) content
plan-fixed None given content h = record { same = λ other. refl; unread = tt }
plan-fixed (Some (peer names)) given content h = absurd (true≢false (sym h))
plan-fixed (Some (broadcaster names)) given content h = absurd (true≢false (sym h))
plan-fixed (Some (replay names)) given content h = absurd (true≢false (sym h))
plan-fixed (Some (keygen asked)) given content h =
    refused-fixed (leaves_for asked) (λ _. secret_stages asked) session_refused content h
plan-fixed (Some (audit names)) given content h = absurd (true≢false (sym h))
plan-fixed (Some (judge names)) given content h = absurd (true≢false (sym h))
plan-fixed (Some (pack names)) given content h = absurd (true≢false (sym h))
plan-fixed (Some (verify names)) given content h = absurd (true≢false (sym h))
plan-fixed (Some (session_run names)) given content h = absurd (true≢false (sym h))
plan-fixed (Some (simulate seed)) given content h = record { same = λ other. refl; unread = tt }

-- too few leaves are refused
pub few-leaves : {A E : Type 0} (r : Result A E) → is_err r ≡ true → (fault : E) × (r ≡ Err fault)
few-leaves (Ok meant) h = absurd (true≢false (sym h))
few-leaves (Err fault) h = (fault, refl)

-- what was printed on standard error, if the reads agree with the content or the line doesn't depend on it
pub run-said : (words : Option Line) (old new : Outside) (status result : ℕ) (text : List ℕ) (err err_new : Stream) →
    RunEndsWith (plan_of words) old new status text → Prints text result err err_new → (status ≡ 2 → words ≡ None) →
    (status ≡ 2 → text ≡ usage) → (result ≡ status) ⊎ (result ≡ 70) → IsTrue (new.files.told || is_plain result || reads_nothing words) →
    Says (plan_of words [] old.files.content) result err err_new
run-said words old new status result text err err_new r prints none is code =
    by_tests (new.files.told || is_plain result) (reads_nothing words) refl refl
  where
    plan : Content → Plan
    plan = plan_of words r.given

    usage-is : status ≡ 2 → text ≡ (plan old.files.content).line
    usage-is two = usage-line words r.given old.files.content text (none two) (is two)

    as-first : Says (plan old.files.content) result err err_new → Says (plan_of words [] old.files.content) result err err_new
    as-first = says-same (plan old.files.content) (plan_of words [] old.files.content) result err err_new
        (plan-line words r.given old.files.content)

    by_tests : (either alone : Bool) → (new.files.told || is_plain result) ≡ either → reads_nothing words ≡ alone →
        IsTrue (either || alone) → Says (plan_of words [] old.files.content) result err err_new
    by_tests true alone e f h = as-first (said plan old new status result text err err_new r.ends prints usage-is code e)
    by_tests false true e f h =
        as-first (said-fixed plan old new status result text err err_new r.ends prints usage-is code
        (plan-fixed words r.given old.files.content f))
    by_tests false false e f h = absurd (true≢false (sym h))

use Rattle.std.proofs.Common.{◌∙◌, Ok, Err, refl, ap, sym, None}
use Rattle.std.proofs.lemmas.Result.{err_from_is_err_and}
use Rattle.bar_outside.specs.Plan.{with_out}
use Rattle.bar_outside.proofs.Ending.{EndsWith-doing, EndsWith-unread}
use Rattle.bar_outside.specs.Stages.Stages.{does}
use Rattle.bar_outside.proofs.StageEnds.{EndsWith-stage, EndsWith-stage_refused}
use Rattle.bar_cli.specs.Replay.Recordings.{recording_of}
use Rattle.bar_record.specs.Code.Inputs.{inputs_left}
use Rattle.bar_record.specs.Pacing.{paced}
use Rattle.bar_session.specs.Time.{last_tick}
use Rattle.bar_rules.specs.Members.{member_by}
use Rattle.bar_cli.specs.Replay.Found.{found_by}
use Rattle.bar_cli.specs.Replay.Plan.{replay_actions, run_end, turns_of}
use Rattle.bar_cli.specs.Refusals.{recording_refused}
use Rattle.bar_cli.specs.Code.Views.{names_view}
use Rattle.bar_cli.proofs.ReplayLemmas.{can-replay}
use Rattle.bar_cli.proofs.StatusLemmas.{never-link, quiet, unshown-at}
use Rattle.bar_cli.proofs.replay.replay_key.Goals as goal

pub returns-in_err-replay_recording-in-Ok-clause-ends : goal.returns-in_err-replay_recording-in-Ok-clause-ends
returns-in_err-replay_recording-in-Ok-clause-ends g c = λ w was.
    let p =
    err_from_is_err_and c.from_residual-in_err-replay_recording-in-Ok.result c.from_residual-in_err-replay_recording-in-Ok.ensures.1 in
    let accepted = rw c.deref.ensures.value at c.in-Ok.ensures.ok in
    let inputs = paced (last_tick c.args.session) (inputs_left c.in-Ok.items) in
    let turns = turns_of c.args.session c.args.key.secrets inputs in
    let findings = found_by c.args.names.now.found.now (member_by c.args.session c.args.key.secrets) inputs in
    rw (p.1, p.2) (EndsWith-stage _ (recording_of c.args.session c.args.key.secrets.party) 8 recording_refused
    (λ inputs. does (run_end (names_view c.args.names.now) c.args.session c.args.key.secrets inputs)) _ _
    (with_out w (g.K.Sink.stream c.args.out.now)) _ (c.in_ok-bytes.ensures was) _ _ _ _ accepted
    (EndsWith-doing (replay_actions (names_view c.args.names.now) turns findings) 0 _ _ _
    (can-replay (names_view c.args.names.now) turns findings _) refl (Err c.in_err-replay_recording-in-Ok.field-0.0)
    (c.in_err-replay_recording-in-Ok.ensures w was)))

pub returns-in_ok-replay_recording-in-Ok-clause-ends : goal.returns-in_ok-replay_recording-in-Ok-clause-ends
returns-in_ok-replay_recording-in-Ok-clause-ends g c = λ w was.
    let accepted = rw c.deref.ensures.value at c.in-Ok.ensures.ok in
    let inputs = paced (last_tick c.args.session) (inputs_left c.in-Ok.items) in
    let turns = turns_of c.args.session c.args.key.secrets inputs in
    let findings = found_by c.args.names.now.found.now (member_by c.args.session c.args.key.secrets) inputs in
    EndsWith-stage _ (recording_of c.args.session c.args.key.secrets.party) 8 recording_refused
    (λ inputs. does (run_end (names_view c.args.names.now) c.args.session c.args.key.secrets inputs)) _ _
    (with_out w (g.K.Sink.stream c.args.out.now)) _ (c.in_ok-bytes.ensures was) _ _ _ _ accepted
    (EndsWith-doing (replay_actions (names_view c.args.names.now) turns findings) 0 _ _ _
    (can-replay (names_view c.args.names.now) turns findings _) refl (Ok tt) (c.in_ok-replay_recording-in-Ok.ensures w was))

pub returns-in_err-bytes-clause-ends : goal.returns-in_err-bytes-clause-ends
returns-in_err-bytes-clause-ends g c = λ w was.
    let p = err_from_is_err_and c.from_residual.result c.from_residual.ensures.1 in
    let r = c.in_err-bytes.ensures was in
    rw (p.1, p.2, r.2) (EndsWith-unread _ _ _ _ (with_out w (g.K.Sink.stream c.args.out.now)) r.0 r.1)

pub returns-in-Err-clause-ends : goal.returns-in-Err-clause-ends
returns-in-Err-clause-ends g c = λ w was.
    EndsWith-stage_refused _ (recording_of c.args.session c.args.key.secrets.party) 8 recording_refused
    (λ inputs. does (run_end (names_view c.args.names.now) c.args.session c.args.key.secrets inputs)) _ _
    (with_out w (g.K.Sink.stream c.args.out.now)) _ (c.in_ok-bytes.ensures was) _ refl (rw c.deref.ensures.value at c.in-Err.ensures.err)

pub returns-in_err-replay_recording-in-Ok-clause-unprinted : goal.returns-in_err-replay_recording-in-Ok-clause-unprinted
returns-in_err-replay_recording-in-Ok-clause-unprinted g c =
    let p =
    err_from_is_err_and c.from_residual-in_err-replay_recording-in-Ok.result c.from_residual-in_err-replay_recording-in-Ok.ensures.1 in
    rw p.1 (unshown-at p.0 _
    (λ e. absurd (never-link _ _ _ _ refl refl (c.in_err-replay_recording-in-Ok.ensures quiet (λ path. None)) (ap Err (sym p.2 ∙ e)))))

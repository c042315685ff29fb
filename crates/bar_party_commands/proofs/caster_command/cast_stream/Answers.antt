use Rattle.std.proofs.Common.{◌≡◌, ◌∙◌, Err, Ok, ap, length, refl, sym}
use Rattle.std.proofs.lemmas.Result.{err_from_is_err_and}
use Rattle.bar_caster.specs.Code.Memory.{stream_of}
use Rattle.bar_party_commands.specs.Streams.{no_room, room_of, stream_in}
use Rattle.bar_party_commands.specs.CasterPlan.{caster_actions, rules_by}
use Rattle.bar_party_commands.specs.Code.Views.{caster_view}
use Rattle.bar_party_commands.proofs.Adding.{can-caster}
use Rattle.bar_party_commands.proofs.Planned.{placed}
use Rattle.bar_party_commands.proofs.RunEnding.{accepted-so, following, refused-so, unmeant, unread}
use Rattle.bar_party_commands.proofs.Streams.{no-fit, stream-fits, stream-is_long}
use Rattle.bar_party_commands.proofs.Unprinted.{unprinted-at}
use Rattle.bar_party_commands.proofs.caster_command.cast_stream.Goals as goal

pub returns-in_err-stream-clause-ends : goal.returns-in_err-stream-clause-ends
returns-in_err-stream-clause-ends g c = λ was.
    let p = err_from_is_err_and c.from_residual.result c.from_residual.ensures.1 in
    let r = c.in_err-stream.ensures was in
    rw (p.1, p.2, r.2) (unread _ (stream_in c.args.session) 8 (no_room c.args.session) _ _ _ _ _ r.0 r.1)

pub returns-in_err-text-clause-ends : goal.returns-in_err-text-clause-ends
returns-in_err-text-clause-ends g c = λ was.
    let p = err_from_is_err_and c.from_residual-in_err-text.result c.from_residual-in_err-text.ensures.1 in
    rw (p.1, p.2) (unmeant _ (stream_in c.args.session) 8 (no_room c.args.session) _ _ _ _ _
    c.in_ok-stream.stream (c.in_ok-stream.ensures was))

pub returns-in_err-cast-in-Ok-clause-ends : goal.returns-in_err-cast-in-Ok-clause-ends
returns-in_err-cast-in-Ok-clause-ends g c = λ was.
    let p = err_from_is_err_and c.from_residual-in_err-cast-in-Ok.result c.from_residual-in_err-cast-in-Ok.ensures.1 in
    let s = c.args.session in
    let k = c.args.key.secrets in
    let stream = stream_of c.in-Ok.caster.memory in
    rw (p.1, p.2)
    (accepted-so _ (stream_in s) 8 (no_room s) _ _ _ _ _ c.in_ok-stream.stream (c.in_ok-stream.ensures was) stream _ _ _
    (stream-fits s c.in_ok-stream.stream.items (λ long. let h = c.in-Ok.ensures.too_long long in cc) ∙ ap Ok (sym c.in-Ok.ensures.stream))
    (following (caster_actions (caster_view c.args.names.now) s k stream) (rules_by s k stream) _ _ (Err c.in_err-cast-in-Ok.field-0.0)
    (can-caster (caster_view c.args.names.now) s k stream)
    (c.in_err-cast-in-Ok.ensures.follows was s k c.in-Ok.ensures.member (c.deref.ensures.value ∙ c.in_ok-text.ensures)
    (placed s k c.args.names.now.begin_ms _ _ c.port.ensures c.tick_ms.ensures))))

pub returns-in_err-cast-in-Ok-clause-unprinted : goal.returns-in_err-cast-in-Ok-clause-unprinted
returns-in_err-cast-in-Ok-clause-unprinted g c =
    let p = err_from_is_err_and c.from_residual-in_err-cast-in-Ok.result c.from_residual-in_err-cast-in-Ok.ensures.1 in
    rw p.1
    (unprinted-at p.0 _ (λ e. c.in_err-cast-in-Ok.ensures.unprinted (ap Err (sym p.2 ∙ e)))
    (λ e. c.in_err-cast-in-Ok.ensures.quiet (ap Err (sym p.2 ∙ e))))

pub returns-in-Ok-clause-ends : goal.returns-in-Ok-clause-ends
returns-in-Ok-clause-ends g c = λ was.
    let s = c.args.session in
    let k = c.args.key.secrets in
    let stream = stream_of c.in-Ok.caster.memory in
    accepted-so _ (stream_in s) 8 (no_room s) _ _ _ _ _ c.in_ok-stream.stream (c.in_ok-stream.ensures was) stream _ _ _
    (stream-fits s c.in_ok-stream.stream.items (λ long. let h = c.in-Ok.ensures.too_long long in cc) ∙ ap Ok (sym c.in-Ok.ensures.stream))
    (following (caster_actions (caster_view c.args.names.now) s k stream) (rules_by s k stream) _ _ (Ok tt)
    (can-caster (caster_view c.args.names.now) s k stream)
    (c.in_ok-cast-in-Ok.ensures.follows was s k c.in-Ok.ensures.member (c.deref.ensures.value ∙ c.in_ok-text.ensures)
    (placed s k c.args.names.now.begin_ms _ _ c.port.ensures c.tick_ms.ensures)))

pub returns-in-Err-TooLong-clause-ends : goal.returns-in-Err-TooLong-clause-ends
returns-in-Err-TooLong-clause-ends g c = λ was.
    let long = no-fit c.args.session c.in_ok-stream.stream.items (λ short. let h = c.in-Err-TooLong.ensures.fits short in cc) in
    let e = c.in-Err-TooLong.ensures.too_long long in
    let have : c.in-Err-TooLong.have ≡ length c.in_ok-stream.stream.items = cc in
    let room : c.in-Err-TooLong.room ≡ room_of c.args.session = cc in
    rw (c.in-Err-TooLong.field-0-is, room)
    (refused-so _ (stream_in c.args.session) 8 (no_room c.args.session) _ _ _ _ _
    c.in_ok-stream.stream (c.in_ok-stream.ensures was) c.in-Err-TooLong.have
    (stream-is_long c.args.session c.in_ok-stream.stream.items long ∙ ap Err (sym have)) refl)

pub returns-clause-ends : goal.returns-clause-ends
returns-clause-ends g c = λ was.
    unmeant _ (stream_in c.args.session) 8 (no_room c.args.session) _ _ _ _ _ c.in_ok-stream.stream (c.in_ok-stream.ensures was)

-- A broadcaster plays nothing.
use Rattle.std.proofs.Common.{◌≡◌, ◌∙◌, ℕ, ◌-◌, Bool, true, false, List, [], ◌∷◌, refl, ap, cond, eqb, ◌||◌}
use Rattle.std.specs.Prelude.{Option, Some, None, length, nat_le, nat_lt, not}
use Rattle.bar_wire.specs.Datagram.{Datagram, Body}
use Rattle.bar_wire.specs.Inputs.{Input, Tick}
use Rattle.bar_wire.specs.Inputs as event
use Rattle.bar_rules.specs.Broadcaster.Sending.{announce_by, announce_evictions, announce_manifest, caster_signed, caster_step, caster_take, caster_tick, evicted, repeat_all, repeat_manifest, repeats_manifest, send_blocks, served}
use Rattle.bar_rules.specs.Broadcaster.Stream.{round_blocks}
use Rattle.bar_session.specs.Time.{last_tick, slot_after}
use Rattle.bar_rules.specs.Member.{Member}
use Rattle.bar_rules.specs.Peer.Log.{Log, Said, Ticked, round_now, ticks}
use Rattle.bar_rules.specs.Runs.{Outcome, begun}
use Rattle.bar_caster.proofs.Flat.{all-flat, blocks-flat}

either : (b : Bool) (one two : Outcome Log) (contents : List (List ℕ)) → one.contents ≡ contents → two.contents ≡ contents
    → (cond b one two).contents ≡ contents
either true one two contents first second = first
either false one two contents first second = second

announced : (me : Member) (out : Outcome Log) (leaf : ℕ) (body : Body) (said : Option Datagram)
    → (announce_by me out leaf body said).contents ≡ out.contents
announced me out leaf body (Some d) = ap (λ (o : Outcome Log). o.contents) (all-flat out (served me.session out.state) d)
announced me out leaf body None =
    let d : Datagram = caster_signed me leaf body in
    ap (λ (o : Outcome Log). o.contents) (all-flat (record out { state = Said d ∷ out.state }) (served me.session out.state) d)

manifest : (me : Member) (stream : List ℕ) (round : ℕ) (out : Outcome Log) → (announce_manifest me stream round out).contents ≡ out.contents
manifest me stream round out = announced me out _ _ _

evictions : (me : Member) (round : ℕ) (out : Outcome Log) → (announce_evictions me round out).contents ≡ out.contents
evictions me round out =
    either (nat_lt 0 (length (evicted me.session out.state))) _ out out.contents (announced me out _ _ _) refl

repeated : (me : Member) (out : Outcome Log) (said : Option Datagram) → (repeat_all me.session out said).contents ≡ out.contents
repeated me out None = refl
repeated me out (Some d) = ap (λ (o : Outcome Log). o.contents) (all-flat out (served me.session out.state) d)

blocks : (me : Member) (round : ℕ) (list : List (List ℕ)) (out : Outcome Log) → (send_blocks me round 0 list out).contents ≡ out.contents
blocks me round list out = ap (λ (o : Outcome Log). o.contents) (blocks-flat me round 0 list out)

tick : (me : Member) (stream : List ℕ) (out : Outcome Log) → (caster_tick me stream out).contents ≡ out.contents
tick me stream out =
    let m : ℕ = round_now out.state in
    let slot : ℕ = slot_after (ticks out.state) in
    let again : Outcome Log = announce_manifest me stream m out in
    let pushed : Outcome Log = send_blocks me m 0 (round_blocks me.session stream m) out in
    let later : Outcome Log = cond (eqb slot 1 || eqb slot 5) pushed out in
    let middle : Outcome Log = cond (eqb slot 4) again later in
    let first : Outcome Log = announce_evictions me m again in
    let early : Outcome Log = cond (eqb slot 0) first middle in
    let before : Outcome Log = repeat_manifest me.session (m - 1) out in
    either (eqb slot 2) (cond (repeats_manifest me.session m) before out) (cond (not (nat_le m me.session.shape.rounds)) out early)
    out.contents (either (repeats_manifest me.session m) before out out.contents (repeated me out _) refl)
    (either (not (nat_le m me.session.shape.rounds)) out early out.contents refl
    (either (eqb slot 0) first middle out.contents (evictions me m again ∙ manifest me stream m out)
    (either (eqb slot 4) again later out.contents (manifest me stream m out)
    (either (eqb slot 1 || eqb slot 5) pushed out out.contents (blocks me m (round_blocks me.session stream m) out) refl))))

take : (me : Member) (stream : List ℕ) (log : Log) (input : Input) → (caster_take me stream log input).contents ≡ []
take me stream log event.Tick = tick me stream (begun (Ticked ∷ log))
take me stream log (event.Datagram bytes) = refl

pub step-silent : (me : Member) (stream : List ℕ) (log : Log) (input : Input) → (caster_step me stream log input).contents ≡ []
unfolding caster_step
step-silent me stream log input = either (nat_le (last_tick me.session) (ticks log)) (begun log) _ [] refl (take me stream log input)

-- The time of a broadcaster: its log contains as many ticks as the inputs that it took, up to the last tick of its session.
use Rattle.std.proofs.Common.{◌≡◌, ◌≤◌, ◌<◌, ◌^◌, ◌∙◌, ℕ, ◌+◌, ◌-◌, ◌*◌, min, Bool, true, false, List, [], ◌∷◌, Option, Some, None}
use Rattle.std.proofs.Common.{length, filter, refl, ap, arith}
use Rattle.std.specs.Prelude.{◌==◌, ◌||◌, not, nat_le, nat_lt, if◌then◌else◌}
use Rattle.std.proofs.lemmas.Bool.{leb-true, leb-false}
use Rattle.bar_window.specs.declared.update.UpdateId.{UpdateId}
use Rattle.bar_wire.specs.Datagram.{Body, Datagram, Manifest, Block, Evict, kind_of}
use Rattle.bar_wire.specs.Inputs.{Input}
use Rattle.bar_wire.specs.Inputs as event
use Rattle.bar_record.specs.Pacing.{ticks_in, ticks_of}
use Rattle.bar_core.proofs.Stepwise.{ticks-stepwise}
use Rattle.bar_laws.proofs.Broadcasts.{datagram-time, repeat-flat}
use Rattle.bar_rules.specs.Broadcaster.Party.{IsBroadcaster}
use Rattle.bar_rules.specs.Broadcaster.Sending.{announce_by, announce_evictions, announce_manifest, caster_log_after, caster_signed}
use Rattle.bar_rules.specs.Broadcaster.Sending.{caster_step, caster_take, caster_tick, evicted, repeat_manifest, repeats_manifest}
use Rattle.bar_rules.specs.Broadcaster.Sending.{send_all, send_block, send_blocks, served}
use Rattle.bar_rules.specs.Broadcaster.Stream.{is_in_fanout, manifest_list, round_blocks}
use Rattle.bar_session.specs.Time.{last_tick, slot_after}
use Rattle.bar_rules.specs.Member.{Member}
use Rattle.bar_rules.specs.Peer.Log.{Log, Ticked, Said, first_said, has_kind_and_round, round_now, ticks}
use Rattle.bar_rules.specs.Runs.{Outcome, begun, sending, state_after}
use Rattle.bar_rules.specs.Values.{datagram_of, unsigned}
use Rattle.bar_caster.specs.Code.StandsFor.{Inputs}

abbrev Out : Type 0
Out = Outcome Log

-- ---- what is sent at a tick adds no tick

send_all-time : (out : Out) (ps : List ℕ) (d : Datagram) → ticks (send_all out ps d).state ≡ ticks out.state
send_all-time out [] d = refl
send_all-time out (p ∷ ps) d = send_all-time (sending out p d) ps d

send_block-time : (out : Out) (ps : List ℕ) (u : UpdateId) (block : List ℕ) → ticks (send_block out ps u block).state ≡ ticks out.state
send_block-time out [] u block = refl
send_block-time out (p ∷ ps) u block =
    send_block-time (sending out p (unsigned (record { from = 0; to = p; body = Block u block }))) ps u block

send_blocks-time : (me : Member) (m i : ℕ) (blocks : List (List ℕ)) (out : Out)
    → ticks (send_blocks me m i blocks out).state ≡ ticks out.state
send_blocks-time me m i [] out = refl
send_blocks-time me m i (block ∷ blocks) out =
    let u : UpdateId = record { round = m; index = i } in
    let ps : List ℕ = filter (is_in_fanout me u) (served me.session out.state) in
    send_blocks-time me m (i + 1) blocks (send_block out ps u block) ∙ send_block-time out ps u block

announce-time : (me : Member) (out : Out) (leaf : ℕ) (body : Body) (o : Option Datagram)
    → ticks (announce_by me out leaf body o).state ≡ ticks out.state
announce-time me out leaf body (Some d) = send_all-time out (served me.session out.state) d
announce-time me out leaf body None =
    let d : Datagram = caster_signed me leaf body in
    send_all-time (record out { state = Said d ∷ out.state }) (served me.session out.state) d ∙ omega arith

manifest-time : (me : Member) (stream : List ℕ) (m : ℕ) (out : Out) → ticks (announce_manifest me stream m out).state ≡ ticks out.state
manifest-time me stream m out =
    let body : Body = Manifest m (manifest_list me.session stream m) in
    announce-time me out (2 * (m - 1)) body (first_said (has_kind_and_round (kind_of body) m) out.state)

evictions-time : (me : Member) (m : ℕ) (out : Out) → ticks (announce_evictions me m out).state ≡ ticks out.state
evictions-time me m out = go (nat_lt 0 (length (evicted me.session out.state)))
  where
    body : Body
    body = Evict m (evicted me.session out.state)

    found : Option Datagram
    found = first_said (has_kind_and_round (kind_of body) m) out.state

    go : (b : Bool) → ticks (if b then announce_by me out (2 * (m - 1) + 1) body found else out).state ≡ ticks out.state
    go true = announce-time me out (2 * (m - 1) + 1) body found
    go false = refl

tick-time : (me : Member) (stream : List ℕ) (out : Out) → ticks (caster_tick me stream out).state ≡ ticks out.state
tick-time me stream out =
    go (slot == 2) (nat_le m me.session.shape.rounds) (slot == 0) (slot == 4) ((slot == 1) || (slot == 5))
  where
    m : ℕ
    m = round_now out.state

    slot : ℕ
    slot = slot_after (ticks out.state)

    again : (b : Bool) → ticks (if b then repeat_manifest me.session (m - 1) out else out).state ≡ ticks out.state
    again true = ap (λ (o : Out). ticks o.state) (repeat-flat me.session (m - 1) out).1
    again false = refl

    go : (second low first fourth middle : Bool)
        → ticks (if second then (if repeats_manifest me.session m then repeat_manifest me.session (m - 1) out else out)
        else (if not low then out
        else (if first then announce_evictions me m (announce_manifest me stream m out)
        else (if fourth then announce_manifest me stream m out
        else (if middle then send_blocks me m 0 (round_blocks me.session stream m) out
        else out))))).state ≡ ticks out.state
    go true low first fourth middle = again (repeats_manifest me.session m)
    go false false first fourth middle = refl
    go false true true fourth middle = evictions-time me m (announce_manifest me stream m out) ∙ manifest-time me stream m out
    go false true false true middle = manifest-time me stream m out
    go false true false false true = send_blocks-time me m 0 (round_blocks me.session stream m) out
    go false true false false false = refl

-- ---- over the inputs

step-time : (me : Member) (stream : List ℕ) (log : Log) (input : Input) → ticks log ≤ last_tick me.session
    → ticks (caster_step me stream log input).state ≡ min (ticks log + ticks_in input) (last_tick me.session)
unfolding caster_step
step-time me stream log input early = go (nat_le last (ticks log)) refl input
  where
    last : ℕ
    last = last_tick me.session

    go : (b : Bool) → nat_le last (ticks log) ≡ b → (i : Input)
        → ticks (if b then begun log else caster_take me stream log i).state ≡ min (ticks log + ticks_in i) last
    go true is i = let over : last ≤ ticks log = leb-true _ _ is in omega arith
    go false is event.Tick =
        let before : ticks log < last = leb-false _ _ is in
        tick-time me stream (begun (Ticked ∷ log)) ∙ omega arith
    go false is (event.Datagram bytes) =
        let before : ticks log < last = leb-false _ _ is in
        datagram-time me stream log (datagram_of me.session bytes) ∙ omega arith

pub log-time : (me : Member) (stream : List ℕ) (inputs : Inputs)
    → ticks (caster_log_after me stream inputs) ≡ min (ticks_of inputs) (last_tick me.session)
log-time me stream inputs =
    ticks-stepwise ticks (last_tick me.session) (λ log input. (caster_step me stream log input).state) (state_after (caster_step me stream))
    (λ log. refl)
    (λ log input inputs. refl)
    (step-time me stream)
    []
    inputs
    (omega arith)
    ∙ omega arith

-- the last tick is below 2 ^ 32
pub last_tick-small : (me : Member) → IsBroadcaster me → last_tick me.session < 2 ^ 32
last_tick-small me is = omega (arith, is.session.shape.rounds_high, me.session.shape.shaped.few)

-- What the broadcaster sends, and whom it evicts.
use Rattle.std.specs.Prelude.{ℕ, ◌+◌, ◌-◌, ◌*◌, ◌==◌, ◌&&◌, ◌||◌, not, Bool, List, [], ◌∷◌, length, filter, Option, Some, None, is_some, is_none, if◌then◌else◌, nat_le, nat_lt}
use Rattle.bar_wire.specs.Grammar.{is_third}
use Rattle.bar_wire.specs.declared.kind.Kind.TheVariants as kinds
use Rattle.bar_wire.specs.Limits.{everyone}
use Rattle.bar_window.specs.declared.update.UpdateId.{UpdateId}
use Rattle.bar_wire.specs.Datagram.{Message, Datagram, Body, Manifest, Block, Evidence, Evict, kind_of}
use Rattle.bar_wire.specs.Inputs.{Input}
use Rattle.bar_wire.specs.Inputs as event
use Rattle.bar_session.specs.Time.{last_tick, slot_after}
use Rattle.bar_rules.specs.Member.{Session, Member}
use Rattle.bar_rules.specs.Values.{unsigned, datagram_of, message_bytes}
use Rattle.bar_rules.specs.Secrets.{signature_of}
use Rattle.bar_rules.specs.Peer.Log.{Log, Ticked, Said, Kept, ticks, round_now, first_said, has_kind_and_round, kept}
use Rattle.bar_rules.specs.Judge.Verdict.{Verdict, Shown, NotShown, verdict}
use Rattle.bar_rules.specs.Runs.{Outcome, begun, sending, state_after, sends_from}
use Rattle.bar_rules.specs.Broadcaster.Stream.{round_blocks, manifest_list, caster_table, peers_of, is_in_fanout}

-- the evicted peers, in order
abbrev pub evicted : Session → Log → List ℕ
evicted s log = filter (λ q. is_some (kept log q)) (peers_of s)

abbrev pub served : Session → Log → List ℕ
served s log = filter (λ q. is_none (kept log q)) (peers_of s)

-- ---- sending

abbrev pub caster_message : Body → Message
caster_message body = record { from = 0; to = everyone; body = body }

abbrev pub caster_signed : Member → ℕ → Body → Datagram
caster_signed me leaf body = record {
  message = caster_message body;
  signature = signature_of me leaf (message_bytes me.session (caster_message body));
}

abbrev pub send_all : Outcome Log → List ℕ → Datagram → Outcome Log
send_all out [] d = out
send_all out (p ∷ ps) d = send_all (sending out p d) ps d

-- sends a signed message to all served peers: the one already signed for its kind and round, or a new one
abbrev pub announce_by : Member → Outcome Log → ℕ → Body → Option Datagram → Outcome Log
announce_by me out leaf body (Some d) = send_all out (served me.session out.state) d
announce_by me out leaf body None =
    let d : Datagram = caster_signed me leaf body in
    send_all (record out { state = Said d ∷ out.state }) (served me.session out.state) d

abbrev pub announce : Member → Outcome Log → ℕ → ℕ → Body → Outcome Log
announce me out leaf round body = announce_by me out leaf body (first_said (has_kind_and_round (kind_of body) round) out.state)

abbrev pub announce_manifest : Member → List ℕ → ℕ → Outcome Log → Outcome Log
announce_manifest me stream m out = announce me out (2 * (m - 1)) m (Manifest m (manifest_list me.session stream m))

abbrev pub announce_evictions : Member → ℕ → Outcome Log → Outcome Log
announce_evictions me m out =
    let parties : List ℕ = evicted me.session out.state in
    if nat_lt 0 (length parties) then announce me out (2 * (m - 1) + 1) m (Evict m parties) else out

-- a manifest that was signed before is sent again
abbrev pub repeat_all : Session → Outcome Log → Option Datagram → Outcome Log
repeat_all s out None = out
repeat_all s out (Some d) = send_all out (served s out.state) d

abbrev pub repeat_manifest : Session → ℕ → Outcome Log → Outcome Log
repeat_manifest s round out = repeat_all s out (first_said (has_kind_and_round kinds.Manifest round) out.state)

-- in version 3 the manifest of the round before is sent again, up to the round after the last
abbrev pub repeats_manifest : Session → ℕ → Bool
repeats_manifest s m = is_third s.shape && (nat_le 2 m && nat_le m (s.shape.rounds + 1))

abbrev pub send_block : Outcome Log → List ℕ → UpdateId → List ℕ → Outcome Log
send_block out [] u block = out
send_block out (p ∷ ps) u block = send_block (sending out p (unsigned (record { from = 0; to = p; body = Block u block }))) ps u block

abbrev pub send_blocks : Member → ℕ → ℕ → List (List ℕ) → Outcome Log → Outcome Log
send_blocks me m i [] out = out
send_blocks me m i (block ∷ blocks) out =
    let u : UpdateId = record { round = m; index = i } in
    send_blocks me m (i + 1) blocks (send_block out (filter (is_in_fanout me u) (served me.session out.state)) u block)

abbrev pub caster_tick : Member → List ℕ → Outcome Log → Outcome Log
caster_tick me stream out =
    let m : ℕ = round_now out.state in
    let slot : ℕ = slot_after (ticks out.state) in
    if slot == 2 then (if repeats_manifest me.session m then repeat_manifest me.session (m - 1) out else out)
    else (if not (nat_le m me.session.shape.rounds) then out
    else (if slot == 0 then announce_evictions me m (announce_manifest me stream m out)
    else (if slot == 4 then announce_manifest me stream m out
    else (if (slot == 1) || (slot == 5) then send_blocks me m 0 (round_blocks me.session stream m) out
    else out))))

-- the party that the verdict names is evicted, unless it already was
abbrev pub evict_by : Log → List (List ℕ) → Verdict → Log
evict_by log evidence (Shown party fault) = if is_some (kept log party) then log else Kept party evidence ∷ log
evict_by log evidence (NotShown why) = log

abbrev pub judge_body : Member → List ℕ → Log → Body → Log
judge_body me stream log (Evidence datagrams) = evict_by log datagrams (verdict me.session (caster_table me stream log) datagrams)
judge_body me stream log _ = log

abbrev pub judge_datagram : Member → List ℕ → Log → Option Datagram → Log
judge_datagram me stream log None = log
judge_datagram me stream log (Some d) = judge_body me stream log d.message.body

abbrev pub caster_take : Member → List ℕ → Log → Input → Outcome Log
caster_take me stream log event.Tick = caster_tick me stream (begun (Ticked ∷ log))
caster_take me stream log (event.Datagram bytes) = begun (judge_datagram me stream log (datagram_of me.session bytes))

unfoldable pub caster_step : Member → List ℕ → Log → Input → Outcome Log
caster_step me stream log input =
    if nat_le (last_tick me.session) (ticks log) then begun log else caster_take me stream log input

-- the log that a run from the start leaves, and what the run sends
abbrev pub caster_log_after : Member → List ℕ → List Input → Log
caster_log_after me stream inputs = state_after (caster_step me stream) [] inputs

abbrev pub caster_sends_of : Member → List ℕ → List Input → List (ℕ × ℕ × Datagram)
caster_sends_of me stream inputs = sends_from (caster_step me stream) [] 1 inputs

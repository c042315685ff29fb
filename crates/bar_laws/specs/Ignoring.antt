-- Datagrams that a party ignores, whatever their bytes: they leave it as it was, and nothing is sent or played for them.
use Rattle.std.specs.Prelude.{◌≡◌, ◌&&◌, not, Bool, true, false, ℕ, List, is_none, is_some}
use Rattle.std.specs.Option.{option_map_or}
use Rattle.bar_wire.specs.Datagram.{Datagram, Body, Evidence}
use Rattle.bar_wire.specs.Inputs.{Input}
use Rattle.bar_wire.specs.Inputs as event
use Rattle.bar_session.specs.SessionData.{SessionData}
use Rattle.bar_rules.specs.Broadcaster.Sending.{caster_step}
use Rattle.bar_rules.specs.Broadcaster.Stream.{caster_table}
use Rattle.bar_rules.specs.Judge.Verdict.{Verdict, Shown, NotShown, verdict}
use Rattle.bar_rules.specs.Member.{Member}
use Rattle.bar_rules.specs.Peer.Admission.{is_admitted}
use Rattle.bar_rules.specs.Peer.Evidence.{new_evidence}
use Rattle.bar_rules.specs.Peer.Knowledge.{Knowledge, known}
use Rattle.bar_rules.specs.Peer.Log.{Log, kept}
use Rattle.bar_rules.specs.Peer.Replies.{repeated}
use Rattle.bar_rules.specs.Peer.Run.{step}
use Rattle.bar_rules.specs.Runs.{begun}
use Rattle.bar_rules.specs.Values.{datagram_of}

-- bytes that aren't a datagram of the session
abbrev pub is_unread : SessionData → Input → Bool
is_unread s event.Tick = false
is_unread s (event.Datagram bytes) = is_none (datagram_of s bytes)

-- ---- by a peer

-- the datagram isn't admitted, repeats none that was, and completes no evidence
abbrev pub tells_nothing : Member → Knowledge → Datagram → Bool
tells_nothing me k d = not (is_admitted me k d) && not (is_some (repeated me k d)) && not (is_some (new_evidence me k d))

-- such a datagram is ignored, and so are bytes that can't be read
abbrev pub is_ignored : Member → Knowledge → Input → Bool
is_ignored me k event.Tick = false
is_ignored me k (event.Datagram bytes) = option_map_or (tells_nothing me k) (datagram_of me.session bytes) true

abbrev pub PeersIgnore : Type 0
PeersIgnore = (me : Member) (log : Log) (input : Input) → is_ignored me (known me log) input ≡ true → step me log input ≡ begun log

-- ---- by a broadcaster

-- a verdict names a party that isn't evicted yet
abbrev pub evicts : Log → Verdict → Bool
evicts log (Shown party fault) = is_none (kept log party)
evicts log (NotShown why) = false

-- the verdict on evidence does so; no other datagram evicts anybody
abbrev pub is_news : Member → List ℕ → Log → Body → Bool
is_news me stream log (Evidence datagrams) = evicts log (verdict me.session (caster_table me stream log) datagrams)
is_news me stream log _ = false

-- every datagram that isn't such evidence is ignored
abbrev pub is_ignored_by_caster : Member → List ℕ → Log → Input → Bool
is_ignored_by_caster me stream log event.Tick = false
is_ignored_by_caster me stream log (event.Datagram bytes) =
    option_map_or (λ d. not (is_news me stream log d.message.body)) (datagram_of me.session bytes) true

abbrev pub CastersIgnore : Type 0
CastersIgnore =
    (me : Member) (stream : List ℕ) (log : Log) (input : Input) → is_ignored_by_caster me stream log input ≡ true
    → caster_step me stream log input ≡ begun log

-- A completed peer run, and the replay of its recording.
use Rattle.std.specs.Prelude.{◌≡◌, ◌≤◌, ℕ, List, ◌++◌, IfSome, IsSome, IsTrue, Some}
use Rattle.bar_outside.specs.Disk.{readable}
use Rattle.bar_outside.specs.Ends.{Ends, UnlessStopped}
use Rattle.bar_outside.specs.Plan.{Outside}
use Rattle.bar_findings.specs.Findings.{evidence_name, table_name}
use Rattle.bar_wire.specs.Inputs.{Input}
use Rattle.bar_seeds.specs.declared.secrets.Secrets.{Secrets}
use Rattle.bar_session.specs.SessionData.{SessionData}
use Rattle.bar_rules.specs.Members.{member_by}
use Rattle.bar_rules.specs.Peer.Run.{sends_of}
use Rattle.bar_party_commands.specs.PeerPlan.{PeerAccepted, PeerNames}
use Rattle.bar_party_commands.specs.PeerStands as live
use Rattle.bar_party_commands.specs.PeerStands.{PeerDone}
use Rattle.bar_party_commands.specs.Stands.{packets}
use Rattle.bar_cli.specs.Replay.Found.{evidence_of}
use Rattle.bar_cli.specs.Replay.Plan.{HasOwnNames, ReplayFiles, replay_plan}
use Rattle.bar_cli.specs.Replay.Transcript.{transcript}

-- The replay reads the session as the peer read it, and the key file and the recording as the peer left them. The recording is not too
-- large to be read.
pub record ReadsWhatAPeerLeft (peer : PeerNames) (names : ReplayFiles) (before after old : Outside) : Type 0 where
  pub session : old.files.content names.session ≡ before.files.content peer.session
  pub key : old.files.content names.key ≡ after.files.content peer.key
  pub recording : old.files.content names.recording ≡ after.files.content peer.recording
  pub not_large : IsSome (readable old.files.content names.recording)

-- The replay shows exactly what the peer sent, in order, plays the same bytes, and finds the same: the same table, and the same evidence
-- against each party against which evidence is kept.
pub record ShowsWhatWasSent (peer : PeerNames) (names : ReplayFiles) (before after old new : Outside) : Type 0 where
  pub session : SessionData
  pub secrets : Secrets
  pub inputs : List Input
  pub accepted : PeerAccepted peer before.files.content session secrets
  pub sent : after.wire.traffic.sent ≡ before.wire.traffic.sent ++ packets session (sends_of (member_by session secrets) inputs)
  pub shown : new.out.bytes ≡ old.out.bytes ++ transcript session (sends_of (member_by session secrets) inputs)
  pub played : HasOwnNames names → new.files.content names.played ≡ after.files.content peer.played
  pub table : new.files.content (table_name names.found) ≡ after.files.content (table_name peer.found)
  pub evidence : (party : ℕ) → 1 ≤ party → party ≤ session.shape.peers →
      IfSome (evidence_of (member_by session secrets) inputs party) (λ kept.
      (after.files.content (evidence_name peer.found party) ≡ Some kept)
      × (new.files.content (evidence_name names.found party) ≡ Some kept))

-- A replay of what a completed peer run left ends with 0, unless a fault or running out of memory stops it. Then it shows what was sent.
abbrev pub IsReplayed : Type 0
IsReplayed =
    (peer : PeerNames) (names : ReplayFiles) (before after old new : Outside) (status : ℕ) → PeerDone peer before after →
    live.HasOwnNames peer → ReadsWhatAPeerLeft peer names before after old →
    Ends (replay_plan names) old new status → IsTrue new.files.told →
    UnlessStopped 0 status × (status ≡ 0 → ShowsWhatWasSent peer names before after old new)

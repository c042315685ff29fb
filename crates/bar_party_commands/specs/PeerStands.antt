-- What holds after the command `peer`.
use Rattle.std.specs.Prelude.{◌≡◌, ◌≢◌, ◌⊎◌, ℕ, List, [], ◌++◌, Some, IsTrue, false}
use Rattle.std.specs.List.{AllByRecursion, concat, flat_map}
use Rattle.bar_outside.specs.Disk.{Content}
use Rattle.bar_outside.specs.Plan.{Outside, shown}
use Rattle.bar_outside.specs.Stages.{IsRefused}
use Rattle.bar_outside.specs.Wire.{Arrival}
use Rattle.bar_findings.specs.Findings.{IsFindingName}
use Rattle.bar_seeds.specs.declared.secrets.Secrets.{Secrets}
use Rattle.bar_roster.specs.declared.fault.SessionFault.{SessionFault}
use Rattle.bar_roster.specs.declared.key_fault.KeyFileFault.{KeyFileFault}
use Rattle.bar_session.specs.SessionData.{SessionData}
use Rattle.bar_session.specs.Fits.{Fits}
use Rattle.bar_wire.specs.Inputs.{Input}
use Rattle.bar_record.specs.Recording.{entry_bytes, head_bytes, recording_bytes}
use Rattle.bar_core.specs.Rules.{Send}
use Rattle.bar_core.specs.Runs.{contents_over, sends_over}
use Rattle.bar_rules.specs.Members.{member_by}
use Rattle.bar_rules.specs.Peer.Run.{played_by, sends_of}
use Rattle.bar_node.specs.Runs.{IsGiven, found_after, has_end, heard, is_ended, taken_of}
use Rattle.bar_node.specs.Stops.{AreApart, Cut, IsApart, IsFront, end_of}
use Rattle.bar_session_files.specs.Accepting.{HasBadSession, HasSession, fresh_key_of}
use Rattle.bar_party_commands.specs.PeerPlan.{PeerAccepted, PeerNames, before_binding, rules_by}
use Rattle.bar_party_commands.specs.Running.{place_of, spent_text}
use Rattle.bar_party_commands.specs.Stands.{AreFound, IsBegun, IsFrontPrinted, IsUntouched, packets}
use Rattle.bar_party_commands.specs.Summaries.{peer_summary}

-- The names of a peer's files differ.
pub record HasOwnNames (names : PeerNames) : Type 0 where
  pub apart : AreApart names.recording names.played names.found
  pub not_played : names.key ≢ names.played
  pub not_recording : names.key ≢ names.recording
  pub not_found : IsApart names.key names.found

-- The session and the key were accepted, and the session contains the public key and the anchor derived from the key file's secret.
pub record IsPeerOf (names : PeerNames) (content : Content) (s : SessionData) (k : Secrets) : Type 0 where
  pub accepted : PeerAccepted names content s k
  pub fits : Fits s k.party k.secret

-- The link is bound to the key's party, and the key file is spent.
pub record IsBound (names : PeerNames) (s : SessionData) (k : Secrets) (old new : Outside) : Type 0 where
  pub bound : new.wire.traffic.bound ≡ Some (place_of names.begin_ms s k)
  pub spent : HasOwnNames names → new.files.content names.key ≡ Some (spent_text s k)

-- The link's arrivals were taken up to the end of the run, and everything that the peer's rules send over these inputs, paced, was sent.
-- The played file contains exactly what they play, and the recording contains them and the end mark. What was found is written, and the
-- summary printed.
pub record HasRun (names : PeerNames) (s : SessionData) (k : Secrets) (inputs : List Input) (old new : Outside) : Type 0 where
  pub sent : new.wire.traffic.sent ≡ old.wire.traffic.sent ++ packets s (sends_of (member_by s k) inputs)
  pub played : HasOwnNames names → new.files.content names.played ≡ Some (played_by (member_by s k) inputs)
  pub recorded : HasOwnNames names → new.files.content names.recording ≡ Some (recording_bytes s.shape.id k.party inputs)
  pub found : AreFound names.found (rules_by s k) inputs new.files.content
  -- no other file is changed; of the files of what was found, only the table file and those of the parties against which evidence is kept
  pub others : (path : List ℕ) → path ≢ names.key → path ≢ names.played → path ≢ names.recording →
      AllByRecursion (λ f. f.name ≢ path) (found_after names.found (rules_by s k) inputs) →
      new.files.content path ≡ old.files.content path
  pub printed : new.out.bytes ≡ old.out.bytes ++ shown (peer_summary (rules_by s k) inputs)

-- A peer that ended with 0.
pub record PeerDone (names : PeerNames) (old new : Outside) : Type 0 where
  pub session : SessionData
  pub secrets : Secrets
  pub is_of : IsPeerOf names old.files.content session secrets
  pub bound : IsBound names session secrets old new
  pub given : List Arrival
  pub is_given : IsGiven (rules_by session secrets) given
  pub taken : new.wire.traffic.taken ≡ old.wire.traffic.taken ++ heard given
  -- the link reports its end if and only if it gave it
  pub told_end : new.wire.traffic.ended ≡ has_end given
  pub ended : IsTrue (is_ended (rules_by session secrets) given)
  pub run : HasRun names session secrets (taken_of (rules_by session secrets) given) old new

-- A run that was stopped: it sent, played and recorded everything for the begun inputs but the last, and a prefix of that for the last. The
-- claims on files require that their names differ.
pub record HasStopped (names : PeerNames) (s : SessionData) (k : Secrets) (given : List Arrival) (old new : Outside) : Type 0 where
  pub cut : Cut (taken_of (rules_by s k) given)
  pub sent : List Send
  pub bytes : List ℕ
  pub entries : List ℕ
  pub sent_front : IsFront sent (sends_over (rules_by s k) cut.whole cut.last)
  pub bytes_front : IsFront bytes (concat (contents_over (rules_by s k) cut.whole cut.last))
  pub entries_front : IsFront entries (flat_map entry_bytes cut.last ++ end_of (rules_by s k) given)
  pub sent_is : new.wire.traffic.sent ≡ old.wire.traffic.sent ++ (sends_over (rules_by s k) [] cut.whole ++ sent)
  pub played_is : HasOwnNames names → new.files.content names.played ≡ Some (concat (contents_over (rules_by s k) [] cut.whole) ++ bytes)
  pub recorded_is : HasOwnNames names →
      new.files.content names.recording ≡ Some (head_bytes s.shape.id k.party ++ (flat_map entry_bytes cut.whole ++ entries))

-- A peer that was stopped after its link was bound.
pub record PeerStopped (names : PeerNames) (old new : Outside) : Type 0 where
  pub session : SessionData
  pub secrets : Secrets
  pub is_of : IsPeerOf names old.files.content session secrets
  pub bound : IsBound names session secrets old new
  pub given : List Arrival
  pub is_given : IsGiven (rules_by session secrets) given
  pub taken : new.wire.traffic.taken ≡ old.wire.traffic.taken ++ heard given
  -- the link reports its end if and only if it gave it
  pub told_end : new.wire.traffic.ended ≡ has_end given
  pub run : HasStopped names session secrets given old new
  -- a prefix of the summary may have been printed, if the run was at its end
  pub printed : IsFrontPrinted (peer_summary (rules_by session secrets) (taken_of (rules_by session secrets) given)) old new

-- The files were accepted, and the command was stopped before the link was bound. A prefix of these actions may be done: the key file is
-- spent, the played file and the recording are created.
pub record PeerBegun (names : PeerNames) (old new : Outside) : Type 0 where
  pub session : SessionData
  pub secrets : Secrets
  pub is_of : IsPeerOf names old.files.content session secrets
  pub begun : IsBegun (before_binding names session secrets) old new

-- what holds at every status
abbrev pub PeerStands : PeerNames → Outside → Outside → Type 0
PeerStands names old new = IsUntouched old new ⊎ (PeerBegun names old new ⊎ PeerStopped names old new)

-- a file that a peer writes
abbrev pub IsPeerFile : PeerNames → List ℕ → Type 0
IsPeerFile names path = (path ≡ names.key) ⊎ ((path ≡ names.played) ⊎ ((path ≡ names.recording) ⊎ IsFindingName names.found path))

-- the session's text exists and is refused
abbrev pub SessionRefused : PeerNames → Content → Type 0
SessionRefused names content = (fault : SessionFault) × HasBadSession names.session content fault

-- the session is accepted, and the key file exists and is refused: it is spent, or not the key of a peer of the session
abbrev pub KeyRefused : PeerNames → Content → Type 0
KeyRefused names content =
    (s : SessionData)
    × (fault : KeyFileFault)
    × HasSession names.session content s
    × IsRefused names.key (fresh_key_of false s) content fault

-- Nothing was changed, or the command was stopped before the link was bound; its status isn't 0.
abbrev pub IsUnused : PeerNames → Outside → Outside → ℕ → Type 0
IsUnused names old new status = (IsUntouched old new ⊎ PeerBegun names old new) × (status ≢ 0)

-- The link wasn't used; or the files were accepted, the link is bound to the key's party, and the key is spent.
abbrev pub IsBoundOrUnused : PeerNames → Outside → Outside → ℕ → Type 0
IsBoundOrUnused names old new status =
    IsUnused names old new status
    ⊎ ((s : SessionData) × (k : Secrets) × IsPeerOf names old.files.content s k × IsBound names s k old new)

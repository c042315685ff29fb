-- The plan of the command `replay`, and what holds after it.
use Rattle.std.specs.Prelude.{◌≡◌, ◌≢◌, ◌⊎◌, ◌≤◌, ℕ, List, [], ◌∷◌, ◌++◌, Some, IfSome, take}
use Rattle.std.specs.List.{AllByRecursion, concat}
use Rattle.bar_outside.specs.Disk.{Content, Failure}
use Rattle.bar_outside.specs.declared.files.CallKind.TheVariants.{Read}
use Rattle.bar_outside.specs.Plan.{Outside, Action, Plan}
use Rattle.bar_outside.specs.Plan.Action.{create}
use Rattle.bar_outside.specs.Ends.{SameFiles, NothingPrinted}
use Rattle.bar_outside.specs.Stages.{Stages, IsAccepted, IsRefused, plan_by, stage}
use Rattle.bar_outside.specs.Stages.Stages.{does}
use Rattle.bar_wire.specs.Inputs.{Input}
use Rattle.bar_seeds.specs.declared.secrets.Secrets.{Secrets}
use Rattle.bar_roster.specs.declared.key_fault.KeyFileFault.{KeyFileFault}
use Rattle.bar_session.specs.SessionData.{SessionData}
use Rattle.bar_record.specs.declared.fault.RecordFault.{RecordFault}
use Rattle.bar_session.specs.Fits.{Fits}
use Rattle.bar_rules.specs.Member.{Member}
use Rattle.bar_rules.specs.Members.{member_by}
use Rattle.bar_rules.specs.Peer.Run.{played_by, sends_of}
use Rattle.bar_judge.specs.TableFile.{table_bytes}
use Rattle.bar_findings.specs.Findings.{Finding, IsFindingName, IsWriteTo, IsWrittenUpTo, evidence_name, findings_actions, in_order, table_name}
use Rattle.bar_cli.specs.Refusals.{recording_refused}
use Rattle.bar_cli.specs.Replay.Found.{evidence_of, found_by, manifest_of}
use Rattle.bar_session_files.specs.Accepting.{HasSession, key_stage, secrets_of_key, session_stage}
use Rattle.bar_cli.specs.Replay.Recordings.{recording_of}
use Rattle.bar_cli.specs.Replay.Transcript.{transcript}
use Rattle.bar_cli.specs.Code.Turns.{Turn, turns_from, turns_actions, played_bytes, shown_bytes}

-- the files of a replay
pub record ReplayFiles : Type 0 where
  pub session : List ℕ
  pub key : List ℕ
  pub recording : List ℕ
  pub played : List ℕ
  pub found : List ℕ

-- the played file is created, and each turn is done
abbrev pub playing_actions : List ℕ → List Turn → List Action
playing_actions played turns = create played ∷ turns_actions played turns

-- afterwards what was found is written
abbrev pub replay_actions : ReplayFiles → List Turn → List Finding → List Action
replay_actions names turns findings = playing_actions names.played turns ++ findings_actions findings

-- the turns of a peer over these inputs, from the start
abbrev pub turns_of : SessionData → Secrets → List Input → List Turn
turns_of s secrets inputs = turns_from (member_by s secrets) 1 [] inputs

-- ---- its stages

abbrev pub run_end : ReplayFiles → SessionData → Secrets → List Input → Plan
run_end names session secrets inputs = record {
  actions = replay_actions names (turns_of session secrets inputs) (found_by names.found (member_by session secrets) inputs);
  status = 0;
  line = [];
}

-- the recording of the key's party is read, and accepted or refused
abbrev pub recording_stages : ReplayFiles → SessionData → Secrets → Stages
recording_stages names session secrets =
    stage names.recording (recording_of session secrets.party) 8 recording_refused (λ inputs. does (run_end names session secrets inputs))

-- before that the key file is read
abbrev pub key_stages : ReplayFiles → SessionData → Stages
key_stages names session = key_stage names.key session (recording_stages names session)

-- before both the session is read
abbrev pub replay_stages : ReplayFiles → Stages
replay_stages names = session_stage names.session (key_stages names)

abbrev pub replay_plan : ReplayFiles → Content → Plan
replay_plan names = plan_by (replay_stages names)

-- ---- what was accepted, and what was refused

-- the session and the key file are accepted, and the key file contains these secrets
pub record KeyAccepted (names : ReplayFiles) (content : Content) (session : SessionData) (secrets : Secrets) : Type 0 where
  pub in_session : HasSession names.session content session
  pub in_key : IsAccepted names.key (secrets_of_key session) content secrets

-- the recording is accepted, too, and contains these inputs, paced
pub record Accepted (names : ReplayFiles) (content : Content) : Type 0 where
  pub session : SessionData
  pub secrets : Secrets
  pub inputs : List Input
  pub by_key : KeyAccepted names content session secrets
  pub in_recording : IsAccepted names.recording (recording_of session secrets.party) content inputs

-- the session is accepted, and the key file exists and is refused with this fault
pub record KeyRefused (names : ReplayFiles) (content : Content) (session : SessionData) (fault : KeyFileFault) : Type 0 where
  pub in_session : HasSession names.session content session
  pub in_key : IsRefused names.key (secrets_of_key session) content fault

-- both are accepted, and the recording exists and is refused with this fault
pub record InputRefused (names : ReplayFiles) (content : Content) (session : SessionData) (secrets : Secrets) (fault : RecordFault) : Type 0
  where
    pub by_key : KeyAccepted names content session secrets
    pub in_recording : IsRefused names.recording (recording_of session secrets.party) content fault

-- ---- what then holds

-- the peer with this key
abbrev pub peer_of : (names : ReplayFiles) (content : Content) → Accepted names content → Member
peer_of names content accepted = member_by accepted.session accepted.secrets

-- the turns of this peer over the recording's inputs
abbrev pub turns_in : (names : ReplayFiles) (content : Content) → Accepted names content → List Turn
turns_in names content accepted = turns_of accepted.session accepted.secrets accepted.inputs

-- the transcript of this peer over the recording's inputs
abbrev pub transcript_of : (names : ReplayFiles) (content : Content) → Accepted names content → List ℕ
transcript_of names content accepted = transcript accepted.session (sends_of (peer_of names content accepted) accepted.inputs)

-- what this peer found over the recording's inputs
abbrev pub found_in : (names : ReplayFiles) (content : Content) → Accepted names content → List Finding
found_in names content accepted = found_by names.found (peer_of names content accepted) accepted.inputs

-- the played file is none of the files of what was found
pub record HasOwnNames (names : ReplayFiles) : Type 0 where
  pub table : names.played ≢ table_name names.found
  pub evidence : (party : ℕ) → names.played ≢ evidence_name names.found party

-- Everything was accepted, and the session contains the public key and the anchor derived from the key file's secret. Over the recording's
-- inputs the played file contains exactly what the rules of this peer play, and the transcript exactly what they send, in order. The table
-- file contains exactly the manifests that the peer admitted, by round. Each party against which it keeps evidence has a file with exactly
-- this evidence. No other file is changed.
pub record Replayed (names : ReplayFiles) (old new : Outside) : Type 0 where
  pub accepted : Accepted names old.files.content
  pub fits : Fits accepted.session accepted.secrets.party accepted.secrets.secret
  pub played : HasOwnNames names →
      new.files.content names.played ≡ Some (played_by (peer_of names old.files.content accepted) accepted.inputs)
  pub sent : new.out.bytes ≡ old.out.bytes ++ transcript_of names old.files.content accepted
  pub table : new.files.content (table_name names.found) ≡
      Some (table_bytes (in_order (manifest_of (peer_of names old.files.content accepted) accepted.inputs) accepted.session.shape.rounds))
  pub evidence : (party : ℕ) → 1 ≤ party → party ≤ accepted.session.shape.peers →
      IfSome (evidence_of (peer_of names old.files.content accepted) accepted.inputs party)
      (λ kept. new.files.content (evidence_name names.found party) ≡ Some kept)
  pub others : (path : List ℕ) → path ≢ names.played → AllByRecursion (λ f. f.name ≢ path) (found_in names old.files.content accepted) →
      new.files.content path ≡ old.files.content path

-- everything was accepted; the played file contains a prefix of what the rules of this peer play, and the transcript a prefix of what they
-- send
pub record PlayedFront (names : ReplayFiles) (old new : Outside) : Type 0 where
  pub accepted : Accepted names old.files.content
  pub played_count : ℕ
  pub shown_count : ℕ
  pub played : HasOwnNames names →
      new.files.content names.played ≡ Some (take played_count (played_by (peer_of names old.files.content accepted) accepted.inputs))
  pub shown : new.out.bytes ≡ old.out.bytes ++ take shown_count (transcript_of names old.files.content accepted)

-- the content of every file is unchanged, and nothing was printed
pub record ChangesNothing (old new : Outside) : Type 0 where
  pub files : SameFiles old new
  pub out : NothingPrinted old new

-- no file except the played one was changed
abbrev pub OthersAreSame : ReplayFiles → Outside → Outside → Type 0
OthersAreSame names old new = (path : List ℕ) → path ≢ names.played → new.files.content path ≡ old.files.content path

-- the played file was created and is empty, no other file was changed, and nothing was printed
pub record IsMade (names : ReplayFiles) (old new : Outside) : Type 0 where
  pub played : new.files.content names.played ≡ Some []
  pub out : NothingPrinted old new
  pub others : OthersAreSame names old new

-- Everything was accepted, and there is one input such that the played file contains what earlier inputs play and a prefix of what this one
-- plays. The transcript contains what earlier inputs send and a prefix of what this one sends. What an input sends is shown after
-- everything that it plays. If a call of the files failed, nothing is shown for this input. If a write to the output failed, everything
-- that it plays was written. Nothing that was found has been written yet.
pub record PlayedUpTo (names : ReplayFiles) (status : ℕ) (old new : Outside) : Type 0 where
  pub accepted : Accepted names old.files.content
  pub earlier : List Turn
  pub this : Turn
  pub later : List Turn
  pub played_count : ℕ
  pub shown_count : ℕ
  pub turns : turns_in names old.files.content accepted ≡ earlier ++ this ∷ later
  pub played : new.files.content names.played ≡ Some (played_bytes earlier ++ take played_count (concat this.contents))
  pub shown : new.out.bytes ≡ old.out.bytes ++ (shown_bytes earlier ++ take shown_count (concat this.lines))
  pub order : (shown_count ≡ 0) ⊎ (take played_count (concat this.contents) ≡ concat this.contents)
  pub at_file : status ≡ 3 → shown_count ≡ 0
  pub at_output : status ≡ 7 → take played_count (concat this.contents) ≡ concat this.contents
  pub others : OthersAreSame names old new

-- Everything was accepted, and everything that the inputs play and send was written. What was found after them is written up to some point:
-- the earlier files whole, a prefix of one, and the later ones unchanged. No write to the output failed.
pub record FoundUpTo (names : ReplayFiles) (status : ℕ) (old new : Outside) : Type 0 where
  pub accepted : Accepted names old.files.content
  pub played : HasOwnNames names →
      new.files.content names.played ≡ Some (played_by (peer_of names old.files.content accepted) accepted.inputs)
  pub sent : new.out.bytes ≡ old.out.bytes ++ transcript_of names old.files.content accepted
  pub found : HasOwnNames names → IsWrittenUpTo (found_in names old.files.content accepted) old.files.content new.files.content
  pub no_output : status ≢ 7

-- a call that a replay makes: a read of one of its inputs, or a create or an append of the played file or of a file of what was found
abbrev pub IsReplayCall : ReplayFiles → Failure → Type 0
IsReplayCall names call =
    ((call ≡ record { kind = Read; path = names.session })
    ⊎ ((call ≡ record { kind = Read; path = names.key }) ⊎ (call ≡ record { kind = Read; path = names.recording })))
    ⊎ (IsWriteTo names.played call ⊎ ((path : List ℕ) × IsFindingName names.found path × IsWriteTo path call))

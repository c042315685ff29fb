-- What holds after the command `broadcaster`.
use Rattle.std.specs.Prelude.{◌≡◌, ◌≢◌, ◌⊎◌, ◌<◌, ℕ, List, [], ◌++◌, Some, IsTrue, length, true}
use Rattle.std.specs.List.{AllByRecursion}
use Rattle.bar_outside.specs.Disk.{Content, readable}
use Rattle.bar_outside.specs.Plan.{Outside, shown}
use Rattle.bar_outside.specs.Stages.{IsAccepted, IsRefused}
use Rattle.bar_outside.specs.Wire.{Arrival}
use Rattle.bar_findings.specs.Findings.{IsFindingName}
use Rattle.bar_seeds.specs.declared.secrets.Secrets.{Secrets}
use Rattle.bar_roster.specs.declared.fault.SessionFault.{SessionFault}
use Rattle.bar_roster.specs.declared.key_fault.KeyFileFault.{KeyFileFault}
use Rattle.bar_session.specs.SessionData.{SessionData}
use Rattle.bar_session.specs.Fits.{Fits}
use Rattle.bar_rules.specs.Broadcaster.Sending.{caster_step}
use Rattle.bar_rules.specs.Members.{member_by}
use Rattle.bar_rules.specs.Runs.{sends_from}
use Rattle.bar_node.specs.Runs.{IsGiven, found_after, has_end, heard, is_ended, taken_of}
use Rattle.bar_node.specs.Stops.{IsApart, StoppedSending}
use Rattle.bar_session_files.specs.Accepting.{HasBadSession, HasSession, fresh_key_of}
use Rattle.bar_party_commands.specs.Streams.{room_of}
use Rattle.bar_party_commands.specs.CasterPlan.{CasterAccepted, CasterNames, rules_by}
use Rattle.bar_party_commands.specs.Running.{place_of, spending, spent_text}
use Rattle.bar_party_commands.specs.Stands.{AreFound, IsBegun, IsFrontPrinted, IsUntouched, packets}
use Rattle.bar_party_commands.specs.Summaries.{caster_summary}

-- The files were accepted, and the session contains the public key derived from the key file's secret.
pub record IsCasterOf (names : CasterNames) (content : Content) (s : SessionData) (k : Secrets) (stream : List ℕ) : Type 0 where
  pub accepted : CasterAccepted names content s k stream
  pub fits : Fits s k.party k.secret

-- The link is bound to the key's party, and the key file is spent.
pub record IsBound (names : CasterNames) (s : SessionData) (k : Secrets) (old new : Outside) : Type 0 where
  pub bound : new.wire.traffic.bound ≡ Some (place_of names.begin_ms s k)
  pub spent : IsApart names.key names.found → new.files.content names.key ≡ Some (spent_text s k)

-- A broadcaster that ended with 0. The link's arrivals were taken up to the end of the run, and everything that the rules send over these
-- inputs, paced, was sent. What was found is written, and the summary printed.
pub record CasterDone (names : CasterNames) (old new : Outside) : Type 0 where
  pub session : SessionData
  pub secrets : Secrets
  pub stream : List ℕ
  pub is_of : IsCasterOf names old.files.content session secrets stream
  pub bound : IsBound names session secrets old new
  pub given : List Arrival
  pub is_given : IsGiven (rules_by session secrets stream) given
  pub taken : new.wire.traffic.taken ≡ old.wire.traffic.taken ++ heard given
  -- the link reports its end if and only if it gave it
  pub told_end : new.wire.traffic.ended ≡ has_end given
  pub ended : IsTrue (is_ended (rules_by session secrets stream) given)
  pub sent : new.wire.traffic.sent
      ≡ old.wire.traffic.sent
      ++ packets session
      (sends_from (caster_step (member_by session secrets) stream) [] 1 (taken_of (rules_by session secrets stream) given))
  pub found : AreFound names.found (rules_by session secrets stream) (taken_of (rules_by session secrets stream) given) new.files.content
  -- no other file is changed; of the files of what was found, only the table file and those of the parties against which evidence is kept
  pub others : (path : List ℕ) → path ≢ names.key →
      AllByRecursion (λ f. f.name ≢ path)
      (found_after names.found (rules_by session secrets stream) (taken_of (rules_by session secrets stream) given)) →
      new.files.content path ≡ old.files.content path
  pub printed : new.out.bytes
      ≡ old.out.bytes
      ++ shown (caster_summary (rules_by session secrets stream) (taken_of (rules_by session secrets stream) given))

-- A broadcaster that was stopped after its link was bound.
pub record CasterStopped (names : CasterNames) (old new : Outside) : Type 0 where
  pub session : SessionData
  pub secrets : Secrets
  pub stream : List ℕ
  pub is_of : IsCasterOf names old.files.content session secrets stream
  pub bound : IsBound names session secrets old new
  pub given : List Arrival
  pub is_given : IsGiven (rules_by session secrets stream) given
  pub taken : new.wire.traffic.taken ≡ old.wire.traffic.taken ++ heard given
  -- the link reports its end if and only if it gave it
  pub told_end : new.wire.traffic.ended ≡ has_end given
  pub run : StoppedSending (rules_by session secrets stream) given old.wire new.wire
  -- a prefix of the summary may have been printed, if the run was at its end
  pub printed : IsFrontPrinted (caster_summary (rules_by session secrets stream) (taken_of (rules_by session secrets stream) given)) old new

-- The files were accepted, and the command was stopped before the link was bound: a part of the spending of the key may be done.
pub record CasterBegun (names : CasterNames) (old new : Outside) : Type 0 where
  pub session : SessionData
  pub secrets : Secrets
  pub stream : List ℕ
  pub is_of : IsCasterOf names old.files.content session secrets stream
  pub begun : IsBegun (spending names.key session secrets) old new

-- what holds at every status
abbrev pub CasterStands : CasterNames → Outside → Outside → Type 0
CasterStands names old new = IsUntouched old new ⊎ (CasterBegun names old new ⊎ CasterStopped names old new)

-- a file that a broadcaster writes
abbrev pub IsCasterFile : CasterNames → List ℕ → Type 0
IsCasterFile names path = (path ≡ names.key) ⊎ IsFindingName names.found path

-- the session's text exists and is refused
abbrev pub SessionRefused : CasterNames → Content → Type 0
SessionRefused names content = (fault : SessionFault) × HasBadSession names.session content fault

-- the session is accepted, and the key file exists and is refused: it is spent, or not the broadcaster's
abbrev pub KeyRefused : CasterNames → Content → Type 0
KeyRefused names content =
    (s : SessionData)
    × (fault : KeyFileFault)
    × HasSession names.session content s
    × IsRefused names.key (fresh_key_of true s) content fault

-- both are accepted, and the stream exists but is too long for the session
abbrev pub StreamRefused : CasterNames → Content → Type 0
StreamRefused names content =
    (s : SessionData)
    × (k : Secrets)
    × (stream : List ℕ)
    × HasSession names.session content s
    × IsAccepted names.key (fresh_key_of true s) content k
    × (readable content names.stream ≡ Some stream)
    × (room_of s < length stream)

-- Nothing was changed, or the command was stopped before the link was bound; its status isn't 0.
abbrev pub IsUnused : CasterNames → Outside → Outside → ℕ → Type 0
IsUnused names old new status = (IsUntouched old new ⊎ CasterBegun names old new) × (status ≢ 0)

-- The link wasn't used; or the files were accepted, the link is bound to party 0, and the key is spent.
abbrev pub IsBoundOrUnused : CasterNames → Outside → Outside → ℕ → Type 0
IsBoundOrUnused names old new status =
    IsUnused names old new status
    ⊎ ((s : SessionData)
    × (k : Secrets)
    × (stream : List ℕ)
    × IsCasterOf names old.files.content s k stream
    × IsBound names s k old new)

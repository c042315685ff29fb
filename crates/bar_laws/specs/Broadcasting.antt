-- What holds of the broadcaster over every list of inputs: whom it evicts, what it signs, what it sends again, and to whom it sends.
use Rattle.std.specs.Prelude.{◌≡◌, ◌⊎◌, ℕ, ◌+◌, ◌-◌, ◌*◌, ◌<◌, ◌≤◌, ◌==◌, ◌&&◌, Bool, true, false, List, [], ◌∷◌, ◌++◌, map, filter, length, Some, None, Contains, if◌then◌else◌}
use Rattle.std.specs.List.{AllByRecursion}
use Rattle.bar_lms.specs.Schemes.{leaves_by}
use Rattle.bar_window.specs.declared.update.UpdateId.{UpdateId}
use Rattle.bar_wire.specs.Datagram.{Datagram, Body, Manifest, Block, Evidence, Evict, kind_of, round_of}
use Rattle.bar_wire.specs.Evidence.{evidence_bytes}
use Rattle.bar_wire.specs.Grammar.{IsDatagram, IsPeer}
use Rattle.bar_wire.specs.Inputs.{Input}
use Rattle.bar_wire.specs.Inputs as event
use Rattle.bar_wire.specs.declared.kind.Kind.TheVariants as kinds
use Rattle.bar_session.specs.Sessions.{IsSession}
use Rattle.bar_terms.specs.Table.{Table}
use Rattle.bar_rules.specs.Broadcaster.Party.{IsBroadcaster}
use Rattle.bar_rules.specs.Broadcaster.Sending.{evicted, served, caster_signed, caster_step, caster_log_after, caster_sends_of, repeats_manifest}
use Rattle.bar_rules.specs.Broadcaster.Stream.{caster_table, is_in_fanout, manifest_list, peers_of, round_blocks}
use Rattle.bar_rules.specs.Judge.Verdict.{Fault, Shown, verdict}
use Rattle.bar_session.specs.Time.{last_tick, round_after, slot_after}
use Rattle.bar_rules.specs.Member.{Session, Member}
use Rattle.bar_rules.specs.Peer.Admission.{is_admitted}
use Rattle.bar_rules.specs.Peer.Knowledge.{known, this_round}
use Rattle.bar_rules.specs.Peer.Log.{Log, Ticked, Said, first_said, has_kind_and_round, kept, round_now, ticks}
use Rattle.bar_rules.specs.Peer.Sizes.{most_evidence}
use Rattle.bar_rules.specs.Values.{datagram_of}
use Rattle.bar_laws.specs.Always.{InEachPeersLog}

-- for each broadcaster with its stream, and every list of inputs that it takes
abbrev pub OfEachBroadcaster : (Member → List ℕ → List Input → Type 0) → Type 0
OfEachBroadcaster P = (me : Member) (stream : List ℕ) → IsBroadcaster me → (inputs : List Input) → P me stream inputs

-- ---- whom it evicts

-- Evidence against a party arrived in time: before the last tick, an input was a datagram with this evidence, and the verdict on it under
-- the table at that moment names the party.
pub record WasShown (me : Member) (stream : List ℕ) (inputs : List Input) (party : ℕ) (evidence : List (List ℕ)) : Type 0 where
  pub before : List Input
  pub bytes : List ℕ
  pub later : List Input
  pub split : inputs ≡ before ++ event.Datagram bytes ∷ later
  pub in_time : ticks (caster_log_after me stream before) < last_tick me.session
  pub datagram : Datagram
  pub read : datagram_of me.session bytes ≡ Some datagram
  pub body : datagram.message.body ≡ Evidence evidence
  pub fault : Fault
  pub shown : verdict me.session (caster_table me stream (caster_log_after me stream before)) evidence ≡ Shown party fault

-- It is the first evidence against the party that arrived.
pub record WasShownFirst (me : Member) (stream : List ℕ) (inputs : List Input) (party : ℕ) (evidence : List (List ℕ)) : Type 0 where
  pub shown : WasShown me stream inputs party evidence
  pub none_before : (other : List (List ℕ)) → WasShown me stream shown.before party other → ⊥

-- A party is evicted if and only if evidence against it arrived in time. Evicted parties are peers, and the first evidence against each is
-- kept.
pub record EvictsTheShown (me : Member) (stream : List ℕ) (inputs : List Input) : Type 0 where
  pub evicted_was_shown :
      (party : ℕ) → Contains (evicted me.session (caster_log_after me stream inputs)) party
      → (evidence : List (List ℕ)) × WasShown me stream inputs party evidence
  pub shown_is_evicted :
      (party : ℕ) (evidence : List (List ℕ)) → WasShown me stream inputs party evidence
      → Contains (evicted me.session (caster_log_after me stream inputs)) party
  pub first_is_kept :
      (party : ℕ) (evidence : List (List ℕ)) → WasShownFirst me stream inputs party evidence
      → kept (caster_log_after me stream inputs) party ≡ Some evidence
  pub kept_is_first :
      (party : ℕ) (evidence : List (List ℕ)) → kept (caster_log_after me stream inputs) party ≡ Some evidence
      → WasShownFirst me stream inputs party evidence

abbrev pub EvictsExactly : Type 0
EvictsExactly = OfEachBroadcaster EvictsTheShown

-- evidence that is shown against a party has no more bytes than its room
abbrev pub ShownIsShort : Type 0
ShownIsShort =
    (s : Session) (table : Table) (evidence : List (List ℕ)) (party : ℕ) (fault : Fault) → IsSession s
    → verdict s table evidence ≡ Shown party fault → length (evidence_bytes evidence) ≤ most_evidence s.shape

-- ---- what it signs

-- the leaf with which a message is signed: each round has one for its manifest and one for its notice of evictions
abbrev pub caster_leaf : Body → ℕ
caster_leaf (Evict round parties) = 2 * (round - 1) + 1
caster_leaf body = 2 * (round_of body - 1)

-- the manifest of a round
abbrev pub manifest_of : Member → List ℕ → ℕ → Datagram
manifest_of me stream round = caster_signed me (2 * (round - 1)) (Manifest round (manifest_list me.session stream round))

-- a manifest with the stream's list, or a notice of evictions
abbrev pub IsAnnouncement : Member → List ℕ → Body → Type 0
IsAnnouncement me stream (Manifest round digests) = digests ≡ manifest_list me.session stream round
IsAnnouncement me stream (Evict round parties) = Unit {0}
IsAnnouncement me stream body = ⊥

-- It signs manifests and notices, of rounds of the session that have begun, each with its own leaf of the key.
pub record IsSignedInTime (me : Member) (stream : List ℕ) (log : Log) (d : Datagram) : Type 0 where
  pub announces : IsAnnouncement me stream d.message.body
  pub signed : d ≡ caster_signed me (caster_leaf d.message.body) d.message.body
  pub fits : IsDatagram me.session.shape d
  pub low : 1 ≤ round_of d.message.body
  pub high : round_of d.message.body ≤ me.session.shape.rounds
  pub begun : round_of d.message.body ≤ round_now log
  pub below : caster_leaf d.message.body < leaves_by me.session.top me.session.params

-- Each round of the session that has begun has its manifest. When a message is signed, none of its kind and round was signed before. So
-- there are one manifest and at most one notice a round, and no leaf signs two messages.
pub record SignsOnce (me : Member) (stream : List ℕ) (log : Log) : Type 0 where
  pub each : (d : Datagram) → Contains log (Said d) → IsSignedInTime me stream log d
  pub manifests :
      (round : ℕ) → 1 ≤ round → round ≤ me.session.shape.rounds → round ≤ round_now log
      → first_said (has_kind_and_round kinds.Manifest round) log ≡ Some (manifest_of me stream round)
  pub new :
      (later before : Log) (d : Datagram) → log ≡ later ++ Said d ∷ before
      → first_said (has_kind_and_round (kind_of d.message.body) (round_of d.message.body)) before ≡ None
  pub leaves :
      (d e : Datagram) → Contains log (Said d) → Contains log (Said e) → caster_leaf d.message.body ≡ caster_leaf e.message.body → d ≡ e

abbrev pub SignsOnceARound : Type 0
SignsOnceARound = OfEachBroadcaster (λ me stream inputs. SignsOnce me stream (caster_log_after me stream inputs))

-- ---- what it sends again

-- what the tick of slot 2 is to send: if the rules repeat a manifest, that of the round before, to each peer that isn't evicted
abbrev pub said_again : Member → List ℕ → Log → List (ℕ × Datagram)
said_again me stream log =
    let m : ℕ = round_after (ticks log + 1) in
    if repeats_manifest me.session m then map (λ q. (q, manifest_of me stream (m - 1))) (served me.session log) else []

-- A tick sends this and nothing else, and signs nothing for it.
pub record SaysManifestAgain (me : Member) (stream : List ℕ) (log : Log) : Type 0 where
  pub sends : (caster_step me stream log event.Tick).sends ≡ said_again me stream log
  pub log_after : (caster_step me stream log event.Tick).state ≡ Ticked ∷ log

-- each tick of slot 2 does so
abbrev pub RepeatsManifests : Type 0
RepeatsManifests =
    OfEachBroadcaster (λ me stream inputs.
    let log : Log = caster_log_after me stream inputs in
    ticks log < last_tick me.session → slot_after (ticks log + 1) ≡ 2 → SaysManifestAgain me stream log)

-- In the round after one of the session whose manifest it has not admitted, a peer admits the broadcaster's manifest of that round, however
-- short updates live.
abbrev pub AdmitsLateManifests : Member → Log → Type 0
AdmitsLateManifests me log =
    (caster : Member) (stream : List ℕ) → IsBroadcaster caster → caster.session ≡ me.session
    → (round : ℕ) → 1 ≤ round → round ≤ me.session.shape.rounds → this_round (known me log) ≡ round + 1
    → (known me log).manifest round ≡ None
    → is_admitted me (known me log) (manifest_of caster stream round) ≡ true

abbrev pub LateManifestsAreAdmitted : Type 0
LateManifestsAreAdmitted = InEachPeersLog AdmitsLateManifests

-- ---- to whom it sends

-- each datagram that an input sends is for a peer that isn't evicted
abbrev pub ServesTheOthers : Type 0
ServesTheOthers =
    OfEachBroadcaster (λ me stream inputs. (input : Input) →
    AllByRecursion (λ send. IsPeer me.session.shape send.0 × (kept (caster_log_after me stream inputs) send.0 ≡ None))
    (caster_step me stream (caster_log_after me stream inputs) input).sends)

-- whether a datagram is the block of an update
abbrev pub is_block_of : UpdateId → Body → Bool
is_block_of u (Block v block) = (v.round == u.round) && (v.index == u.index)
is_block_of u body = false

-- the update is one of the stream's
abbrev pub IsReleased : Member → List ℕ → UpdateId → Type 0
IsReleased me stream u = (1 ≤ u.round) × (u.round ≤ me.session.shape.rounds) × (u.index < length (round_blocks me.session stream u.round))

-- the receivers of an update's block at an input
abbrev pub receivers_at : Member → List ℕ → Log → UpdateId → Input → List ℕ
receivers_at me stream log u input =
    map (λ send. send.0) (filter (λ send. is_block_of u send.1.message.body) (caster_step me stream log input).sends)

-- if none is evicted, the block is sent once to each peer in the fan-out of the update, in slots 1 and 5 of its round
abbrev pub GoesToTheFanout : Type 0
GoesToTheFanout =
    OfEachBroadcaster (λ me stream inputs. (u : UpdateId) → IsReleased me stream u
    → let log : Log = caster_log_after me stream inputs in
    evicted me.session log ≡ [] → round_after (ticks log + 1) ≡ u.round
    → (slot_after (ticks log + 1) ≡ 1) ⊎ (slot_after (ticks log + 1) ≡ 5)
    → receivers_at me stream log u event.Tick ≡ filter (is_in_fanout me u) (peers_of me.session))

-- the fan-out of an update has as many peers as the session says
abbrev pub FanoutsAreWhole : Type 0
FanoutsAreWhole =
    (me : Member) (u : UpdateId) → me.session.fanout ≤ me.session.shape.peers
    → length (filter (is_in_fanout me u) (peers_of me.session)) ≡ me.session.fanout

-- how many times the block of an update was sent
abbrev pub block_count : Member → List ℕ → List Input → UpdateId → ℕ
block_count me stream inputs u = length (filter (λ send. is_block_of u send.2.message.body) (caster_sends_of me stream inputs))

-- if none is evicted, each update whose round is past was sent twice to each peer of its fan-out
abbrev pub GoesOutTwice : Type 0
GoesOutTwice =
    OfEachBroadcaster (λ me stream inputs. (u : UpdateId) → IsReleased me stream u
    → evicted me.session (caster_log_after me stream inputs) ≡ [] → u.round < round_now (caster_log_after me stream inputs)
    → block_count me stream inputs u ≡ 2 * me.session.fanout)

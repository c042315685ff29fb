-- The headline: what holds for a peer's run over a link, and for the run that a replay shows, whatever the inputs are.
use Rattle.std.specs.Prelude.{◌≡◌, ◌≢◌, ◌⊎◌, ◌≤◌, ℕ, List, [], ◌∷◌, ◌++◌, Some, length, take}
use Rattle.std.specs.List.{AllByRecursion}
use Rattle.bar_outside.specs.Disk.{Content}
use Rattle.bar_outside.specs.Ends.{NothingPrinted}
use Rattle.bar_outside.specs.Plan.{Outside}
use Rattle.bar_outside.specs.Wire.{Arrival}
use Rattle.bar_window.specs.declared.exchange.Exchange.{Exchange}
use Rattle.bar_terms.specs.Table.{Table, Extends}
use Rattle.bar_wire.specs.Datagram.{Datagram}
use Rattle.bar_wire.specs.Inputs.{Input}
use Rattle.bar_rules.specs.Judge.Verdict.{Fault, Shown, verdict}
use Rattle.bar_seeds.specs.declared.secrets.Secrets.{Secrets}
use Rattle.bar_session.specs.SessionData.{SessionData}
use Rattle.bar_rules.specs.Member.{Member}
use Rattle.bar_rules.specs.Members.{member_by}
use Rattle.bar_rules.specs.Peer.Exchanges.{partner_in}
use Rattle.bar_rules.specs.Peer.Log.{Log, kept, table}
use Rattle.bar_rules.specs.Peer.Run.{log_after, sends_of}
use Rattle.bar_laws.specs.Again.{SaysCasesAgain}
use Rattle.bar_laws.specs.Balance.{GoesToPartner, IsBalanced, totals_of}
use Rattle.bar_laws.specs.Broadcasting.{AdmitsLateManifests}
use Rattle.bar_laws.specs.Debts.{ServesNoDebtor}
use Rattle.bar_laws.specs.Evidence.{KeepsGoodEvidence, OpensBadly}
use Rattle.bar_laws.specs.Framing.{IsNotFramed}
use Rattle.bar_laws.specs.Leaves.{KeepsLeaves}
use Rattle.bar_laws.specs.Obedience.{IsRuled}
use Rattle.bar_core.specs.Rules.{Send}
use Rattle.bar_node.specs.Runs.{heard, taken_of}
use Rattle.bar_node.specs.Stops.{IsFront}
use Rattle.bar_party_commands.specs.PeerPlan.{PeerNames, rules_by}
use Rattle.bar_party_commands.specs.PeerStands.{IsPeerOf, IsUnused}
use Rattle.bar_party_commands.specs.Stands.{packets}
use Rattle.bar_cli.specs.Replay.Plan.{ReplayFiles, Accepted, peer_of, transcript_of}
use Rattle.bar_cli.specs.Replay.Transcript.{transcript}

-- P holds at each moment over these inputs
abbrev pub AtEachMoment : (Member → List Input → Type 0) → Member → List Input → Type 0
AtEachMoment P me inputs = (earlier later : List Input) → inputs ≡ earlier ++ later → P me earlier

-- ---- a peer and the inputs that it took

-- evidence against a party is kept that shows a fault of that party under every table that extends the peer's, and so under the
-- broadcaster's
pub record HasProof (me : Member) (log : Log) (party : ℕ) : Type 0 where
  pub evidence : List (List ℕ)
  pub held : kept log party ≡ Some evidence
  pub shown : (wider : Table) → Extends (table log) wider → (fault : Fault) × (verdict me.session wider evidence ≡ Shown party fault)

pub record KeepsTheRules (me : Member) (inputs : List Input) : Type 0 where
  -- each datagram that it signed was allowed by the rule at that moment and bears the signature of its leaf; each signed datagram that it
  -- sent is one of these
  pub signed : IsRuled me inputs
  -- in each exchange it opened nothing, or as much as it promised and as the partner's briefcase that it holds promises
  pub balance : (x : Exchange) → IsBalanced (totals_of me inputs x)
  -- each key that it sent went to its partner in the exchange
  pub keys : AllByRecursion (GoesToPartner me) (sends_of me inputs)
  -- if a key was admitted that opens the partner's briefcase badly, it has proof against the partner
  pub evidence : (x : Exchange) (key : Datagram) → OpensBadly me (log_after me [] inputs) x key →
      HasProof me (log_after me [] inputs) (partner_in me x)
  -- all evidence that it keeps shows a fault of its party and of no other, under every table that extends the peer's
  pub shown : KeepsGoodEvidence me (log_after me [] inputs)
  -- under no table that agrees with the peer's does evidence made of messages that it signed name it, whatever the signatures on them
  pub unframed : IsNotFramed me (log_after me [] inputs)
  -- no leaf of its key signed two messages, and each leaf used belongs to the key
  pub leaves : KeepsLeaves me (log_after me [] inputs)
  -- a party that owes it a key isn't served: in version 3 no exchange with such a party begins
  pub debts : ServesNoDebtor me inputs
  -- in version 3 a briefcase that the partner may be missing is sent again at each tick, as long as it may be admitted
  pub again : SaysCasesAgain me (log_after me [] inputs)
  -- the manifest of the previous round is admitted, if the peer doesn't have it yet
  pub late : AdmitsLateManifests me (log_after me [] inputs)

-- ---- a peer's run over a link

-- A peer whose files were accepted and whose link was bound. There is a position in the paced inputs, with at most one more input due, such
-- that what was sent is a prefix of what the rules send up to that position. It contains everything that they send for the inputs before
-- the last one. Each part of the headline holds at each moment. At status 0 the position is the end, and everything was sent.
pub record PeerSpoke (names : PeerNames) (old new : Outside) (status : ℕ) : Type 0 where
  pub session : SessionData
  pub secrets : Secrets
  pub is_of : IsPeerOf names old.files.content session secrets
  pub given : List Arrival
  pub taken : new.wire.traffic.taken ≡ old.wire.traffic.taken ++ heard given
  pub inputs : List Input
  pub later : List Input
  pub place : taken_of (rules_by session secrets) given ≡ inputs ++ later
  pub sent : List Send
  pub sends : IsFront sent (packets session (sends_of (member_by session secrets) inputs))
  pub fewest : (earlier : List Input) (last : Input) → inputs ≡ earlier ++ last ∷ [] →
      IsFront (packets session (sends_of (member_by session secrets) earlier)) sent
  pub sent_is : new.wire.traffic.sent ≡ old.wire.traffic.sent ++ sent
  pub most : length later ≤ 1
  pub whole : status ≡ 0 → (later ≡ []) × (sent ≡ packets session (sends_of (member_by session secrets) inputs))
  pub kept : AtEachMoment KeepsTheRules (member_by session secrets) (taken_of (rules_by session secrets) given)

-- Nothing was changed, or the command was stopped before its link was bound, and its status isn't 0; or the peer sent as above.
abbrev pub PeerHeadline : PeerNames → Outside → Outside → ℕ → Type 0
PeerHeadline names old new status = IsUnused names old new status ⊎ PeerSpoke names old new status

-- ---- a replay

-- all files were accepted, and the transcript received exactly the datagrams that the rules send over the inputs, in order
abbrev pub SendsByTheRules : ReplayFiles → Outside → Outside → Type 0
SendsByTheRules names old new =
    (accepted : Accepted names old.files.content)
    × (new.out.bytes ≡ old.out.bytes ++ transcript_of names old.files.content accepted)

-- the transcript of the key's peer over these inputs
abbrev pub transcript_up_to : (names : ReplayFiles) (content : Content) → Accepted names content → List Input → List ℕ
transcript_up_to names content accepted inputs = transcript accepted.session (sends_of (peer_of names content accepted) inputs)

-- A replay whose files were accepted. There is a position in the paced inputs of the recording such that what was shown is a prefix of the
-- transcript of what the rules send up to that position. It contains everything that they send for the inputs before the last one. Each
-- part of the headline holds at each moment of the recording. At status 0 the position is the end, and everything was shown.
pub record ReplaySpoke (names : ReplayFiles) (old new : Outside) (status : ℕ) : Type 0 where
  pub accepted : Accepted names old.files.content
  pub inputs : List Input
  pub later : List Input
  pub place : accepted.inputs ≡ inputs ++ later
  pub count : ℕ
  pub shown : new.out.bytes ≡ old.out.bytes ++ take count (transcript_up_to names old.files.content accepted inputs)
  pub fewest : (earlier : List Input) (last : Input) → inputs ≡ earlier ++ last ∷ [] →
      length (transcript_up_to names old.files.content accepted earlier) ≤ count
  pub whole : status ≡ 0 →
      (later ≡ []) × (new.out.bytes ≡ old.out.bytes ++ transcript_of names old.files.content accepted)
  pub kept : AtEachMoment KeepsTheRules (peer_of names old.files.content accepted) accepted.inputs

-- Nothing was printed, and the replay was stopped or refused; or it showed datagrams as above.
abbrev pub ReplayHeadline : ReplayFiles → Outside → Outside → ℕ → Type 0
ReplayHeadline names old new status = (NothingPrinted old new × (status ≢ 0)) ⊎ ReplaySpoke names old new status

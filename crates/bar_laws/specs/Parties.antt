-- What holds among several parties, whatever the network and hostile parties do.
use Rattle.std.specs.Prelude.{◌≡◌, ℕ, ◌≤◌, Bool, true, false, List, ◌∷◌, ◌++◌, Some, None, slice_get, Contains}
use Rattle.std.specs.List.{AllByRecursion}
use Rattle.bar_rules.specs.Broadcaster.Sending.{evicted}
use Rattle.bar_rules.specs.Broadcaster.Stream.{caster_table}
use Rattle.bar_terms.specs.Table.{Extends}
use Rattle.bar_terms.specs.Terms.{promised_updates}
use Rattle.bar_window.specs.declared.update.UpdateId.{UpdateId}
use Rattle.bar_wire.specs.Inputs.{Input}
use Rattle.bar_wire.specs.Datagram.{Datagram, Key, Briefcase, KeyGiven, is_signed, exchange_by}
use Rattle.bar_rules.specs.Peer.Holdings.{is_held, case_heard_from}
use Rattle.bar_rules.specs.Peer.Log.{Log, Heard, HasSigned, is_announced, table, round_now, kept}
use Rattle.bar_rules.specs.Member.{Session, Member, is_alive}
use Rattle.bar_rules.specs.Values.{opening_of, is_good, datagram_bytes, datagram_of, is_signed_by}
use Rattle.bar_rules.specs.World.World.{World, Move, member, party_step, run, AreUnforged, Setup, IsSetup, initial}

-- what a setup's parties have become after some moves
abbrev pub after : Setup → List Move → World
after setup moves = run setup (initial setup) moves

-- ---- worlds to which unforged moves lead

-- The set of trusted parties contains the broadcaster, and the moves forge no accepted signature of a trusted party.
pub record ForgesNothing (setup : Setup) (trusted : ℕ → Bool) (moves : List Move) : Type 0 where
  pub setup_is : IsSetup setup
  pub broadcaster : trusted 0 ≡ true
  pub unforged : AreUnforged setup trusted (initial setup) moves

-- whatever the network and hostile parties do, if nothing is forged
abbrev pub InUnforgedWorlds : (Setup → (ℕ → Bool) → World → Type 0) → Type 0
InUnforgedWorlds P =
    (setup : Setup) (trusted : ℕ → Bool) (moves : List Move) → ForgesNothing setup trusted moves → P setup trusted (after setup moves)

-- a party that is trusted, with its log
pub record IsTrusted (trusted : ℕ → Bool) (w : World) (party : ℕ) (log : Log) : Type 0 where
  pub trust : trusted party ≡ true
  pub log_is : slice_get w.logs party ≡ Some log

-- a trusted party that is a peer
pub record IsTrustedPeer (trusted : ℕ → Bool) (w : World) (peer : ℕ) (log : Log) : Type 0 where
  pub low : 1 ≤ peer
  pub trust : trusted peer ≡ true
  pub log_is : slice_get w.logs peer ≡ Some log

-- the broadcaster's log
abbrev pub IsCastersLog : World → Log → Type 0
IsCastersLog w log = slice_get w.logs 0 ≡ Some log

-- no trusted party keeps evidence against a trusted peer
abbrev pub AccusesNobody : Setup → (ℕ → Bool) → World → Type 0
AccusesNobody setup trusted w =
    (accuser accused : ℕ) (mine theirs : Log) → IsTrusted trusted w accuser mine → IsTrustedPeer trusted w accused theirs
    → kept mine accused ≡ None

abbrev pub NobodyIsAccused : Type 0
NobodyIsAccused = InUnforgedWorlds AccusesNobody

-- the broadcaster has evicted no trusted peer
abbrev pub EvictsNobody : Setup → (ℕ → Bool) → World → Type 0
EvictsNobody setup trusted w =
    (peer : ℕ) (log caster : Log) → IsTrustedPeer trusted w peer log → IsCastersLog w caster
    → Contains (evicted setup.session caster) peer → ⊥

abbrev pub NobodyIsEvicted : Type 0
NobodyIsEvicted = InUnforgedWorlds EvictsNobody

-- no trusted peer is announced evicted to any peer
abbrev pub AnnouncesNobody : Setup → (ℕ → Bool) → World → Type 0
AnnouncesNobody setup trusted w =
    (peer announced : ℕ) (mine theirs : Log) → 1 ≤ peer → slice_get w.logs peer ≡ Some mine → IsTrustedPeer trusted w announced theirs
    → is_announced mine announced ≡ false

abbrev pub NobodyIsAnnounced : Type 0
NobodyIsAnnounced = InUnforgedWorlds AnnouncesNobody

-- An admitted key opens the partner's briefcase well, and afterwards the receiver holds each promised update that is alive then.
pub record OpensWell (me : Member) (before : Log) (d : Datagram) (k : KeyGiven) : Type 0 where
  pub case : Briefcase
  pub found : case_heard_from before (exchange_by k.round k.kind k.role d.message.from d.message.to) k.role ≡ Some case
  pub good :
      is_good (opening_of me.session (table before) (exchange_by k.round k.kind k.role d.message.from d.message.to) case k.key) ≡ true
  pub held :
      (u : UpdateId) → Contains (promised_updates me.session.cap case.terms case.role) u
      → is_alive me.session u.round (round_now before) ≡ true → is_held me.session (Heard d ∷ before) u ≡ true

-- The datagram is a KEY of this sender that was admitted after the log before it.
pub record IsAdmittedKey (log before : Log) (sender : ℕ) (d : Datagram) (k : KeyGiven) : Type 0 where
  pub later : Log
  pub split : log ≡ later ++ Heard d ∷ before
  pub is_key : d.message.body ≡ Key k
  pub from : d.message.from ≡ sender

-- each key that one of two trusted peers admitted from the other
abbrev pub KeysWork : Setup → (ℕ → Bool) → World → Type 0
KeysWork setup trusted w =
    (receiver sender : ℕ) (mine theirs before : Log) (d : Datagram) (k : KeyGiven)
    → IsTrustedPeer trusted w receiver mine → IsTrustedPeer trusted w sender theirs → IsAdmittedKey mine before sender d k
    → OpensWell (member setup receiver) before d k

abbrev pub KeysOpenWell : Type 0
KeysOpenWell = InUnforgedWorlds KeysWork

-- a signed datagram that a peer admitted from a trusted party was signed by this party
abbrev pub HearsTheSaid : Setup → (ℕ → Bool) → World → Type 0
HearsTheSaid setup trusted w =
    (peer sayer : ℕ) (mine theirs : Log) (d : Datagram) → 1 ≤ peer → slice_get w.logs peer ≡ Some mine → IsTrusted trusted w sayer theirs
    → Contains mine (Heard d) → is_signed d.message.body ≡ true → d.message.from ≡ sayer → HasSigned theirs d

abbrev pub HeardWasSaid : Type 0
HeardWasSaid = InUnforgedWorlds HearsTheSaid

-- the broadcaster's table extends the table of each trusted peer
abbrev pub ExtendsTables : Setup → (ℕ → Bool) → World → Type 0
ExtendsTables setup trusted w =
    (peer : ℕ) (log caster : Log) → IsTrustedPeer trusted w peer log → IsCastersLog w caster
    → Extends (table log) (caster_table (member setup 0) setup.stream caster)

-- in every unforged world
abbrev pub TablesAreExtended : Type 0
TablesAreExtended = InUnforgedWorlds ExtendsTables

-- ---- what is sent, whatever is forged

-- The bytes encode the datagram, which is from the party. If its kind is signed, its signature is accepted under this sender's key.
pub record IsAccepted (s : Session) (party : ℕ) (bytes : List ℕ) (d : Datagram) : Type 0 where
  pub reads : datagram_of s bytes ≡ Some d
  pub from : d.message.from ≡ party
  pub accepted : is_signed d.message.body ≡ true → is_signed_by s d ≡ true

-- the bytes sent for a datagram are accepted in this sense
abbrev pub IsSentBy : Setup → ℕ → ℕ × Datagram → Type 0
IsSentBy setup party sent = IsAccepted setup.session party (datagram_bytes setup.session sent.1) sent.1

-- each datagram that a party of the world would send at any input, whatever is forged
abbrev pub StepIsAccepted : Type 0
StepIsAccepted =
    (setup : Setup) (moves : List Move) → IsSetup setup
    → (party : ℕ) (log : Log) (input : Input) → slice_get (after setup moves).logs party ≡ Some log
    → AllByRecursion (IsSentBy setup party) (party_step setup party log input).sends

-- The bytes of a packet encode a datagram of one of the parties, accepted in this sense.
pub record IsOfParty (setup : Setup) (packet : ℕ × List ℕ) : Type 0 where
  pub party : ℕ
  pub present : party ≤ setup.session.shape.peers
  pub datagram : Datagram
  pub accepted : IsAccepted setup.session party packet.1 datagram

-- each packet that was ever sent
abbrev pub SentIsAccepted : Type 0
SentIsAccepted = (setup : Setup) (moves : List Move) → IsSetup setup → AllByRecursion (IsOfParty setup) (after setup moves).packets

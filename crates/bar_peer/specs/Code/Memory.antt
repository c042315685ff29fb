-- How a peer's memory represents the peer's knowledge.
use Rattle.std.specs.Prelude.{◌≡◌, ℕ, option_map}
use Rattle.bar_store.specs.Code.Holds.{Holds}
use Rattle.bar_bytes.specs.Code.Rooms.{kept_in}
use Rattle.bar_wire.specs.Evidence.{evidence_bytes}
use Rattle.bar_ledger.specs.Code.Recalls.{Recalls}
use Rattle.bar_rules.specs.Member.{Member}
use Rattle.bar_rules.specs.Values.{datagram_bytes}
use Rattle.bar_rules.specs.Peer.Knowledge.{Knowledge, known}
use Rattle.bar_rules.specs.Peer.Log.{Log}
use Rattle.bar_peer.specs.declared.credentials.Credentials.{Credentials}
use Rattle.bar_peer.specs.declared.memory.Memory.{Memory}
use Rattle.bar_peer.specs.Code.Evictions.{was_heard, is_named}
use Rattle.bar_rules.specs.Members.{member_by}

-- the peer
abbrev pub member_of : Credentials → Member
member_of who = member_by who.session who.secrets

-- The memory represents the knowledge. Evidence is encoded as the body of an EVIDENCE.
pub record IsMemoryOf (me : Member) (k : Knowledge) (m : Memory) : Type 0 where
  pub time : k.ticks ≡ m.ticks
  pub store : Holds me k m.store
  pub ledger : Recalls me k m.ledger
  pub manifests : (round : ℕ) → option_map (datagram_bytes me.session) (k.manifest round) ≡ kept_in m.manifests round
  pub evictions : (round : ℕ) → k.has_evict round ≡ was_heard m.evictions round
  pub announced : (party : ℕ) → k.is_announced party ≡ is_named m.evictions party
  pub evidence : (party : ℕ) → option_map evidence_bytes (k.evidence party) ≡ kept_in m.evidence party

-- the memory represents the log
abbrev pub Represents : Log → Memory → Type 0
Represents log m = IsMemoryOf (member_of m.who) (known (member_of m.who) log) m

-- The memory belongs to the same peer at the same time.
pub record IsSameParty (old new : Memory) : Type 0 where
  pub who : new.who ≡ old.who
  pub ticks : new.ticks ≡ old.ticks

-- Only the ledger changes.
pub record HasOtherLedger (old new : Memory) : Type 0 where
  pub who : new.who ≡ old.who
  pub ticks : new.ticks ≡ old.ticks
  pub store : new.store ≡ old.store
  pub manifests : new.manifests ≡ old.manifests
  pub evictions : new.evictions ≡ old.evictions
  pub evidence : new.evidence ≡ old.evidence

-- Only the store changes.
pub record HasOtherStore (old new : Memory) : Type 0 where
  pub who : new.who ≡ old.who
  pub ticks : new.ticks ≡ old.ticks
  pub ledger : new.ledger ≡ old.ledger
  pub manifests : new.manifests ≡ old.manifests
  pub evictions : new.evictions ≡ old.evictions
  pub evidence : new.evidence ≡ old.evidence

-- Only the evidence changes.
pub record HasOtherEvidence (old new : Memory) : Type 0 where
  pub who : new.who ≡ old.who
  pub ticks : new.ticks ≡ old.ticks
  pub store : new.store ≡ old.store
  pub ledger : new.ledger ≡ old.ledger
  pub manifests : new.manifests ≡ old.manifests
  pub evictions : new.evictions ≡ old.evictions

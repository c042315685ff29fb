-- How a broadcaster's memory represents its log.
use Rattle.std.specs.Prelude.{◌≡◌, ℕ, List, Option, Some, option_map}
use Rattle.bar_bytes.specs.Code.Rooms.{kept_in}
use Rattle.bar_terms.specs.Table.{digests_of}
use Rattle.bar_wire.specs.Datagram.{Datagram}
use Rattle.bar_wire.specs.declared.kind.Kind.{Kind}
use Rattle.bar_wire.specs.declared.kind.Kind.TheVariants as kinds
use Rattle.bar_rules.specs.Broadcaster.Stream.{caster_table}
use Rattle.bar_rules.specs.Member.{Member}
use Rattle.bar_rules.specs.Members.{member_by}
use Rattle.bar_rules.specs.Peer.Log.{Log, first_said, has_kind_and_round, round_now, ticks}
use Rattle.bar_rules.specs.Values.{datagram_bytes}
use Rattle.bar_caster.specs.declared.memory.Memory.{Memory}
use Rattle.bar_caster.specs.Code.Evictions.{AreOfLog}

-- the broadcaster
abbrev pub member_of : Memory → Member
member_of m = member_by m.session m.secrets

-- the bytes of its stream
abbrev pub stream_of : Memory → List ℕ
stream_of m = m.stream.bytes.items

-- the datagram of a kind and round that was signed
abbrev pub said_of : Kind → ℕ → Log → Option Datagram
said_of kind round log = first_said (has_kind_and_round kind round) log

-- The memory represents the log: the time, the lists of the rounds so far, the signed manifests, this round's notice if one was signed, and
-- whom the broadcaster evicted.
pub record Represents (log : Log) (m : Memory) : Type 0 where
  pub time : ticks log ≡ m.ticks
  pub table : (round : ℕ) → digests_of m.table.lists round ≡ caster_table (member_of m) (stream_of m) log round
  pub manifests : (round : ℕ) → kept_in m.manifests round ≡ option_map (datagram_bytes m.session) (said_of kinds.Manifest round log)
  pub notice : (d : Datagram) → said_of kinds.Evict (round_now log) log ≡ Some d → m.notice.kept ≡ Some (datagram_bytes m.session d)
  pub evictions : AreOfLog m.session m.evictions log

-- Session, secrets and stream are unchanged.
pub record IsOfTheSame (old new : Memory) : Type 0 where
  pub session : new.session ≡ old.session
  pub secrets : new.secrets ≡ old.secrets
  pub stream : new.stream ≡ old.stream

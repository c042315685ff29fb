-- The first fault of bytes that encode no datagram.
use Rattle.std.specs.Prelude.{◌≡◌, ◌≢◌, ℕ, ◌+◌, ◌<◌, ◌≤◌, List, length, take, drop, slice_index, Some, None}
use Rattle.bar_wire.specs.Limits.{header_len}
use Rattle.bar_wire.specs.declared.shape.Shape.{Shape}
use Rattle.bar_wire.specs.declared.fault.WireFault.{WireFault}
use Rattle.bar_wire.specs.declared.fault.WireFault.TheVariants.{Short, BadMagic, BadVersion, BadKind, BadSession, BadLength, BadField}
use Rattle.bar_wire.specs.declared.kind.Kind.{Kind}
use Rattle.bar_wire.specs.Kinds.{kind_at}
use Rattle.bar_wire.specs.Datagram.{Datagram}
use Rattle.bar_wire.specs.Grammar.{SpellsDatagram, magic, signature_len}
use Rattle.bar_wire.specs.Places.{fields_len}

-- the bytes have room for a header, and its magic and version are the session's
pub record IsOurs (s : Shape) (bytes : List ℕ) : Type 0 where
  pub long : header_len ≤ length bytes
  pub magic_is : take 2 bytes ≡ magic
  pub version_is : slice_index bytes 2 ≡ s.version

-- the header is the session's, of this kind
pub record HasHeader (s : Shape) (kind : Kind) (bytes : List ℕ) : Type 0 where
  pub ours : IsOurs s bytes
  pub kind_is : kind_at (slice_index bytes 3) ≡ Some kind
  pub session_is : take 8 (drop 4 bytes) ≡ s.id

-- the length that the kind and the raw counts give
abbrev pub datagram_len : Shape → Kind → List ℕ → ℕ
datagram_len s kind bytes = header_len + fields_len s kind (drop header_len bytes) + signature_len s kind

-- this is the first fault
abbrev pub IsFirstFault : Shape → List ℕ → WireFault → Type 0
IsFirstFault s bytes Short = length bytes < header_len
IsFirstFault s bytes BadMagic = (header_len ≤ length bytes) × (take 2 bytes ≢ magic)
IsFirstFault s bytes BadVersion = (header_len ≤ length bytes) × (take 2 bytes ≡ magic) × (slice_index bytes 2 ≢ s.version)
IsFirstFault s bytes BadKind = IsOurs s bytes × (kind_at (slice_index bytes 3) ≡ None)
IsFirstFault s bytes BadSession =
    IsOurs s bytes × ((kind : Kind) × (kind_at (slice_index bytes 3) ≡ Some kind)) × (take 8 (drop 4 bytes) ≢ s.id)
IsFirstFault s bytes BadLength = (kind : Kind) × HasHeader s kind bytes × (length bytes ≢ datagram_len s kind bytes)
IsFirstFault s bytes BadField =
    ((kind : Kind) × HasHeader s kind bytes × (length bytes ≡ datagram_len s kind bytes)) × ((d : Datagram) → SpellsDatagram s d bytes → ⊥)

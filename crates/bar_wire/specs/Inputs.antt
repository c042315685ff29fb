-- The input of one step of a core as a value, without its address in memory.
use Rattle.std.specs.Prelude.{ℕ, List}
use Rattle.bar_wire.specs.declared.input.Input.{Input as RawInput}
use Rattle.bar_wire.specs.declared.input.Input.TheVariants as raw

pub data Input : Type 0 where
  Tick : Input
  Datagram : (bytes : List ℕ) → Input

-- the value that an input represents
abbrev pub plain_input : RawInput → Input
plain_input raw.Tick = Tick
plain_input (raw.Datagram bytes) = Datagram bytes.now

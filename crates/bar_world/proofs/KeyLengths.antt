-- The length of a KEY.
use Rattle.bar_bytes.proofs.Lengths.{length_u16, length_u32}
use Rattle.bar_wire.specs.declared.shape.Shape.{Shape}
use Rattle.bar_wire.specs.Datagram.{Body, Key}
use Rattle.bar_wire.specs.Grammar.{message_bytes}
use Rattle.bar_world.specs.Lies.{IsKeyBody}
use Rattle.std.proofs.Common.{ℕ, ◌≤◌, length, length-append, arith}

pub key_message_length : (s : Shape) (from to : ℕ) (b : Body) → IsKeyBody b
    → length (message_bytes s (record { from = from; to = to; body = b })) ≤ 54
key_message_length s from to (Key k) long =
    simp length-append (omega (arith, s.shaped.id_long, length_u16 from, length_u16 to, length_u32 k.round, long))
key_message_length s from to _ h = absurd h

-- A datagram decoded from the bytes of a KEY names the same sender and contains no evidence, whatever follows its fields.
use Rattle.bar_bytes.specs.Bytes.{u16_bytes}
use Rattle.bar_bytes.proofs.Lengths.{length_u16}
use Rattle.bar_bytes.proofs.Options.{then-value}
use Rattle.bar_wire.specs.declared.kind.Kind.TheVariants as kinds
use Rattle.bar_wire.specs.declared.shape.Shape.{Shape}
use Rattle.bar_wire.specs.Bodies.{evidence_in}
use Rattle.bar_wire.specs.Datagram.{Message, Datagram, Key, KeyGiven}
use Rattle.bar_wire.specs.Grammar.{message_bytes}
use Rattle.bar_wire.specs.Places.{datagram_of, datagram_at}
use Rattle.bar_wire.proofs.ReadBack.{u16_back}
use Rattle.std.proofs.Common.{◌≡◌, ℕ, List, [], ◌++◌, ◌^◌, ◌<◌, length, take, drop, sym, ap, ◌∙◌, append_assoc}
use Rattle.std.proofs.Math.Seq.{drop-append_seam, take-append_seam}
use Rattle.std.specs.Int.{w16, from_be_bytes}
use Rattle.std.specs.Prelude.{Some, slice_range}

-- the second of three consecutive parts
second-part : (n m : ℕ) (a b c d : List ℕ) → length a ≡ n → length b ≡ m → take m (drop n ((a ++ (b ++ c)) ++ d)) ≡ b
second-part n m a b c d long-a long-b = rw (← long-a, ← long-b) (simp (append_assoc, drop-append_seam, take-append_seam))

abbrev pub key_message : ℕ → ℕ → KeyGiven → Message
key_message from to k = record { from = from; to = to; body = Key k }

-- the sender is in bytes 12 and 13
sender-at : (s : Shape) (from to : ℕ) (k : KeyGiven) (sig : List ℕ) → from < 2 ^ 16
    → from_be_bytes w16 (slice_range (message_bytes s (key_message from to k) ++ sig) 12 14) ≡ from
sender-at s from to k sig h =
    ap (λ z. from_be_bytes w16 z) (second-part 8 2 s.id (u16_bytes from) _ sig s.shaped.id_long (length_u16 from)) ∙ u16_back from h

pub key-reads : (s : Shape) (from to : ℕ) (k : KeyGiven) (sig : List ℕ) (d : Datagram) → from < 2 ^ 16
    → datagram_of s (message_bytes s (key_message from to k) ++ sig) ≡ Some d
    → (d.message.from ≡ from) × (evidence_in d.message.body ≡ [])
unfolding datagram_of
key-reads s from to k sig d h reads =
    let at : Datagram = datagram_at s kinds.Key (message_bytes s (key_message from to k) ++ sig) in
    let same : at ≡ d = then-value _ at d reads in
    (ap (λ z. z.message.from) (sym same) ∙ sender-at s from to k sig h, ap (λ z. evidence_in z.message.body) (sym same))

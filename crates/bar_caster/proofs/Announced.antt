-- Lists whose concatenations are equal give the same messages.
use Rattle.std.proofs.Common.{◌≡◌, ℕ, List, [], ◌∷◌, length}
use Rattle.std.specs.List.{concat, flat_map}
use Rattle.bar_bytes.specs.Bytes.{u8_bytes, u16_bytes, u32_bytes}
use Rattle.bar_wire.specs.Limits.{everyone}
use Rattle.bar_wire.specs.declared.shape.Shape.{Shape}
use Rattle.bar_wire.specs.declared.kind.Kind.TheVariants as kinds
use Rattle.bar_wire.specs.Datagram.{Manifest, Evict}
use Rattle.bar_wire.specs.Grammar.{start, message_bytes}
use Rattle.bar_rules.specs.Broadcaster.Sending.{caster_message}

pub same-manifest : (s : Shape) (round : ℕ) (ds es : List (List ℕ)) → length ds ≡ length es → concat ds ≡ concat es
    → message_bytes s (caster_message (Manifest round ds)) ≡ message_bytes s (caster_message (Manifest round es))
same-manifest s round ds es long joined =
    λ i. concat (start s kinds.Manifest 0 everyone (u32_bytes round ∷ u8_bytes (long i) ∷ joined i ∷ []))

pub same-evictions : (s : Shape) (round : ℕ) (ps qs : List ℕ) → length ps ≡ length qs → flat_map u16_bytes ps ≡ flat_map u16_bytes qs
    → message_bytes s (caster_message (Evict round ps)) ≡ message_bytes s (caster_message (Evict round qs))
same-evictions s round ps qs long joined =
    λ i. concat (start s kinds.Evict 0 everyone (u32_bytes round ∷ u8_bytes (long i) ∷ joined i ∷ []))

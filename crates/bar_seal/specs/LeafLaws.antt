-- Laws of what a leaf determines of the message that it signs.
use Rattle.std.specs.Prelude.{◌≡◌, ℕ, ◌<◌, ◌≤◌, true, Some, None}
use Rattle.bar_window.specs.declared.exchange.XKind.{XKind}
use Rattle.bar_window.specs.declared.exchange.Role.{Role}
use Rattle.bar_window.specs.declared.exchange.Role.TheVariants.{Responder}
use Rattle.bar_wire.specs.Datagram.{Body, is_signed, round_of, part_of, kind_number}
use Rattle.bar_wire.specs.Limits.{seats_a_round}
use Rattle.bar_seal.specs.Leaves.{leaf_of}

-- A leaf of a peer determines the kind of its message, the round, kind and side of the exchange, and the seat of a responder.
abbrev pub PeersLeavesNameMessages : Type 0
PeersLeavesNameMessages =
    (b c : Body) (p q : ℕ × XKind × Role) (s t : ℕ)
    → is_signed b ≡ true
    → is_signed c ≡ true
    → part_of b ≡ Some p
    → part_of c ≡ Some q
    → 1 ≤ p.0
    → 1 ≤ q.0
    → s < seats_a_round
    → t < seats_a_round
    → leaf_of b s ≡ leaf_of c t
    → (kind_number b ≡ kind_number c) × (p ≡ q) × (p.2 ≡ Responder → s ≡ t)

-- A leaf of the broadcaster determines the kind and the round of its message.
abbrev pub CastersLeavesNameMessages : Type 0
CastersLeavesNameMessages =
    (b c : Body) (s t : ℕ)
    → is_signed b ≡ true
    → is_signed c ≡ true
    → part_of b ≡ None
    → part_of c ≡ None
    → 1 ≤ round_of b
    → 1 ≤ round_of c
    → leaf_of b s ≡ leaf_of c t
    → (kind_number b ≡ kind_number c) × (round_of b ≡ round_of c)

use Rattle.std.proofs.Common.{◌≡◌, ◌||◌, ◌==◌, ◌&&◌, ℕ, nat_lt, length, take, map}
use Rattle.std.specs.List.{list_any}
use Rattle.bar_bytes.specs.Bytes.{first_u16}
use Rattle.bar_peer.specs.Code.Evictions.{is_named}
use Rattle.bar_peer.proofs.evictions.Evictions.add.Given as goal

-- the parties of the pairs before the current one are marked
abbrev pub invariant-loop-pair : goal.invariant-loop-pair
invariant-loop-pair l = record {
  rounds : l.self.rounds ≡ l.initial.self.rounds;
  room : length l.self.parties.items ≡ length l.initial.self.parties.items;
  named : (p : ℕ) → is_named l.self p ≡ (is_named l.initial.self p
      || list_any (λ q. (q == p) && nat_lt q (length l.initial.self.parties.items)) (map first_u16 (take l.pair-index l.pair-items)));
}

use Rattle.std.proofs.Common.{◌≡◌, ◌<◌, ℕ, None, length}
use Rattle.bar_peer.specs.Code.Cases.{name_in}
use Rattle.bar_peer.proofs.cases.Cases.clear.Given as goal

-- the rooms before the current one aren't labelled
abbrev pub invariant-loop-number : goal.invariant-loop-number
invariant-loop-number l = record {
  long : length l.self.names.items ≡ length l.initial.self.names.items;
  cleared : (n : ℕ) → n < l.number → name_in l.self n ≡ None;
}

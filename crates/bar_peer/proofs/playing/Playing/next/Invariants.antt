use Rattle.std.proofs.Common.{◌≡◌}
use Rattle.bar_peer.specs.Code.StandsFor.{contents_left}
use Rattle.bar_peer.proofs.playing.Playing.next.Given as goal

-- the updates before the current index have no content
abbrev pub invariant-loop-index : goal.invariant-loop-index
invariant-loop-index l = record {
  next : l.self.next ≡ l.index;
  end : l.self.end ≡ l.index-end;
  round : l.self.round ≡ l.initial.self.round;
  left : contents_left l.memory.store l.initial.self ≡ contents_left l.memory.store l.self;
}

use Rattle.std.proofs.Common.{◌≡◌, map, take}
use Rattle.bar_world.specs.Keys.{anchor_in}
use Rattle.bar_world.proofs.sessions.anchors.Given as goal

-- the anchors of the parties before the current one
abbrev pub invariant-loop-key : goal.invariant-loop-key
invariant-loop-key l = l.anchors.items ≡ map anchor_in (take l.key-index l.keys)

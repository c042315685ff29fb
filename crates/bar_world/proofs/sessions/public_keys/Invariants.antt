use Rattle.std.proofs.Common.{◌≡◌, map, take}
use Rattle.bar_world.specs.Keys.{public_in}
use Rattle.bar_world.proofs.sessions.public_keys.Given as goal

-- the public keys of the parties before the current one
abbrev pub invariant-loop-key : goal.invariant-loop-key
invariant-loop-key l = l.public.items ≡ map public_in (take l.key-index l.keys)

use Rattle.std.proofs.Common.{◌≡◌, take}
use Rattle.bar_world.specs.Keys.{keys_by}
use Rattle.bar_world.proofs.keys.keys_of.Given as goal

-- the key files of the parties before the current one
abbrev pub invariant-loop-who : goal.invariant-loop-who
invariant-loop-who l = l.keys.items ≡ keys_by l.params l.rounds (take l.who-index l.secrets)

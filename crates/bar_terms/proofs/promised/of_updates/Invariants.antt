use Rattle.std.proofs.Common.{◌≡◌, length, take, map}
use Rattle.bar_terms.specs.declared.items.Item.TheVariants.{Update}
use Rattle.bar_terms.proofs.promised.of_updates.Given as goal

abbrev pub invariant-loop-place : goal.invariant-loop-place
invariant-loop-place l = record { long : length l.items ≡ 16; done : take l.place l.items ≡ map Update (take l.place l.listed.ids) }

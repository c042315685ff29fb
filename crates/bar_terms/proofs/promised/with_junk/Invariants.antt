use Rattle.std.proofs.Common.{◌≡◌, ◌+◌, ◌++◌, length, take, map}
use Rattle.std.specs.List.{range_with_len}
use Rattle.bar_terms.specs.declared.items.Item.TheVariants.{Junk}
use Rattle.bar_terms.proofs.promised.with_junk.Given as goal

abbrev pub invariant-loop-number : goal.invariant-loop-number
invariant-loop-number l = record { long : length l.items ≡ 16; done : take (l.promise.len + l.number) l.items ≡ take l.promise.len l.promise.items ++ map Junk (range_with_len 0 l.number) }

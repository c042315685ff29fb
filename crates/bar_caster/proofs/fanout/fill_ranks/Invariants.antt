use Rattle.std.proofs.Common.{◌≡◌, ◌+◌, take, map}
use Rattle.std.specs.List.{range_with_len}
use Rattle.bar_rules.specs.Member.{Member}
use Rattle.bar_rules.specs.Broadcaster.Stream.{rank_of}
use Rattle.bar_caster.specs.Code.Fanout.{HasSecret}
use Rattle.bar_caster.proofs.fanout.fill_ranks.Given as goal

-- the ranks before the current index are filled, one step for each
abbrev pub invariant-loop-i : goal.invariant-loop-i
invariant-loop-i g l = record {
  filled : (me : Member) → HasSecret me l.id l.secret → take l.i l.ranks ≡ map (rank_of me l.update) (range_with_len 1 l.i);
  cost : l.steps ≡ l.initial.steps + l.i;
}

use Rattle.std.proofs.Common.{◌≡◌, ◌≤◌, length, take}
use Rattle.bar_world.proofs.small_list.SmallList.of.Given as goal

-- the list contains the parties before the current one, as long as they fit
abbrev pub invariant-loop-party : goal.invariant-loop-party
invariant-loop-party l = record {
  few : l.len ≤ 5;
  long : length l.list ≡ 5;
  counted : l.party-index ≤ 5 → l.len ≡ l.party-index;
  first : l.party-index ≤ 5 → take l.len l.list ≡ take l.party-index l.parties;
}

use Rattle.std.proofs.Common.{◌≡◌, ◌≤◌}
use Rattle.bar_window.specs.declared.update.UpdateId.{UpdateId}
use Rattle.bar_rules.specs.Member.{Member}
use Rattle.bar_caster.specs.Code.Fanout.{AreRanksOf, count_before}
use Rattle.bar_caster.proofs.fanout.count_before.Given as goal

-- the peers before the current one that precede the peer are counted
abbrev pub invariant-loop-i : goal.invariant-loop-i
invariant-loop-i l = record {
  few : l.before ≤ l.i;
  counted : (me : Member) (u : UpdateId) → AreRanksOf me u l.ranks → l.before ≡ count_before me u l.i l.peer;
}

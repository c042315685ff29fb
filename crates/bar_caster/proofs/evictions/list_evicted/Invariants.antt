use Rattle.std.proofs.Common.{◌≡◌, ◌≤◌, vec_capacity, vec_len}
use Rattle.bar_caster.specs.Code.Listed.{peers_with_evidence}
use Rattle.bar_caster.proofs.evictions.list_evicted.Given as goal

-- the peers before the current one are listed if they are evicted
abbrev pub invariant-loop-before : goal.invariant-loop-before
invariant-loop-before l = record {
  listed : l.list.items ≡ peers_with_evidence l.evidence l.before;
  few : vec_len l.list ≤ l.before;
  room : vec_capacity l.fn.list ≤ vec_capacity l.list;
}

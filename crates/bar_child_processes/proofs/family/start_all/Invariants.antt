use Rattle.std.proofs.Common.{◌≡◌, ◌≤◌, ◌+◌, length, map, vec_capacity}
use Rattle.bar_child_processes.specs.Code.Views.{key_in, names_view}
use Rattle.bar_child_processes.proofs.Starting.{Starting}
use Rattle.bar_child_processes.proofs.family.start_all.Given as goal

-- the children so far were started
abbrev pub invariant-loop-place : goal.invariant-loop-place
invariant-loop-place g l = record {
  started : Starting (names_view l.names) l.peers (map key_in l.children.items) (g.S.Spawner.children l.initial.spawn)
      (g.S.Spawner.children l.spawn);
  counted : length l.children.items ≡ l.place;
  room : l.peers + 1 ≤ vec_capacity l.children;
}

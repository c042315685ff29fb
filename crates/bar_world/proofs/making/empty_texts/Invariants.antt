use Rattle.std.proofs.Common.{◌≡◌, []}
use Rattle.std.specs.Prelude.{replicate}
use Rattle.bar_world.specs.Code.Texts.{texts}
use Rattle.bar_world.proofs.making.empty_texts.Given as goal

-- `counter` empty lists are made
abbrev pub invariant-loop : goal.invariant-loop
invariant-loop l = texts l.list.items ≡ replicate l.counter []

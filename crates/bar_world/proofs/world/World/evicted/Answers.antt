use Rattle.std.proofs.Common.{◌∙◌}
use Rattle.bar_laws.specs.OwnRuns.{inputs_of}
use Rattle.bar_world.proofs.Evicted.{nobody-honest, same-evicted}
use Rattle.bar_world.proofs.world.World.evicted.Goals as goal

pub returns-clause-listed : goal.returns-clause-listed
returns-clause-listed c = λ setup moves log s at.
    c.evicted.ensures (inputs_of setup moves 0) s.caster.took
    ∙ same-evicted setup moves log c.args.self.now c.parties_run_alone.ensures.broadcaster s at

pub returns-clause-honest : goal.returns-clause-honest
returns-clause-honest c = λ setup trusted moves s forges.
    nobody-honest setup trusted moves c.args.self.now c.evicted.result.now c.parties_run_alone.ensures.broadcaster
    c.parties_run_alone.ensures.peers c.nobody_is_evicted.ensures s forges
    (c.evicted.ensures (inputs_of setup moves 0) s.caster.took)

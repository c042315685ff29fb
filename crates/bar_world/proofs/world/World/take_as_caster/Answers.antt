use Rattle.std.proofs.Common.{◌<◌, length, refl, arith}
use Rattle.std.proofs.lemmas.Option.{slice_get_read}
use Rattle.bar_world.proofs.Takes.{caster-took, on-ok}
use Rattle.bar_world.proofs.world.World.take_as_caster.Goals as goal

pub returns-clause-stands : goal.returns-clause-stands
returns-clause-stands c =
    let low : 0 < length c.args.self.now.played.items = omega arith in
    on-ok c.feed.result
    (λ fed setup moves m gives s.
    caster-took setup moves m _ c.args.self.now _ _ _ c.parties_run_alone.ensures.broadcaster gives fed
    (slice_get_read _ _ 0 _ refl low c.index_mut.ensures.value) refl refl s)
    c.feed.ensures

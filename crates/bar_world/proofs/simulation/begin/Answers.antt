use Rattle.std.proofs.Common.{◌∙◌, List, [], refl, sym, ap, subst}
use Rattle.std.specs.Prelude.{slice_index_or}
use Rattle.bar_roster.specs.declared.key_file.KeyFile.{KeyFile}
use Rattle.bar_rules.specs.World.World.{IsSetup}
use Rattle.bar_world.specs.Keys.{held_in}
use Rattle.bar_world.specs.Code.Kept.{StandsFor}
use Rattle.bar_world.proofs.Begins.{liar-is, setup-is, stream-fits}
use Rattle.bar_world.proofs.SimEnds.{begun-playing}
use Rattle.bar_world.proofs.simulation.begin.Goals as goal

pub of_keys-requires-clause-setup : goal.of_keys-requires-clause-setup
of_keys-requires-clause-setup c =
    subst IsSetup (sym (setup-is c.args.seed _ _ _ c.in_ok-session.ensures.value (ap held_in c.in_ok-keys.ensures) c.in_ok-stream.ensures))
    (c.simulations_are_fair.ensures.setup c.args.seed)

pub of_keys-requires-clause-room : goal.of_keys-requires-clause-room
of_keys-requires-clause-room c =
    stream-fits c.args.seed c.in_ok-session.session _ c.keystreams_have_their_length.ensures.length c.in_ok-session.ensures.value
    c.in_ok-stream.ensures

pub returns-clause-plays : goal.returns-clause-plays
returns-clause-plays c =
    begun-playing c.args.seed _
    (subst (λ setup. StandsFor setup [] c.in_ok-world.world)
    (setup-is c.args.seed _ _ _ c.in_ok-session.ensures.value (ap held_in c.in_ok-keys.ensures) c.in_ok-stream.ensures)
    c.in_ok-world.ensures.stands)
    (liar-is c.args.seed c.in_ok-session.session _ _ c.params.result c.in_ok-session.ensures.value
    (ap (λ (key : KeyFile). key.secrets)
    (c.index.ensures ∙ ap (λ (list : List KeyFile). slice_index_or list 5 c.index.result.now) c.in_ok-keys.ensures)) refl
    c.shape.ensures.value c.params.ensures c.in_ok-signer.ensures)
    c.new.ensures.items c.draws.ensures.key c.draws.ensures.stream c.draws.ensures.place refl refl refl

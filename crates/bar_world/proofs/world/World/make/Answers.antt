use Rattle.std.proofs.Common.{List, [], sym, subst}
use Rattle.std.specs.Prelude.{IfOk}
use Rattle.bar_seeds.specs.declared.secrets.Secrets.{Secrets}
use Rattle.bar_rules.specs.World.World.{IsSetup}
use Rattle.bar_world.specs.Code.Kept.{StandsFor}
use Rattle.bar_world.specs.Code.Setups.{AreOfParties, setup_of}
use Rattle.bar_world.proofs.KeyFiles.{held-is, made-for}
use Rattle.bar_world.proofs.world.World.make.Goals as goal

pub of_keys-requires-clause-made : goal.of_keys-requires-clause-made
of_keys-requires-clause-made c =
    made-for c.args.session.now c.params.result c.shape.result c.args.secrets.now _ c.params.ensures c.shape.ensures.value
    c.in_ok-keys.ensures

pub of_keys-requires-clause-setup : goal.of_keys-requires-clause-setup
of_keys-requires-clause-setup c =
    subst (λ (held : List Secrets). IsSetup (setup_of c.args.session.now held c.args.stream.items))
    (sym (held-is c.params.result c.shape.result.rounds c.args.secrets.now _ c.in_ok-keys.ensures)) c.requires.setup

pub of_keys-requires-clause-parties : goal.of_keys-requires-clause-parties
of_keys-requires-clause-parties c =
    subst (λ (held : List Secrets). AreOfParties c.args.session.now held)
    (sym (held-is c.params.result c.shape.result.rounds c.args.secrets.now _ c.in_ok-keys.ensures)) c.requires.parties

pub returns-clause-stands : goal.returns-clause-stands
returns-clause-stands c =
    subst
    (λ (held : List Secrets).
    IfOk c.of_keys.result (λ world. StandsFor (setup_of c.args.session.now held c.args.stream.items) [] world))
    (held-is c.params.result c.shape.result.rounds c.args.secrets.now _ c.in_ok-keys.ensures) c.of_keys.ensures.stands

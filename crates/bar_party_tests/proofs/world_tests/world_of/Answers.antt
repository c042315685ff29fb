use Rattle.std.proofs.Common.{subst, sym}
use Rattle.bar_rules.specs.Member.{Session}
use Rattle.bar_world.specs.Code.Setups.{AreOfParties}
use Rattle.bar_party_tests.proofs.world_tests.world_of.Goals as goal

pub make-requires-clause-setup : goal.make-requires-clause-setup
make-requires-clause-setup c = c.in_ok-session.ensures.setup c.in_ok-stream.stream.items

pub make-requires-clause-parties : goal.make-requires-clause-parties
make-requires-clause-parties c =
    subst (λ (s : Session). AreOfParties s c.args.secrets.now) (sym c.in_ok-session.ensures.value) c.requires.parties

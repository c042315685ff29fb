use Rattle.std.proofs.Common.{◌∙◌, sym, subst}
use Rattle.std.proofs.lemmas.List.{take_rest}
use Rattle.bar_rules.specs.Member.{Session}
use Rattle.bar_rules.specs.World.World.{IsSetup}
use Rattle.bar_world.specs.Keys.{held_in}
use Rattle.bar_world.specs.Code.Setups.{setup_of}
use Rattle.bar_world.proofs.MadeOfHeld.{of-setup, session-is}
use Rattle.bar_world.proofs.sessions.session.Goals as goal

pub returns-clause-value : goal.returns-clause-value
returns-clause-value c =
    c.made.ensures
    ∙ session-is c.args.shape c.args.numbers c.args.keys.now _ _ c.requires.made c.requires.parties c.in_ok-public.ensures
    (rw (take_rest c.args.keys.now 1) at c.in_ok-anchors.ensures)

pub returns-clause-setup : goal.returns-clause-setup
returns-clause-setup c = λ stream.
    subst (λ (s : Session). IsSetup (setup_of s (held_in c.args.keys.now) stream)) (sym (returns-clause-value c))
    (of-setup c.args.shape c.args.numbers c.args.keys.now stream c.requires.numbers c.requires.count)

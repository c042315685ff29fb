use Rattle.std.proofs.Common.{sym, subst, true}
use Rattle.bar_hss.specs.Files.{IsPartyKeyOf}
use Rattle.bar_session.specs.SessionData.{SessionData}
use Rattle.bar_world.proofs.making.start_caster.Goals as goal

pub of_key-requires : goal.of_key-requires
of_key-requires c =
    subst (λ (s : SessionData). IsPartyKeyOf s true c.single-key.result) (sym c.in_ok-copied.ensures)
    (c.single-key.ensures.fits c.args.session.now true c.requires.single c.requires.key)

use Rattle.std.proofs.Common.{sym, subst, false}
use Rattle.bar_hss.specs.Files.{IsPartyKeyOf}
use Rattle.bar_session.specs.SessionData.{SessionData}
use Rattle.bar_world.proofs.making.start_peer.Goals as goal

pub of_key-requires : goal.of_key-requires
of_key-requires c =
    subst (λ (s : SessionData). IsPartyKeyOf s false c.single.result) (sym c.in_ok-copied.ensures)
    (c.single.ensures.fits c.args.session.now false c.requires.single c.requires.key)

-- The broadcaster of a session.
use Rattle.std.specs.Prelude.{◌≡◌}
use Rattle.bar_session.specs.Fits.{Fits}
use Rattle.bar_session.specs.Sessions.{IsSession}
use Rattle.bar_rules.specs.Member.{Member}

-- The member is the broadcaster of its session, which holds the key derived from its secret.
pub record IsBroadcaster (me : Member) : Type 0 where
  pub session : IsSession me.session
  pub party : me.party ≡ 0
  pub fits : Fits me.session 0 me.secret

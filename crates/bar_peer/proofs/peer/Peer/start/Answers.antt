-- The scheme of a new peer accepts the signatures that the session's scheme accepts.
use Rattle.std.proofs.Common.{sym, subst}
use Rattle.bar_peer.specs.declared.credentials.Credentials.{Credentials}
use Rattle.bar_peer.specs.Code.Checking.{IsGuardOf}
use Rattle.bar_peer.proofs.Stepping.Guards.{made_guards}
use Rattle.bar_peer.proofs.peer.Peer.start.Goals as goal

pub invariant_of-result-clause-guards : goal.invariant_of-result-clause-guards
invariant_of-result-clause-guards g c =
    subst (λ (w : Credentials). IsGuardOf w.session (record { checker = c.in_ok-checker.checker; points = c.in_ok-points.points }))
    (sym c.in_ok-memory.ensures.who)
    (made_guards c.args.session c.in_ok-checker.checker c.args.scheme c.in_ok-points.points c.in_ok-checker.ensures.verifier c.requires.verifies
    c.requires.names
    c.in_ok-points.ensures.seeds)

use Rattle.std.proofs.Common.{◌≡◌, ◌+◌, ◌-◌}
use Rattle.bar_rules.specs.Peer.Evidence.{shared_from}
use Rattle.bar_ledger.specs.Code.Naming.{names}
use Rattle.bar_exchange.specs.Code.Naming.{passing_among}
use Rattle.bar_exchange.proofs.naming.Search.of_rounds.Given as goal

abbrev pub invariant-loop-after : goal.invariant-loop-after
invariant-loop-after g l =
    passing_among (names (g.V.Verifier.leaf_named l.self.verifier.now) (g.V.Verifier.signature_len l.self.verifier.now) l.self.leaf) l.self.ledger.now l.self.x
    (shared_from l.self.ledger.now.me l.self.party l.first l.count)
    ≡ passing_among (names (g.V.Verifier.leaf_named l.self.verifier.now) (g.V.Verifier.signature_len l.self.verifier.now) l.self.leaf) l.self.ledger.now l.self.x
    (shared_from l.self.ledger.now.me l.self.party (l.first + l.after) (l.count - l.after))

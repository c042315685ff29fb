-- A KEY that is sent is for the member's partner in its exchange.
use Rattle.bar_wire.specs.declared.kind.Kind.TheVariants as kinds
use Rattle.bar_rules.specs.Peer.Exchanges.{role_of}
use Rattle.bar_rules.specs.Peer.Log.{Log}
use Rattle.bar_rules.specs.Member.{Member}
use Rattle.bar_rules.specs.Peer.Rules.{IsObedient}
use Rattle.bar_rules.specs.Peer.Run.{log_after, sends_of}
use Rattle.bar_window.specs.Exchange.{party_on, other_role}
use Rattle.bar_window.specs.declared.exchange.Exchange.{Exchange}
use Rattle.bar_window.specs.declared.exchange.Role.{Role}
use Rattle.bar_wire.specs.Datagram.{Datagram, is_of}
use Rattle.bar_wire.specs.Inputs.{Input}
use Rattle.std.proofs.Common.{◌≡◌, ℕ, true, List, [], ap, ◌∙◌}
use Rattle.std.specs.List.{AllByRecursion}
use Rattle.bar_laws.specs.Balance.{GoesToPartner}
use Rattle.bar_laws.proofs.Logs.{all-map, saying, was-said, receiver-on}
use Rattle.bar_laws.proofs.Runs.RunSends.{IsSentAs, key-signed, run-sent}

goes-to-partner : (me : Member) (log : Log) (sent : ℕ × ℕ × Datagram) → IsObedient me log → IsSentAs log sent → GoesToPartner me sent
goes-to-partner me log sent h s = record {
  own = own;
  to = λ x role e. s.to ∙ receiver-on kinds.Key x role sent.2.message e ∙ ap (λ r. party_on x (other_role r)) (own x role e);
}
  where
    own : (x : Exchange) (role : Role) → is_of kinds.Key x role sent.2.message ≡ true → role ≡ role_of me x
    own x role e = (saying me log sent.2 kinds.Key x role h (was-said log sent.2 (s.said (key-signed x role sent.2.message e))) e).side

pub keys-to-partners : (me : Member) (inputs : List Input) → IsObedient me (log_after me [] inputs) → AllByRecursion (GoesToPartner me) (sends_of me inputs)
keys-to-partners me inputs h =
    all-map (IsSentAs (log_after me [] inputs)) (GoesToPartner me) (sends_of me inputs) (λ s b. goes-to-partner me (log_after me [] inputs) s h b) (run-sent me [] 1 inputs)

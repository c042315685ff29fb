-- What a peer's memory may rely on: how the parts of what is known of a log are related.
use Rattle.std.specs.Prelude.{◌≡◌, ℕ, ◌+◌, ◌<◌, ◌≤◌, true, IsSome, Some, is_some}
use Rattle.std.specs.List.{All}
use Rattle.bar_window.specs.declared.exchange.Exchange.{Exchange}
use Rattle.bar_window.specs.declared.exchange.Role.{Role}
use Rattle.bar_window.specs.declared.exchange.Role.TheVariants.{Initiator}
use Rattle.bar_window.specs.Exchange.{other_role}
use Rattle.bar_window.specs.Terms.{Terms}
use Rattle.bar_terms.specs.Terms.{can_promise, promised_updates}
use Rattle.bar_wire.specs.Bodies.{is_manifest_of}
use Rattle.bar_wire.specs.Datagram.{Datagram, Briefcase, is_of}
use Rattle.bar_wire.specs.Grammar.{IsDatagram}
use Rattle.bar_wire.specs.Limits.{seats_a_round}
use Rattle.bar_wire.specs.declared.kind.Kind.{Kind}
use Rattle.bar_wire.specs.declared.kind.Kind.TheVariants as kinds
use Rattle.bar_rules.specs.Member.{Member}
use Rattle.bar_rules.specs.Values.{counts_ok}
use Rattle.bar_rules.specs.Peer.Admission.{has_valid_signature}
use Rattle.bar_rules.specs.Peer.Exchanges.{role_of, request_kind}
use Rattle.bar_rules.specs.Peer.Knowledge.{Knowledge, known, this_round, has_heard_of, has_said_of, case_heard_of}
use Rattle.bar_rules.specs.Peer.Log.{Log}
use Rattle.bar_rules.specs.Peer.Rules.{IsObedient}
use Rattle.bar_rules.specs.Peer.Terms.{terms_of}

-- a side can promise by these terms, and holds the updates that it promises
pub record CanGive (me : Member) (k : Knowledge) (x : Exchange) (t : Terms) : Type 0 where
  pub valid : can_promise me.session.cap t ≡ true
  pub held : All (λ u. IsSome (k.block u)) (promised_updates me.session.cap t (role_of me x))

-- A briefcase that was heard from the other side of an exchange, of which this side has said one. It has the terms of the exchange, and the
-- counts of its sender's promise by these terms.
pub record IsTheirs (me : Member) (k : Knowledge) (x : Exchange) (c : Briefcase) : Type 0 where
  pub side : c.role ≡ other_role (role_of me x)
  pub said : has_said_of k kinds.Case x (role_of me x) ≡ true
  pub terms : terms_of me k x ≡ Some c.terms
  pub counts : counts_ok me.session c ≡ true

-- What was heard has an encoding, was sent to this member, and if its kind is signed, its signature was accepted. What was heard or said
-- under a kind, exchange and side is of them. The manifests are of rounds up to the next. Each exchange with a seat has an admitted
-- request, and there are two seats. If a CASE was said, its blocks are held. If one was heard from the other side, it is as this side
-- expects.
pub record IsSound (me : Member) (k : Knowledge) : Type 0 where
  pub spelled : (kind : Kind) (x : Exchange) (role : Role) (d : Datagram) → k.heard kind x role ≡ Some d → IsDatagram me.session.shape d
  pub heard : (kind : Kind) (x : Exchange) (role : Role) (d : Datagram) → k.heard kind x role ≡ Some d → is_of kind x role d.message ≡ true
  pub accepted :
      (kind : Kind) (x : Exchange) (role : Role) (d : Datagram) → k.heard kind x role ≡ Some d → has_valid_signature me.session d ≡ true
  pub received : (kind : Kind) (x : Exchange) (role : Role) (d : Datagram) → k.heard kind x role ≡ Some d → d.message.to ≡ me.party
  pub said : (kind : Kind) (x : Exchange) (role : Role) (d : Datagram) → k.said kind x role ≡ Some d → is_of kind x role d.message ≡ true
  pub manifests : (round : ℕ) (d : Datagram) → k.manifest round ≡ Some d → is_manifest_of round d.message.body ≡ true
  pub near : (round : ℕ) → is_some (k.manifest round) ≡ true → round ≤ this_round k + 1
  pub seated : (x : Exchange) → is_some (k.seat x) ≡ true → has_heard_of k (request_kind x.kind) x Initiator ≡ true
  pub seats : (x : Exchange) (seat : ℕ) → k.seat x ≡ Some seat → seat < seats_a_round
  pub cases : (x : Exchange) (t : Terms) → has_said_of k kinds.Case x (role_of me x) ≡ true → terms_of me k x ≡ Some t → CanGive me k x t
  pub theirs : (x : Exchange) (c : Briefcase) → case_heard_of k x (other_role (role_of me x)) ≡ Some c → IsTheirs me k x c

-- for each log that obeys the rules
abbrev pub LogIsSound : Type 0
LogIsSound = (me : Member) (log : Log) → IsObedient me log → IsSound me (known me log)

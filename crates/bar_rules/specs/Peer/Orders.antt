-- What a peer is to send, as orders, and the message of each.
use Rattle.std.specs.Prelude.{ℕ, ◌-◌, List, length, Option, Some, nat_lt, option_and_then}
use Rattle.std.specs.Bool.{then_some}
use Rattle.bar_wire.specs.Bodies.{offer_in}
use Rattle.bar_window.specs.declared.update.UpdateId.{UpdateId}
use Rattle.bar_window.specs.declared.exchange.Exchange.{Exchange}
use Rattle.bar_window.specs.declared.exchange.Role.TheVariants.{Initiator}
use Rattle.bar_window.specs.declared.exchange.XKind.{XKind}
use Rattle.bar_window.specs.declared.exchange.XKind.TheVariants.{Balanced, Push}
use Rattle.bar_window.specs.Terms.{Terms}
use Rattle.bar_terms.specs.Terms.{promised_updates, promised_junk}
use Rattle.bar_wire.specs.Datagram.{Body, Request, Response, Query, Reply, Case, Key}
use Rattle.bar_wire.specs.declared.kind.Kind.TheVariants as kinds
use Rattle.bar_wire.specs.declared.kind.Kind.{Kind}
use Rattle.bar_rules.specs.Member.{Member}
use Rattle.bar_rules.specs.Values.{sealed}
use Rattle.bar_rules.specs.Secrets.{nonce_of, briefcase_key, commitment_of, seed_of}
use Rattle.bar_rules.specs.Peer.Holdings.{history}
use Rattle.bar_rules.specs.Peer.Exchanges.{role_of}
use Rattle.bar_rules.specs.Peer.Knowledge.{Knowledge}
use Rattle.bar_rules.specs.Peer.Terms.{body_on}
use Rattle.bar_rules.specs.Peer.Choices.{young_of, aged_of, wanted_of, given_of}

pub data Order : Type 0 where
  -- REQUEST or QUERY
  Ask : Exchange → Order
  -- RESPONSE or REPLY
  Answer : Exchange → Order
  -- DIVULGE
  Reveal : Exchange → Order
  GiveCase : Exchange → Order
  AskKey : Exchange → Order
  GiveKey : Exchange → Order
  -- the datagram of this kind that was said, again
  Resend : Kind → Exchange → Order
  -- EVIDENCE
  Report : ℕ → Order

-- ---- the message of an order

abbrev pub ask_body : Member → Knowledge → Exchange → XKind → Body
ask_body me k x Balanced =
    Request x.round (seed_of me x.round) (commitment_of me.session x (nonce_of me x) (history me.session k.block x.round))
ask_body me k x Push = Query x.round (seed_of me x.round) (young_of me k x.round) (aged_of me k x.round)

abbrev pub reply_body : Member → Knowledge → ℕ → List UpdateId × List UpdateId → Body
reply_body me k r q =
    Reply r (wanted_of me k q.0) (given_of me k q.0 q.1) (length (wanted_of me k q.0) - length (given_of me k q.0 q.1))

-- a REPLY is said if something is wanted
abbrev pub reply_to : Member → Knowledge → ℕ → List UpdateId × List UpdateId → Option Body
reply_to me k r q = then_some (nat_lt 0 (length (wanted_of me k q.0))) (reply_body me k r q)

abbrev pub answer_body : Member → Knowledge → Exchange → XKind → Option Body
answer_body me k x Balanced = Some (Response x.round (history me.session k.block x.round))
answer_body me k x Push = option_and_then (reply_to me k x.round) (option_and_then offer_in (body_on me k kinds.Query x Initiator))

abbrev pub case_body : Member → Knowledge → Exchange → Terms → Body
case_body me k x terms =
    Case (record {
      round = x.round;
      kind = x.kind;
      role = role_of me x;
      updates = length (promised_updates me.session.cap terms (role_of me x));
      junk = promised_junk terms (role_of me x);
      terms = terms;
      cipher = sealed me.session x terms (role_of me x) (briefcase_key me x (role_of me x)) k.block;
    })

abbrev pub key_body : Member → Exchange → Body
key_body me x = Key (record { round = x.round; kind = x.kind; role = role_of me x; key = briefcase_key me x (role_of me x) })

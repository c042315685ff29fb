-- What a message of an exchange would say, given what is known now.
use Rattle.std.specs.Prelude.{ℕ, List, Option, Some, None, option_map, option_and_then}
use Rattle.bar_wire.specs.Bodies.{history_in, offer_in, reply_in}
use Rattle.bar_window.specs.declared.exchange.Exchange.{Exchange}
use Rattle.bar_window.specs.declared.update.UpdateId.{UpdateId}
use Rattle.bar_window.specs.declared.exchange.Role.TheVariants.{Initiator, Responder}
use Rattle.bar_wire.specs.Datagram.{Datagram, Body, Request, Response, Divulge, Query, Reply, KeyReq}
use Rattle.bar_wire.specs.declared.kind.Kind.TheVariants as kinds
use Rattle.bar_wire.specs.declared.kind.Kind.{Kind}
use Rattle.bar_rules.specs.Member.{Member}
use Rattle.bar_rules.specs.Secrets.{seed_of, commitment_of}
use Rattle.bar_rules.specs.Peer.Exchanges.{role_of}
use Rattle.bar_rules.specs.Peer.Knowledge.{Knowledge}
use Rattle.bar_rules.specs.Peer.Machine.{message_to}
use Rattle.bar_rules.specs.Peer.Orders.{case_body, key_body}
use Rattle.bar_rules.specs.Peer.Signing.{signed}
use Rattle.bar_rules.specs.Peer.Terms.{terms_of, body_on}

-- what the QUERY of an exchange offers and asks for, the history of its RESPONSE, and what its REPLY wants and gives with its junk
abbrev pub offer_of : Member → Knowledge → Exchange → Option (List UpdateId × List UpdateId)
offer_of me k x = option_and_then offer_in (body_on me k kinds.Query x Initiator)

abbrev pub answer_of : Member → Knowledge → Exchange → Option (List UpdateId)
answer_of me k x = option_and_then history_in (body_on me k kinds.Response x Responder)

abbrev pub reply_of : Member → Knowledge → Exchange → Option (List UpdateId × List UpdateId × ℕ)
reply_of me k x = option_and_then reply_in (body_on me k kinds.Reply x Responder)

-- The body of a message from this member's side of an exchange, by what is known now. A REQUEST depends on the nonce and the history that
-- it commits to, a QUERY on what it offers and asks for, and a RESPONSE on the history that it answers with. A REPLY depends on what it
-- wants and gives, and its junk; a CASE on the terms and the blocks that are held now; a KEY on nothing else.
abbrev pub body_again : Member → Knowledge → Kind → Exchange → Option Body
body_again me k kinds.Request x =
    option_map (λ a. Request x.round (seed_of me x.round) (commitment_of me.session x a.0 a.1)) (k.revealed x)
body_again me k kinds.Query x = option_map (λ q. Query x.round (seed_of me x.round) q.0 q.1) (offer_of me k x)
body_again me k kinds.Response x = option_map (λ hb. Response x.round hb) (answer_of me k x)
body_again me k kinds.Reply x = option_map (λ t. Reply x.round t.0 t.1 t.2) (reply_of me k x)
body_again me k kinds.Case x = option_map (case_body me k x) (terms_of me k x)
body_again me k kinds.Key x = Some (key_body me x)
body_again me k _ x = None

-- the datagram of a body to the partner in an exchange, signed according to what is known now
abbrev pub written : Member → Knowledge → Exchange → Option Body → Option Datagram
written me k x body = option_map (λ b. signed me k (message_to me x b)) body

-- the same, extended to unsigned kinds: a DIVULGE with the nonce and the history that are revealed, and a KEYREQ
abbrev pub body_now : Member → Knowledge → Kind → Exchange → Option Body
body_now me k kinds.Divulge x = option_map (λ a. Divulge x.round a.0 a.1) (k.revealed x)
body_now me k kinds.KeyReq x = Some (KeyReq x.round x.kind (role_of me x))
body_now me k kind x = body_again me k kind x

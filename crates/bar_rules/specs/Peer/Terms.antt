-- What a peer knows of an exchange: the terms, and what was promised, received and opened.
use Rattle.std.specs.Prelude.{ℕ, Bool, List, length, Option, Some, None, option_and_then, option_map, if◌then◌else◌}
use Rattle.bar_wire.specs.Bodies.{history_in, offer_in, reply_in}
use Rattle.bar_window.specs.declared.update.UpdateId.{UpdateId}
use Rattle.bar_window.specs.declared.exchange.Exchange.{Exchange}
use Rattle.bar_window.specs.declared.exchange.Role.{Role}
use Rattle.bar_window.specs.declared.exchange.Role.TheVariants.{Initiator, Responder}
use Rattle.bar_window.specs.declared.exchange.XKind.{XKind}
use Rattle.bar_window.specs.declared.exchange.XKind.TheVariants.{Balanced, Push}
use Rattle.bar_window.specs.Exchange.{other_role, same_role}
use Rattle.bar_window.specs.Terms.{Terms}
use Rattle.bar_window.specs.Terms as forms
use Rattle.bar_terms.specs.Terms.{promise}
use Rattle.bar_wire.specs.Datagram.{Datagram, Body, Briefcase}
use Rattle.bar_wire.specs.declared.kind.Kind.TheVariants as kinds
use Rattle.bar_wire.specs.declared.kind.Kind.{Kind}
use Rattle.bar_rules.specs.Member.{Session, Member}
use Rattle.bar_rules.specs.Peer.Exchanges.{role_of}
use Rattle.bar_rules.specs.Peer.Knowledge.{Knowledge, case_heard_of, case_said_of, has_said_of}

-- ---- terms

-- the datagram of a kind from a side of an exchange: what this member said if the side is its own, else what it heard
abbrev pub first_on : Member → Knowledge → Kind → Exchange → Role → Option Datagram
first_on me k kind x role = if same_role (role_of me x) role then k.said kind x role else k.heard kind x role

abbrev pub body_on : Member → Knowledge → Kind → Exchange → Role → Option Body
body_on me k kind x role = option_map (λ d. d.message.body) (first_on me k kind x role)

abbrev pub trade_terms : Option (List ℕ × List UpdateId) → Option (List UpdateId) → Option Terms
trade_terms (Some a) (Some hb) = Some (forms.Balanced a.0 a.1 hb)
trade_terms (Some a) None = None
trade_terms None hb = None

abbrev pub offer_terms : Option (List UpdateId × List UpdateId) → Option (List UpdateId × List UpdateId × ℕ) → Option Terms
offer_terms (Some a) (Some b) = Some (forms.Push a.0 a.1 b.0 b.1 b.2)
offer_terms (Some a) None = None
offer_terms None b = None

-- the terms of an exchange, complete once both sides' parts are said or heard
abbrev pub terms_by : XKind → Member → Knowledge → Exchange → Option Terms
terms_by Balanced me k x = trade_terms (k.revealed x) (option_and_then history_in (body_on me k kinds.Response x Responder))
terms_by Push me k x =
    offer_terms (option_and_then offer_in (body_on me k kinds.Query x Initiator))
    (option_and_then reply_in (body_on me k kinds.Reply x Responder))

abbrev pub terms_of : Member → Knowledge → Exchange → Option Terms
terms_of me k x = terms_by x.kind me k x

-- ---- totals

abbrev pub promise_size : Session → Option Briefcase → ℕ
promise_size s None = 0
promise_size s (Some c) = length (promise s.cap c.terms c.role)

abbrev pub case_said : Member → Knowledge → Exchange → Option Briefcase
case_said me k x = case_said_of k x (role_of me x)

abbrev pub case_heard : Member → Knowledge → Exchange → Option Briefcase
case_heard me k x = case_heard_of k x (other_role (role_of me x))

-- how many items this member promised in an exchange, was promised, and gave a key for; junk counts
pub record Totals : Type 0 where
  pub promised : ℕ
  pub received : ℕ
  pub opened : ℕ

-- the totals, given whether this member's key of the exchange was sent
abbrev pub totals_with : Member → Knowledge → Exchange → Bool → Totals
totals_with me k x key_sent = record {
  promised = promise_size me.session (case_said me k x);
  received = promise_size me.session (case_heard me k x);
  opened = if key_sent then promise_size me.session (case_said me k x) else 0;
}

-- a key is sent if and only if it was signed
abbrev pub totals : Member → Knowledge → Exchange → Totals
totals me k x = totals_with me k x (has_said_of k kinds.Key x (role_of me x))

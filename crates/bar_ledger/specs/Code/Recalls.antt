-- The part of a peer's knowledge that a ledger recalls: what was heard and said in the exchanges that may still be asked about.
use Rattle.std.specs.Prelude.{◌≡◌, ℕ, true, Option, option_and_then, option_map, IfSome}
use Rattle.std.specs.Bool.{then_some}
use Rattle.bar_window.specs.declared.exchange.Exchange.{Exchange}
use Rattle.bar_window.specs.declared.exchange.Role.{Role}
use Rattle.bar_window.specs.declared.exchange.Role.TheVariants.{Initiator, Responder}
use Rattle.bar_window.specs.declared.exchange.XKind.{XKind}
use Rattle.bar_window.specs.declared.exchange.XKind.TheVariants.{Balanced, Push}
use Rattle.bar_window.specs.Terms.{Terms, plain_terms}
use Rattle.bar_window.specs.Terms as forms
use Rattle.bar_wire.specs.Bodies.{history_in, offer_in, reply_in}
use Rattle.bar_wire.specs.declared.kind.Kind.{Kind}
use Rattle.bar_wire.specs.declared.kind.Kind.TheVariants as kinds
use Rattle.bar_wire.specs.Code.Views.{AreTermWindows}
use Rattle.bar_rules.specs.Member.{Member}
use Rattle.bar_rules.specs.Values.{datagram_bytes}
use Rattle.bar_rules.specs.Peer.Agreement.{IsRecent}
use Rattle.bar_rules.specs.Peer.Exchanges.{role_of}
use Rattle.bar_rules.specs.Peer.Knowledge.{Knowledge, this_round, has_said_of}
use Rattle.bar_rules.specs.Peer.Terms.{body_on, terms_of}
use Rattle.bar_ledger.specs.declared.ledger.Ledger.{Ledger}
use Rattle.bar_ledger.specs.Code.Kept.{Kept}
use Rattle.bar_ledger.specs.Code.Lookups.{heard_in, said_in, seat_of, revealed_in, answer_in}
use Rattle.bar_ledger.specs.Code.Lookups as lookups
use Rattle.bar_ledger.specs.Code.Memory.{find_in, asked_in, opens_in}

-- the terms, if both sides' parts are known
abbrev pub complete_terms : Kept → Option Terms
complete_terms kept = then_some kept.entry.complete (plain_terms kept.entry.terms)

abbrev pub terms_in : Ledger → Exchange → Option Terms
terms_in l x = option_and_then complete_terms (find_in l x)

-- the kind of exchange that terms are for
abbrev pub kind_of_terms : Terms → XKind
kind_of_terms (forms.Balanced nonce ha hb) = Balanced
kind_of_terms (forms.Push young aged want give junk) = Push

-- The side of a kept exchange is this peer's, and its terms are of the kind and the round of the exchange. If this peer asked for it, its
-- REQUEST or QUERY is said. If its CASE is said, so is its first message.
pub record IsKeptBy (me : Member) (x : Exchange) (kept : Kept) : Type 0 where
  pub side : kept.entry.role ≡ role_of me x
  pub form : kind_of_terms (plain_terms kept.entry.terms) ≡ x.kind
  pub windows : AreTermWindows me.session.shape x.round kept.entry.terms
  pub asked : kept.entry.role ≡ Initiator → kept.entry.first_said ≡ true
  pub opened : kept.entry.case_said ≡ true → kept.entry.first_said ≡ true

pub record Recalls (me : Member) (k : Knowledge) (l : Ledger) : Type 0 where
  pub party : l.me ≡ me.party
  pub cap : l.cap ≡ me.session.cap
  pub shape : l.shape ≡ me.session.shape
  pub round : l.round ≡ this_round k
  pub heard : (kind : Kind) (x : Exchange) (role : Role) → IsRecent me k x.round →
      option_map (datagram_bytes me.session) (k.heard kind x role) ≡ heard_in l kind x role
  pub said : (kind : Kind) (x : Exchange) (role : Role) → IsRecent me k x.round → has_said_of k kind x role ≡ said_in l kind x role
  pub seats : (x : Exchange) → IsRecent me k x.round → k.seat x ≡ seat_of l x
  pub asked : (kind : XKind) (round : ℕ) → IsRecent me k round → k.asked kind round ≡ asked_in l kind round
  pub revealed : (x : Exchange) → IsRecent me k x.round → k.revealed x ≡ revealed_in l x
  pub answers : (x : Exchange) → IsRecent me k x.round →
      option_and_then history_in (body_on me k kinds.Response x Responder) ≡ answer_in l x
  pub offers : (x : Exchange) → IsRecent me k x.round →
      option_and_then offer_in (body_on me k kinds.Query x Initiator) ≡ lookups.offer_in l x
  pub replies : (x : Exchange) → IsRecent me k x.round →
      option_and_then reply_in (body_on me k kinds.Reply x Responder) ≡ lookups.reply_in l x
  pub terms : (x : Exchange) → IsRecent me k x.round → terms_of me k x ≡ terms_in l x
  pub kept : (x : Exchange) → IfSome (find_in l x) (IsKeptBy me x)
  pub opens : k.opens ≡ opens_in l

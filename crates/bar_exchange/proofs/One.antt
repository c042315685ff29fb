-- What a ledger recalls of one exchange, from its kept state.
use Rattle.std.proofs.Common.{◌≡◌, ℕ, Option}
use Rattle.std.specs.Prelude.{false, option_and_then, option_map, IfSome}
use Rattle.std.specs.Option.{option_map_or}
use Rattle.bar_window.specs.declared.exchange.Exchange.{Exchange}
use Rattle.bar_window.specs.declared.exchange.Role.{Role}
use Rattle.bar_window.specs.declared.exchange.Role.TheVariants.{Initiator, Responder}
use Rattle.bar_window.specs.declared.exchange.XKind.{XKind}
use Rattle.bar_wire.specs.Bodies.{history_in, offer_in, reply_in}
use Rattle.bar_wire.specs.declared.kind.Kind.{Kind}
use Rattle.bar_wire.specs.declared.kind.Kind.TheVariants as kinds
use Rattle.bar_rules.specs.Member.{Member}
use Rattle.bar_rules.specs.Values.{datagram_bytes}
use Rattle.bar_rules.specs.Peer.Agreement.{IsRecent}
use Rattle.bar_rules.specs.Peer.Knowledge.{Knowledge, this_round, has_said_of}
use Rattle.bar_rules.specs.Peer.Terms.{body_on, terms_of}
use Rattle.bar_ledger.specs.declared.ledger.Ledger.{Ledger}
use Rattle.bar_ledger.specs.Code.Kept.{Kept}
use Rattle.bar_ledger.specs.Code.Lookups.{heard_by, said_by, seat_by, knows_commit, knows_answer, knows_offer, if_known, commit_of, history_of, offer_of, reply_of}
use Rattle.bar_ledger.specs.Code.Memory.{find_in, asked_in, opens_in}
use Rattle.bar_ledger.specs.Code.Recalls.{Recalls, IsKeptBy, complete_terms}

pub record RecallsOne (me : Member) (k : Knowledge) (x : Exchange) (o : Option Kept) : Type 0 where
  pub heard : (kind : Kind) (role : Role) → option_map (datagram_bytes me.session) (k.heard kind x role) ≡ option_and_then (heard_by kind role) o
  pub said : (kind : Kind) (role : Role) → has_said_of k kind x role ≡ option_map_or (said_by kind role) o false
  pub seats : k.seat x ≡ option_and_then (λ kept. seat_by kept.entry.role kept.entry.seat) o
  pub revealed : k.revealed x ≡ option_and_then (λ kept. if_known (knows_commit kept.entry.role kept) commit_of kept) o
  pub answers :
      option_and_then history_in (body_on me k kinds.Response x Responder)
      ≡ option_and_then (λ kept. if_known (knows_answer kept.entry.role kept) history_of kept) o
  pub offers :
      option_and_then offer_in (body_on me k kinds.Query x Initiator)
      ≡ option_and_then (λ kept. if_known (knows_offer kept.entry.role kept) offer_of kept) o
  pub replies :
      option_and_then reply_in (body_on me k kinds.Reply x Responder)
      ≡ option_and_then (λ kept. if_known (knows_answer kept.entry.role kept) reply_of kept) o
  pub terms : terms_of me k x ≡ option_and_then complete_terms o

-- what is recalled of one exchange
pub one_of : (me : Member) (k : Knowledge) (l : Ledger) → Recalls me k l → (x : Exchange) → IsRecent me k x.round
    → RecallsOne me k x (find_in l x)
one_of me k l h x recent = record {
  heard = λ kind role. h.heard kind x role recent;
  said = λ kind role. h.said kind x role recent;
  seats = h.seats x recent;
  revealed = h.revealed x recent;
  answers = h.answers x recent;
  offers = h.offers x recent;
  replies = h.replies x recent;
  terms = h.terms x recent;
}

-- The numbers, the counts and the open exchanges are those of the knowledge.
pub record RecallsRest (me : Member) (k : Knowledge) (l : Ledger) : Type 0 where
  pub party : l.me ≡ me.party
  pub cap : l.cap ≡ me.session.cap
  pub shape : l.shape ≡ me.session.shape
  pub round : l.round ≡ this_round k
  pub asked : (kind : XKind) (round : ℕ) → IsRecent me k round → k.asked kind round ≡ asked_in l kind round
  pub kept : (x : Exchange) → IfSome (find_in l x) (IsKeptBy me x)
  pub opens : k.opens ≡ opens_in l

pub all_of : (me : Member) (k : Knowledge) (l : Ledger) → RecallsRest me k l
    → ((x : Exchange) → IsRecent me k x.round → RecallsOne me k x (find_in l x)) → Recalls me k l
all_of me k l rest each = record {
  party = rest.party;
  cap = rest.cap;
  shape = rest.shape;
  round = rest.round;
  heard = λ kind x role recent. (each x recent).heard kind role;
  said = λ kind x role recent. (each x recent).said kind role;
  seats = λ x recent. (each x recent).seats;
  asked = rest.asked;
  revealed = λ x recent. (each x recent).revealed;
  answers = λ x recent. (each x recent).answers;
  offers = λ x recent. (each x recent).offers;
  replies = λ x recent. (each x recent).replies;
  terms = λ x recent. (each x recent).terms;
  kept = rest.kept;
  opens = rest.opens;
}

-- After a RESPONSE is heard, the terms are complete.
use Rattle.std.proofs.Common.{◌≡◌, ◌∙◌, ℕ, true, false, List, Some, is_some, refl, sym, ap}
use Rattle.std.specs.Prelude.{option_map, option_and_then}
use Rattle.bar_window.specs.declared.exchange.Exchange.{Exchange}
use Rattle.bar_window.specs.declared.exchange.Role.{Role}
use Rattle.bar_window.specs.declared.exchange.Role.TheVariants.{Initiator, Responder}
use Rattle.bar_window.specs.declared.exchange.XKind.TheVariants.{Balanced}
use Rattle.bar_window.specs.declared.terms.Terms.TheVariants as raw
use Rattle.bar_window.specs.declared.window.Window.{Window}
use Rattle.bar_window.specs.Code.Window.{members}
use Rattle.bar_wire.specs.Bodies.{history_in, offer_in, reply_in}
use Rattle.bar_wire.specs.Datagram.{Datagram, Response, is_of}
use Rattle.bar_wire.specs.declared.kind.Kind.{Kind}
use Rattle.bar_wire.specs.declared.kind.Kind.TheVariants as kinds
use Rattle.bar_rules.specs.Member.{Member}
use Rattle.bar_rules.specs.Values.{datagram_bytes}
use Rattle.bar_rules.specs.Peer.Exchanges.{role_of}
use Rattle.bar_rules.specs.Peer.Knowledge.{Knowledge}
use Rattle.bar_rules.specs.Peer.Terms.{body_on, terms_by, trade_terms}
use Rattle.bar_ledger.specs.Code.Hearing.{same_datagram}
use Rattle.bar_ledger.specs.Code.Kept.{Kept}
use Rattle.bar_exchange.specs.Code.Parts.{with_heard_part}
use Rattle.bar_exchange.proofs.Hearing.{HearsFirst, hears_first}
use Rattle.bar_exchange.proofs.Learned.{AddsHeard}
use Rattle.bar_exchange.proofs.One.{RecallsOne}
use Rattle.bar_exchange.proofs.PartKept.{part_said, none_either}
use Rattle.bar_exchange.proofs.Places.{first_one, not_of_kind, is_of_itself}
use Rattle.bar_exchange.proofs.Same.{body_same, other_body}
use Rattle.bar_bytes.proofs.Options.{or-untold}

-- the kept state of the initiator of a balanced exchange, after it said its REQUEST
abbrev pub of_initiator : List ℕ → Window → Window → Kept → Kept
of_initiator nonce ha hb kept = record kept { entry = record kept.entry { role = Initiator; first_said = true; terms = raw.Balanced nonce ha hb } }

pub response_one : (me : Member) (k new : Knowledge) (d : Datagram) (x : Exchange) (bytes : List ℕ) (nonce : List ℕ) (ha before hb : Window) (r : ℕ) (kept : Kept)
    → AddsHeard k new d → d.message.body ≡ Response r (members hb) → role_of me x ≡ Initiator → x.kind ≡ Balanced
    → HearsFirst me.session k.heard d x Responder kinds.Response bytes (of_initiator nonce ha before kept) (with_heard_part kinds.Response bytes (raw.Balanced nonce ha hb) true (of_initiator nonce ha before kept))
    → RecallsOne me k x (Some (of_initiator nonce ha before kept))
    → RecallsOne me new x (Some (with_heard_part kinds.Response bytes (raw.Balanced nonce ha hb) true (of_initiator nonce ha before kept)))
response_one me k new d x bytes nonce ha before hb r kept a body mine kind first h = record {
  heard = λ other role. ap (option_map (datagram_bytes me.session)) (a.heard other x role) ∙ hears_first me.session k.heard d x Responder kinds.Response bytes old after first other role;
  said = λ other role. ap (λ o. is_some o) (a.said other x role) ∙ h.said other role ∙ sym (part_said kinds.Response bytes (raw.Balanced nonce ha hb) true old other role);
  seats = a.seats x ∙ h.seats;
  revealed = a.revealed x ∙ h.revealed;
  answers = answer;
  offers = ap (option_and_then offer_in) (stays kinds.Query Initiator refl) ∙ h.offers;
  replies = ap (option_and_then reply_in) (stays kinds.Reply Responder refl) ∙ h.replies ∙ none_either (is_some kept.first);
  terms = (λ i. terms_by (kind i) me new x) ∙ (λ i. trade_terms ((a.revealed x ∙ h.revealed) i) (answer i));
}
  where
    old : Kept
    old = of_initiator nonce ha before kept

    after : Kept
    after = with_heard_part kinds.Response bytes (raw.Balanced nonce ha hb) true (of_initiator nonce ha before kept)

    answer : option_and_then history_in (body_on me new kinds.Response x Responder) ≡ Some (members hb)
    answer =
        ap (option_and_then history_in) (other_body me new kinds.Response x Responder mine)
        ∙ ap (λ o. option_and_then history_in (option_map (λ (d : Datagram). d.message.body) o))
        (a.heard kinds.Response x Responder
        ∙ first_one (k.heard kinds.Response x Responder) (is_of kinds.Response x Responder d.message) d first.none
        (is_of_itself d.message x Responder first.at kinds.Response (ap (λ kind. same_datagram kind kinds.Response) first.kind_is)))
        ∙ ap history_in body

    stays : (other : Kind) (role : Role) → same_datagram kinds.Response other ≡ false → body_on me new other x role ≡ body_on me k other x role
    stays other role apart =
        body_same me k new other x role (a.said other x role)
        (a.heard other x role ∙ or-untold (k.heard other x role) (is_of other x role d.message) d (not_of_kind d.message other (ap (λ kind. same_datagram kind other) first.kind_is ∙ apart) x role))

-- What is unchanged of an exchange if the knowledge of it is.
use Rattle.std.proofs.Common.{◌≡◌, ◌∙◌, false, Option, refl, ap}
use Rattle.std.specs.Prelude.{option_map, option_and_then, is_some, if◌then◌else◌}
use Rattle.bar_window.specs.declared.exchange.Exchange.{Exchange}
use Rattle.bar_window.specs.declared.exchange.Role.{Role}
use Rattle.bar_window.specs.declared.exchange.Role.TheVariants.{Initiator, Responder}
use Rattle.bar_window.specs.declared.exchange.XKind.{XKind}
use Rattle.bar_window.specs.declared.exchange.XKind.TheVariants.{Balanced, Push}
use Rattle.bar_window.specs.Exchange.{same_role, other_role}
use Rattle.bar_window.proofs.Exchanges.{same_role_refl}
use Rattle.bar_wire.specs.Bodies.{history_in, offer_in, reply_in}
use Rattle.bar_wire.specs.Datagram.{Datagram}
use Rattle.bar_wire.specs.declared.kind.Kind.{Kind}
use Rattle.bar_wire.specs.declared.kind.Kind.TheVariants as kinds
use Rattle.bar_rules.specs.Member.{Member}
use Rattle.bar_rules.specs.Values.{datagram_bytes}
use Rattle.bar_rules.specs.Peer.Exchanges.{role_of}
use Rattle.bar_rules.specs.Peer.Knowledge.{Knowledge}
use Rattle.bar_rules.specs.Peer.Terms.{body_on, terms_by, trade_terms, offer_terms}
use Rattle.bar_ledger.specs.Code.Kept.{Kept}
use Rattle.bar_exchange.proofs.One.{RecallsOne}

-- if the same was said and heard of a kind, the body is the same
pub body_same : (me : Member) (k new : Knowledge) (kind : Kind) (x : Exchange) (role : Role) → new.said kind x role ≡ k.said kind x role → new.heard kind x role ≡ k.heard kind x role
    → body_on me new kind x role ≡ body_on me k kind x role
body_same me k new kind x role said heard =
    λ i. option_map (λ (d : Datagram). d.message.body) (if same_role (role_of me x) role then said i else heard i)

-- on its own side a member knows the body that it said, and on the other side the one that it heard
pub own_body : (me : Member) (k : Knowledge) (kind : Kind) (x : Exchange) (role : Role) → role_of me x ≡ role → body_on me k kind x role ≡ option_map (λ (d : Datagram). d.message.body) (k.said kind x role)
own_body me k kind x role mine =
    λ i. option_map (λ (d : Datagram). d.message.body) (if (ap (λ r. same_role r role) mine ∙ same_role_refl role) i then k.said kind x role else k.heard kind x role)

pub other_body : (me : Member) (k : Knowledge) (kind : Kind) (x : Exchange) (role : Role) → role_of me x ≡ other_role role → body_on me k kind x role ≡ option_map (λ (d : Datagram). d.message.body) (k.heard kind x role)
other_body me k kind x role mine =
    λ i. option_map (λ (d : Datagram). d.message.body) (if (ap (λ r. same_role r role) mine ∙ apart role) i then k.said kind x role else k.heard kind x role)
  where
    apart : (r : Role) → same_role (other_role r) r ≡ false
    apart Initiator = refl
    apart Responder = refl

-- The knowledge of the exchange is the same.
pub record SameOne (k new : Knowledge) (x : Exchange) : Type 0 where
  pub heard : (kind : Kind) (role : Role) → new.heard kind x role ≡ k.heard kind x role
  pub said : (kind : Kind) (role : Role) → new.said kind x role ≡ k.said kind x role
  pub seats : new.seat x ≡ k.seat x
  pub revealed : new.revealed x ≡ k.revealed x

pub body_one : (me : Member) (k new : Knowledge) (x : Exchange) → SameOne k new x → (kind : Kind) (role : Role) → body_on me new kind x role ≡ body_on me k kind x role
body_one me k new x s kind role = body_same me k new kind x role (s.said kind role) (s.heard kind role)

-- The knowledge of the parts of the terms is the same.
pub record SameParts (me : Member) (k new : Knowledge) (x : Exchange) : Type 0 where
  pub revealed : new.revealed x ≡ k.revealed x
  pub answers : body_on me new kinds.Response x Responder ≡ body_on me k kinds.Response x Responder
  pub offers : body_on me new kinds.Query x Initiator ≡ body_on me k kinds.Query x Initiator
  pub replies : body_on me new kinds.Reply x Responder ≡ body_on me k kinds.Reply x Responder

pub terms_same : (me : Member) (k new : Knowledge) (x : Exchange) → SameParts me k new x → (kind : XKind) → terms_by kind me new x ≡ terms_by kind me k x
terms_same me k new x s Balanced = λ i. trade_terms (s.revealed i) (option_and_then history_in (s.answers i))
terms_same me k new x s Push = λ i. offer_terms (option_and_then offer_in (s.offers i)) (option_and_then reply_in (s.replies i))

pub same_one : (me : Member) (k new : Knowledge) (x : Exchange) (o : Option Kept) → SameOne k new x → RecallsOne me k x o → RecallsOne me new x o
same_one me k new x o s h = record {
  heard = λ kind role. ap (option_map (datagram_bytes me.session)) (s.heard kind role) ∙ h.heard kind role;
  said = λ kind role. ap (λ o. is_some o) (s.said kind role) ∙ h.said kind role;
  seats = s.seats ∙ h.seats;
  revealed = s.revealed ∙ h.revealed;
  answers = ap (option_and_then history_in) (body_one me k new x s kinds.Response Responder) ∙ h.answers;
  offers = ap (option_and_then offer_in) (body_one me k new x s kinds.Query Initiator) ∙ h.offers;
  replies = ap (option_and_then reply_in) (body_one me k new x s kinds.Reply Responder) ∙ h.replies;
  terms = terms_same me k new x
      (record {
        revealed = s.revealed;
        answers = body_one me k new x s kinds.Response Responder;
        offers = body_one me k new x s kinds.Query Initiator;
        replies = body_one me k new x s kinds.Reply Responder;
      }) x.kind ∙ h.terms;
}

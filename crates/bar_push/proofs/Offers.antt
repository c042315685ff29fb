-- The offer of this peer in a push.
use Rattle.std.proofs.Common.{◌≡◌, ◌∙◌, true, false, Option, Some, None, is_some, refl, sym, ap, subst}
use Rattle.std.proofs.lemmas.Bool.{and_parts, false≢true}
use Rattle.std.specs.Prelude.{option_map, option_and_then, IfSome, if◌then◌else◌}
use Rattle.std.specs.Option.{option_map_or}
use Rattle.bar_window.specs.declared.exchange.Exchange.{Exchange}
use Rattle.bar_window.specs.declared.exchange.Role.{Role}
use Rattle.bar_window.specs.declared.exchange.Role.TheVariants.{Initiator, Responder}
use Rattle.bar_window.specs.Exchange.{same_role}
use Rattle.bar_window.specs.Terms.{plain_terms}
use Rattle.bar_wire.specs.Bodies.{offer_in}
use Rattle.bar_wire.specs.Datagram.{Datagram}
use Rattle.bar_wire.specs.declared.kind.Kind.TheVariants as kinds
use Rattle.bar_wire.specs.Code.Views.{AreTermWindows}
use Rattle.bar_rules.specs.Member.{Member}
use Rattle.bar_rules.specs.Peer.Admission.{body_said}
use Rattle.bar_rules.specs.Peer.Agreement.{IsRecent}
use Rattle.bar_rules.specs.Peer.Exchanges.{role_of}
use Rattle.bar_rules.specs.Peer.Knowledge.{Knowledge}
use Rattle.bar_rules.specs.Peer.Terms.{body_on}
use Rattle.bar_ledger.specs.declared.entry.Entry.{Entry}
use Rattle.bar_ledger.specs.declared.ledger.Ledger.{Ledger}
use Rattle.bar_ledger.specs.Code.Kept.{Kept}
use Rattle.bar_ledger.specs.Code.Lookups.{said_by, said_in, knows_offer, if_known, offer_of}
use Rattle.bar_ledger.specs.Code.Memory.{find_in}
use Rattle.bar_ledger.specs.Code.Recalls.{Recalls, IsKeptBy}

is_initiator : (role : Role) → same_role Initiator role ≡ true → role ≡ Initiator
is_initiator Initiator h = refl
is_initiator Responder h = absurd (false≢true h)

-- the offer in the entry of an exchange whose QUERY is said
pub record IsOffer (me : Member) (k : Knowledge) (x : Exchange) (e : Entry) : Type 0 where
  pub windows : AreTermWindows me.session.shape x.round e.terms
  pub offer : option_and_then offer_in (body_said k kinds.Query x Initiator) ≡ offer_of (plain_terms e.terms)

pub offer_is : (me : Member) (k : Knowledge) (l : Ledger) (x : Exchange) (e : Entry) → Recalls me k l → IsRecent me k x.round
    → Some e ≡ option_map (λ kept. kept.entry) (find_in l x) → said_in l kinds.Query x Initiator ≡ true → IsOffer me k x e
offer_is me k l x e h recent same said = go (find_in l x) same said (h.kept x) (h.offers x recent)
  where
    go : (o : Option Kept) → Some e ≡ option_map (λ kept. kept.entry) o → option_map_or (said_by kinds.Query Initiator) o false ≡ true
        → IfSome o (IsKeptBy me x)
        → option_and_then offer_in (body_on me k kinds.Query x Initiator) ≡ option_and_then (λ kept. if_known (knows_offer kept.entry.role kept) offer_of kept) o
        → IsOffer me k x e
    go None s said own offer = absurd (false≢true said)
    go (Some kept) s said own offer =
        let is : kept.entry ≡ e = cc in
        let both = and_parts _ _ said in
        let role : kept.entry.role ≡ Initiator = is_initiator kept.entry.role both.0 in
        let first : kept.entry.first_said ≡ true = (and_parts _ _ both.1).1 in
        let mine : role_of me x ≡ Initiator = sym own.side ∙ role in
        record {
          windows = subst (λ (e : Entry). AreTermWindows me.session.shape x.round e.terms) is own.windows;
          offer =
              ap (λ (role : Role). option_and_then offer_in (option_map (λ (d : Datagram). d.message.body) (if same_role role Initiator then k.said kinds.Query x Initiator else k.heard kinds.Query x Initiator))) (sym mine)
              ∙ offer
              ∙ ap (λ (role : Role). if_known (knows_offer role kept) offer_of kept) role
              ∙ ap (λ b. if b then offer_of (plain_terms kept.entry.terms) else None) first
              ∙ ap (λ (e : Entry). offer_of (plain_terms e.terms)) is;
        }

-- if no QUERY is said, nothing is offered
pub no_offer : (k : Knowledge) (x : Exchange) → is_some (k.said kinds.Query x Initiator) ≡ false
    → option_and_then offer_in (body_said k kinds.Query x Initiator) ≡ None
no_offer k x h = go (k.said kinds.Query x Initiator) h
  where
    go : (o : Option Datagram) → is_some o ≡ false → option_and_then offer_in (option_map (λ d. d.message.body) o) ≡ None
    go None h = refl
    go (Some d) h = absurd (false≢true (sym h))

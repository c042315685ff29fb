-- After a REPLY is heard, the terms are complete.
use Rattle.std.proofs.Common.{◌≡◌, ◌+◌, ◌∙◌, ℕ, Bool, true, false, List, Option, Some, None, is_some, refl, sym, ap, subst}
use Rattle.std.specs.Prelude.{nat_le, option_map, option_and_then}
use Rattle.std.specs.Option.{option_map_or}
use Rattle.std.proofs.lemmas.Bool.{and_parts}
use Rattle.std.proofs.lemmas.Option.{same_Some}
use Rattle.bar_window.specs.declared.update.UpdateId.{UpdateId}
use Rattle.bar_window.specs.declared.exchange.Exchange.{Exchange}
use Rattle.bar_window.specs.declared.exchange.Role.{Role}
use Rattle.bar_window.specs.declared.exchange.Role.TheVariants.{Initiator, Responder}
use Rattle.bar_window.specs.declared.exchange.XKind.TheVariants.{Balanced, Push}
use Rattle.bar_window.specs.declared.terms.Terms.TheVariants as raw
use Rattle.bar_window.specs.declared.window.Window.{Window}
use Rattle.bar_window.specs.Terms.{Terms, plain_terms}
use Rattle.bar_window.specs.Code.Window.{members}
use Rattle.bar_wire.specs.Bodies.{history_in, offer_in, reply_in}
use Rattle.bar_wire.specs.Datagram.{Datagram, Reply, Place, place_by, part_of, kind_of, is_of}
use Rattle.bar_wire.specs.declared.kind.Kind.{Kind}
use Rattle.bar_wire.specs.declared.kind.Kind.TheVariants as kinds
use Rattle.bar_wire.specs.Code.Views.{AreTermWindows, IsWindowIn}
use Rattle.bar_rules.specs.Member.{Member}
use Rattle.bar_rules.specs.Values.{datagram_bytes}
use Rattle.bar_rules.specs.Peer.Admission.{is_row_met, terms_with}
use Rattle.bar_rules.specs.Peer.Exchanges.{role_of}
use Rattle.bar_rules.specs.Peer.Knowledge.{Knowledge, this_round, has_said_of, with_heard}
use Rattle.bar_rules.specs.Peer.Terms.{body_on, terms_by, offer_terms}
use Rattle.bar_ledger.specs.declared.entry.Entry.{Entry}
use Rattle.bar_ledger.specs.declared.ledger.Ledger.{Ledger}
use Rattle.bar_ledger.specs.Code.Hearing.{same_datagram, hears}
use Rattle.bar_ledger.specs.Code.Kept.{Kept}
use Rattle.bar_ledger.specs.Code.Memory.{MayHear, find_in}
use Rattle.bar_ledger.specs.Code.Recalls.{Recalls, kind_of_terms}
use Rattle.bar_exchange.specs.Code.Keeping.{MayKeep}
use Rattle.bar_exchange.specs.Code.Parts.{ChangesKept, with_heard_part}
use Rattle.bar_exchange.proofs.Admitted.{IsAdmittedOf, admitted_at}
use Rattle.bar_exchange.proofs.Hearing.{HearsFirst, hears_first, first_of}
use Rattle.bar_exchange.proofs.KeptChanges.{IsThere, there, said_kept, may_hear_at, recalls_kept}
use Rattle.bar_exchange.proofs.Later.{later_others}
use Rattle.bar_exchange.proofs.Learned.{AddsHeard, adds_heard, only_heard}
use Rattle.bar_exchange.proofs.One.{RecallsOne}
use Rattle.bar_exchange.proofs.PartKept.{keeps_part, part_by, part_said, entry_is, is_near, none_either}
use Rattle.bar_exchange.proofs.Places.{IsAt, first_one, not_of_kind, is_of_itself}
use Rattle.bar_exchange.proofs.Same.{body_same, other_body}
use Rattle.bar_bytes.proofs.Options.{or-untold}

-- the kept state of the initiator of a push, after it said its QUERY
abbrev pub of_initiator : Window → Window → Window → Window → ℕ → Kept → Kept
of_initiator young aged want give junk kept = record kept { entry = record kept.entry { role = Initiator; first_said = true; terms = raw.Push young aged want give junk } }

pub reply_one : (me : Member) (k new : Knowledge) (d : Datagram) (x : Exchange) (bytes : List ℕ) (young aged old_want old_give want give : Window) (old_junk junk r : ℕ) (kept : Kept)
    → AddsHeard k new d → d.message.body ≡ Reply r (members want) (members give) junk → role_of me x ≡ Initiator → x.kind ≡ Push
    → HearsFirst me.session k.heard d x Responder kinds.Reply bytes (of_initiator young aged old_want old_give old_junk kept)
    (with_heard_part kinds.Reply bytes (raw.Push young aged want give junk) true (of_initiator young aged old_want old_give old_junk kept))
    → RecallsOne me k x (Some (of_initiator young aged old_want old_give old_junk kept))
    → RecallsOne me new x (Some (with_heard_part kinds.Reply bytes (raw.Push young aged want give junk) true (of_initiator young aged old_want old_give old_junk kept)))
reply_one me k new d x bytes young aged old_want old_give want give old_junk junk r kept a body mine kind first h = record {
  heard = λ other role. ap (option_map (datagram_bytes me.session)) (a.heard other x role) ∙ hears_first me.session k.heard d x Responder kinds.Reply bytes old after first other role;
  said = λ other role. ap (λ o. is_some o) (a.said other x role) ∙ h.said other role ∙ sym (part_said kinds.Reply bytes (raw.Push young aged want give junk) true old other role);
  seats = a.seats x ∙ h.seats;
  revealed = a.revealed x ∙ h.revealed;
  answers = ap (option_and_then history_in) (stays kinds.Response Responder refl) ∙ h.answers ∙ none_either (is_some kept.first);
  offers = ap (option_and_then offer_in) (stays kinds.Query Initiator refl) ∙ h.offers;
  replies = answer;
  terms =
      (λ i. terms_by (kind i) me new x)
      ∙ (λ i. offer_terms ((ap (option_and_then offer_in) (stays kinds.Query Initiator refl) ∙ h.offers) i) (answer i));
}
  where
    old : Kept
    old = of_initiator young aged old_want old_give old_junk kept

    after : Kept
    after = with_heard_part kinds.Reply bytes (raw.Push young aged want give junk) true (of_initiator young aged old_want old_give old_junk kept)

    answer : option_and_then reply_in (body_on me new kinds.Reply x Responder) ≡ Some (members want, members give, junk)
    answer =
        ap (option_and_then reply_in) (other_body me new kinds.Reply x Responder mine)
        ∙ ap (λ o. option_and_then reply_in (option_map (λ (d : Datagram). d.message.body) o))
        (a.heard kinds.Reply x Responder
        ∙ first_one (k.heard kinds.Reply x Responder) (is_of kinds.Reply x Responder d.message) d first.none
        (is_of_itself d.message x Responder first.at kinds.Reply (ap (λ kind. same_datagram kind kinds.Reply) first.kind_is)))
        ∙ ap reply_in body

    stays : (other : Kind) (role : Role) → same_datagram kinds.Reply other ≡ false → body_on me new other x role ≡ body_on me k other x role
    stays other role apart =
        body_same me k new other x role (a.said other x role)
        (a.heard other x role ∙ or-untold (k.heard other x role) (is_of other x role d.message) d (not_of_kind d.message other (ap (λ kind. same_datagram kind other) first.kind_is ∙ apart) x role))

-- The admitted REPLY is of a push that is kept.
pub record IsOfKept (me : Member) (k : Knowledge) (l : Ledger) (d : Datagram) (x : Exchange) : Type 0 where
  pub kind_is : x.kind ≡ Push
  pub of : IsAdmittedOf me k d x Responder
  pub kept : Kept
  pub at : IsThere me k l x kept

offered : (f : Terms → Bool) (o : Option Datagram) (want give : List UpdateId) (junk : ℕ)
    → option_map_or f (terms_with (option_and_then offer_in (option_map (λ (d : Datagram). d.message.body) o)) want give junk) false ≡ true → is_some o ≡ true
offered f None want give junk e = e
offered f (Some d) want give junk e = refl

reply_row : (me : Member) (k : Knowledge) (from to : ℕ) (x : Exchange) (r : ℕ) (want give : List UpdateId) (junk : ℕ)
    → option_map (place_by from to) (part_of (Reply r want give junk)) ≡ Some (record { exchange = x; role = Responder }) → is_row_met me k from to (Reply r want give junk) ≡ true
    → (x.kind ≡ Push) × (has_said_of k kinds.Query x Initiator ≡ true) × (nat_le (this_round k) (x.round + 2) ≡ true)
reply_row me k from to x r want give junk at row =
    let is = ap (λ (p : Place). p.exchange) (sym (same_Some _ _ at)) in (
      ap (λ (x : Exchange). x.kind) is,
      ap (λ (x : Exchange). has_said_of k kinds.Query x Initiator) is ∙ offered _ _ want give junk (and_parts _ _ row).0,
      ap (λ (x : Exchange). nat_le (this_round k) (x.round + 2)) is ∙ (and_parts _ _ row).1,
    )

pub reply_of : (me : Member) (k : Knowledge) (l : Ledger) (d : Datagram) (bytes : List ℕ) (x : Exchange) (r : ℕ) (want give : List UpdateId) (junk : ℕ) → MayKeep me k l d bytes
    → d.message.body ≡ Reply r want give junk → IsAt d.message x Responder → IsOfKept me k l d x
reply_of me k l d bytes x r want give junk m body at =
    let of = admitted_at me k d bytes x Responder m.now at in
    let row = reply_row me k d.message.from d.message.to x r want give junk (ap (λ b. option_map (place_by d.message.from d.message.to) (part_of b)) (sym body) ∙ at)
    (ap (is_row_met me k d.message.from d.message.to) (sym body) ∙ of.row) in
    let found = there me k l x m.recalled (said_kept me k l x kinds.Query Initiator m.recalled (is_near me k x m.member.session.shape.life_low row.2) row.1) in
    record { kind_is = row.0; of = of; kept = found.0; at = found.1 }

-- the terms of its entry are those of a push
pub no_trade : (me : Member) (k : Knowledge) (l : Ledger) (d : Datagram) (x : Exchange) (e : Entry) (nonce : List ℕ) (ha hb : Window) → IsOfKept me k l d x
    → Some e ≡ option_map (λ (k : Kept). k.entry) (find_in l x) → e.terms ≡ raw.Balanced nonce ha hb → ⊥
no_trade me k l d x e nonce ha hb o entry terms =
    let trade : Balanced ≡ Push =
    ap (λ t. kind_of_terms (plain_terms t)) (sym (ap (λ (e : Entry). e.terms) (entry_is l x e o.kept entry o.at.found) ∙ terms)) ∙ o.at.by.form ∙ o.kind_is
    in
    cc

pub reply_learned : (me : Member) (k : Knowledge) (l new : Ledger) (d : Datagram) (bytes : List ℕ) (x : Exchange) (r : ℕ) (young aged old_want old_give want give : Window) (old_junk junk : ℕ) (e : Entry)
    → MayKeep me k l d bytes → d.message.body ≡ Reply r (members want) (members give) junk → IsAt d.message x Responder
    → IsWindowIn me.session.shape x.round want → IsWindowIn me.session.shape x.round give
    → Some e ≡ option_map (λ (k : Kept). k.entry) (find_in l x) → e.terms ≡ raw.Push young aged old_want old_give old_junk
    → (MayHear l x kinds.Reply bytes → ChangesKept l new x (with_heard_part kinds.Reply bytes (raw.Push young aged want give junk) true))
    → Recalls me (with_heard me d k) new
reply_learned me k l new d bytes x r young aged old_want old_give want give old_junk junk e m body place wants gives entry terms changes =
    let o = reply_of me k l d bytes x r (members want) (members give) junk m body place in
    let kept : Kept = o.kept in
    let is : kinds.Reply ≡ kind_of d.message.body = ap kind_of (sym body) in
    let role : kept.entry.role ≡ Initiator = o.at.by.side ∙ o.of.mine in
    let terms_are : kept.entry.terms ≡ raw.Push young aged old_want old_give old_junk = ap (λ (e : Entry). e.terms) (entry_is l x e kept entry o.at.found) ∙ terms in
    let as_known : kept ≡ of_initiator young aged old_want old_give old_junk kept =
    λ i. record kept { entry = record kept.entry { role = role i; first_said = o.at.by.asked role i; terms = terms_are i } }
    in
    let only : only_heard d.message.body ≡ true = ap only_heard body in
    let may = may_hear_at me k l d bytes x Responder kinds.Reply kept m.recalled m.now o.of is o.at (ap (λ kind. hears kinds.Reply kind Initiator) o.kind_is) in
    let first = first_of me k l d bytes x Responder kinds.Reply kept (with_heard_part kinds.Reply bytes (raw.Push young aged want give junk) true kept) m.now o.of is o.at
    (keeps_part l x kinds.Reply bytes (raw.Push young aged want give junk) true kept may o.at.found) in
    let windows : AreTermWindows me.session.shape x.round (raw.Push young aged old_want old_give old_junk) = subst (AreTermWindows me.session.shape x.round) terms_are o.at.by.windows in
    recalls_kept me k (with_heard me d k) l new x (with_heard_part kinds.Reply bytes (raw.Push young aged want give junk) true) kept m.recalled (changes may) (later_others me k d x Responder place only) o.at
    (record {
      one =
          subst (λ kept. RecallsOne me (with_heard me d k) x (Some (with_heard_part kinds.Reply bytes (raw.Push young aged want give junk) true kept))) (sym as_known)
          (reply_one me k (with_heard me d k) d x bytes young aged old_want old_give want give old_junk junk r kept (adds_heard me k d d.message.body only) body o.of.mine o.kind_is
          (subst (λ kept. HearsFirst me.session k.heard d x Responder kinds.Reply bytes kept (with_heard_part kinds.Reply bytes (raw.Push young aged want give junk) true kept)) as_known first)
          (subst (λ kept. RecallsOne me k x (Some kept)) as_known o.at.one));
      by = part_by me x kinds.Reply bytes (raw.Push young aged want give junk) true kept o.at.by (sym o.kind_is) (windows.0, windows.1, wants, gives);
    })

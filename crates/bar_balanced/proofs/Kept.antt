-- What a ledger recalls after a RESPONSE or a DIVULGE is kept.
use Rattle.std.proofs.Common.{◌≡◌, ◌+◌, ◌∙◌, ℕ, Bool, true, false, List, Option, Some, None, is_some, refl, sym, ap, subst}
use Rattle.std.specs.Prelude.{nat_le, option_map, option_and_then}
use Rattle.std.specs.Option.{option_map_or}
use Rattle.std.proofs.lemmas.Bool.{and_parts}
use Rattle.std.proofs.lemmas.Option.{same_Some}
use Rattle.bar_window.specs.declared.update.UpdateId.{UpdateId}
use Rattle.bar_window.specs.declared.exchange.Exchange.{Exchange}
use Rattle.bar_window.specs.declared.exchange.Role.{Role}
use Rattle.bar_window.specs.declared.exchange.Role.TheVariants.{Initiator, Responder}
use Rattle.bar_window.specs.declared.exchange.XKind.TheVariants.{Balanced, Push}
use Rattle.bar_window.specs.declared.terms.Terms.TheVariants as raw
use Rattle.bar_window.specs.declared.window.Window.{Window}
use Rattle.bar_window.specs.Code.Window.{members}
use Rattle.bar_window.specs.Terms.{plain_terms}
use Rattle.bar_wire.specs.Bodies.{commitment_in}
use Rattle.bar_wire.specs.Datagram.{Datagram, Response, Divulge, Place, place_by, part_of, kind_of}
use Rattle.bar_wire.specs.declared.kind.Kind.TheVariants as kinds
use Rattle.bar_wire.specs.Code.Views.{AreTermWindows, IsWindowIn}
use Rattle.bar_rules.specs.Member.{Member}
use Rattle.bar_rules.specs.Peer.Admission.{is_row_met}
use Rattle.bar_rules.specs.Peer.Knowledge.{Knowledge, this_round, has_said_of, has_heard_of, with_heard, learned}
use Rattle.bar_ledger.specs.declared.entry.Entry.{Entry}
use Rattle.bar_ledger.specs.declared.ledger.Ledger.{Ledger}
use Rattle.bar_ledger.specs.Code.Hearing.{hears}
use Rattle.bar_ledger.specs.Code.Kept.{Kept, heard_of}
use Rattle.bar_ledger.specs.Code.Memory.{MayHear, find_in}
use Rattle.bar_ledger.specs.Code.Recalls.{Recalls, kind_of_terms}
use Rattle.bar_exchange.specs.Code.Keeping.{MayKeep}
use Rattle.bar_exchange.specs.Code.Parts.{ChangesKept, with_heard_part}
use Rattle.bar_exchange.proofs.Admitted.{IsAdmittedOf, admitted_at}
use Rattle.bar_exchange.proofs.Hearing.{HearsFirst, first_of}
use Rattle.bar_exchange.proofs.KeptChanges.{IsThere, there, said_kept, heard_kept, may_hear_at, recalls_kept}
use Rattle.bar_exchange.proofs.Later.{later_others}
use Rattle.bar_exchange.proofs.Learned.{adds_heard, only_heard, learned_other, stays_ticks, stays_open}
use Rattle.bar_exchange.proofs.One.{RecallsOne}
use Rattle.bar_exchange.proofs.PartKept.{keeps_part, part_by, entry_is, is_near}
use Rattle.bar_exchange.proofs.Places.{IsAt}
use Rattle.bar_balanced.proofs.Divulges.{of_responder, divulge_one}
use Rattle.bar_balanced.proofs.Responses.{of_initiator, response_one}

-- ---- a RESPONSE

-- The admitted datagram is of a balanced exchange that is kept.
pub record IsOfKept (me : Member) (k : Knowledge) (l : Ledger) (d : Datagram) (x : Exchange) (side : Role) : Type 0 where
  pub kind_is : x.kind ≡ Balanced
  pub of : IsAdmittedOf me k d x side
  pub kept : Kept
  pub at : IsThere me k l x kept

response_row : (me : Member) (k : Knowledge) (from to : ℕ) (x : Exchange) (r : ℕ) (hb : List UpdateId)
    → option_map (place_by from to) (part_of (Response r hb)) ≡ Some (record { exchange = x; role = Responder }) → is_row_met me k from to (Response r hb) ≡ true
    → (x.kind ≡ Balanced) × (has_said_of k kinds.Request x Initiator ≡ true) × (nat_le (this_round k) (x.round + 2) ≡ true)
response_row me k from to x r hb at row =
    let is = ap (λ (p : Place). p.exchange) (sym (same_Some _ _ at)) in (
      ap (λ (x : Exchange). x.kind) is,
      ap (λ (x : Exchange). has_said_of k kinds.Request x Initiator) is ∙ (and_parts _ _ (and_parts _ _ row).0).0,
      ap (λ (x : Exchange). nat_le (this_round k) (x.round + 2)) is ∙ (and_parts _ _ row).1,
    )

pub response_of : (me : Member) (k : Knowledge) (l : Ledger) (d : Datagram) (bytes : List ℕ) (x : Exchange) (r : ℕ) (hb : List UpdateId) → MayKeep me k l d bytes → d.message.body ≡ Response r hb
    → IsAt d.message x Responder → IsOfKept me k l d x Responder
response_of me k l d bytes x r hb m body at =
    let of = admitted_at me k d bytes x Responder m.now at in
    let row = response_row me k d.message.from d.message.to x r hb (ap (λ b. option_map (place_by d.message.from d.message.to) (part_of b)) (sym body) ∙ at)
    (ap (is_row_met me k d.message.from d.message.to) (sym body) ∙ of.row) in
    let found = there me k l x m.recalled (said_kept me k l x kinds.Request Initiator m.recalled (is_near me k x m.member.session.shape.life_low row.2) row.1) in
    record { kind_is = row.0; of = of; kept = found.0; at = found.1 }

pub response_learned : (me : Member) (k : Knowledge) (l new : Ledger) (d : Datagram) (bytes : List ℕ) (x : Exchange) (r : ℕ) (nonce : List ℕ) (ha before hb : Window) (e : Entry)
    → MayKeep me k l d bytes → d.message.body ≡ Response r (members hb) → IsAt d.message x Responder → IsWindowIn me.session.shape x.round hb
    → Some e ≡ option_map (λ (k : Kept). k.entry) (find_in l x) → e.terms ≡ raw.Balanced nonce ha before
    → (MayHear l x kinds.Response bytes → ChangesKept l new x (with_heard_part kinds.Response bytes (raw.Balanced nonce ha hb) true))
    → Recalls me (with_heard me d k) new
response_learned me k l new d bytes x r nonce ha before hb e m body place window entry terms changes =
    let o = response_of me k l d bytes x r (members hb) m body place in
    let kept : Kept = o.kept in
    let is : kinds.Response ≡ kind_of d.message.body = ap kind_of (sym body) in
    let role : kept.entry.role ≡ Initiator = o.at.by.side ∙ o.of.mine in
    let terms_are : kept.entry.terms ≡ raw.Balanced nonce ha before = ap (λ (e : Entry). e.terms) (entry_is l x e kept entry o.at.found) ∙ terms in
    let as_known : kept ≡ of_initiator nonce ha before kept =
    λ i. record kept { entry = record kept.entry { role = role i; first_said = o.at.by.asked role i; terms = terms_are i } }
    in
    let only : only_heard d.message.body ≡ true = ap only_heard body in
    let may = may_hear_at me k l d bytes x Responder kinds.Response kept m.recalled m.now o.of is o.at (ap (λ kind. hears kinds.Response kind Initiator) o.kind_is) in
    let first = first_of me k l d bytes x Responder kinds.Response kept (with_heard_part kinds.Response bytes (raw.Balanced nonce ha hb) true kept) m.now o.of is o.at
    (keeps_part l x kinds.Response bytes (raw.Balanced nonce ha hb) true kept may o.at.found) in
    let windows : AreTermWindows me.session.shape x.round (raw.Balanced nonce ha before) = subst (AreTermWindows me.session.shape x.round) terms_are o.at.by.windows in
    recalls_kept me k (with_heard me d k) l new x (with_heard_part kinds.Response bytes (raw.Balanced nonce ha hb) true) kept m.recalled (changes may) (later_others me k d x Responder place only) o.at
    (record {
      one =
          subst (λ kept. RecallsOne me (with_heard me d k) x (Some (with_heard_part kinds.Response bytes (raw.Balanced nonce ha hb) true kept))) (sym as_known)
          (response_one me k (with_heard me d k) d x bytes nonce ha before hb r kept (adds_heard me k d d.message.body only) body o.of.mine o.kind_is
          (subst (λ kept. HearsFirst me.session k.heard d x Responder kinds.Response bytes kept (with_heard_part kinds.Response bytes (raw.Balanced nonce ha hb) true kept)) as_known first)
          (subst (λ kept. RecallsOne me k x (Some kept)) as_known o.at.one));
      by = part_by me x kinds.Response bytes (raw.Balanced nonce ha hb) true kept o.at.by (sym o.kind_is) (windows.0, window);
    })

-- ---- a DIVULGE

committed_heard : (f : List ℕ → Bool) (o : Option Datagram) → option_map_or f (option_and_then commitment_in (option_map (λ (d : Datagram). d.message.body) o)) false ≡ true → is_some o ≡ true
committed_heard f None e = e
committed_heard f (Some d) e = refl

divulge_row : (me : Member) (k : Knowledge) (from to : ℕ) (x : Exchange) (r : ℕ) (nonce : List ℕ) (ha : List UpdateId)
    → option_map (place_by from to) (part_of (Divulge r nonce ha)) ≡ Some (record { exchange = x; role = Initiator }) → is_row_met me k from to (Divulge r nonce ha) ≡ true
    → (x.kind ≡ Balanced) × (has_heard_of k kinds.Request x Initiator ≡ true) × (nat_le (this_round k) (x.round + 2) ≡ true)
divulge_row me k from to x r nonce ha at row =
    let is = ap (λ (p : Place). p.exchange) (sym (same_Some _ _ at)) in (
      ap (λ (x : Exchange). x.kind) is,
      ap (λ (x : Exchange). has_heard_of k kinds.Request x Initiator) is ∙ committed_heard _ _ (and_parts _ _ (and_parts _ _ (and_parts _ _ row).0).0).0,
      ap (λ (x : Exchange). nat_le (this_round k) (x.round + 2)) is ∙ (and_parts _ _ row).1,
    )

pub divulge_of : (me : Member) (k : Knowledge) (l : Ledger) (d : Datagram) (bytes : List ℕ) (x : Exchange) (r : ℕ) (nonce : List ℕ) (ha : List UpdateId) → MayKeep me k l d bytes
    → d.message.body ≡ Divulge r nonce ha → IsAt d.message x Initiator → IsOfKept me k l d x Initiator
divulge_of me k l d bytes x r nonce ha m body at =
    let of = admitted_at me k d bytes x Initiator m.now at in
    let row = divulge_row me k d.message.from d.message.to x r nonce ha (ap (λ b. option_map (place_by d.message.from d.message.to) (part_of b)) (sym body) ∙ at)
    (ap (is_row_met me k d.message.from d.message.to) (sym body) ∙ of.row) in
    let found = there me k l x m.recalled (heard_kept me k l x kinds.Request Initiator m.recalled (is_near me k x m.member.session.shape.life_low row.2) row.1) in
    record { kind_is = row.0; of = of; kept = found.0; at = found.1 }

pub divulge_learned : (me : Member) (k : Knowledge) (l new : Ledger) (d : Datagram) (bytes : List ℕ) (x : Exchange) (r : ℕ) (nonce old_nonce : List ℕ) (ha old_ha hb : Window) (e : Entry)
    → MayKeep me k l d bytes → d.message.body ≡ Divulge r nonce (members ha) → IsAt d.message x Initiator → IsWindowIn me.session.shape x.round ha
    → Some e ≡ option_map (λ (k : Kept). k.entry) (find_in l x) → e.terms ≡ raw.Balanced old_nonce old_ha hb
    → (MayHear l x kinds.Divulge bytes → ChangesKept l new x (with_heard_part kinds.Divulge bytes (raw.Balanced nonce ha hb) e.first_said))
    → Recalls me (with_heard me d k) new
divulge_learned me k l new d bytes x r nonce old_nonce ha old_ha hb e m body place window entry terms changes =
    let o = divulge_of me k l d bytes x r nonce (members ha) m body place in
    let kept : Kept = o.kept in
    let is : kinds.Divulge ≡ kind_of d.message.body = ap kind_of (sym body) in
    let same : kept.entry ≡ e = entry_is l x e kept entry o.at.found in
    let role : kept.entry.role ≡ Responder = o.at.by.side ∙ o.of.mine in
    let terms_are : kept.entry.terms ≡ raw.Balanced old_nonce old_ha hb = ap (λ (e : Entry). e.terms) same ∙ terms in
    let may = may_hear_at me k l d bytes x Initiator kinds.Divulge kept m.recalled m.now o.of is o.at (ap (λ kind. hears kinds.Divulge kind Responder) o.kind_is) in
    let none : kept.divulge ≡ None = ap (option_and_then (heard_of kinds.Divulge)) (sym o.at.found) ∙ may.new in
    let as_known : kept ≡ of_responder old_nonce old_ha hb kept =
    λ i. record kept { entry = record kept.entry { role = role i; terms = terms_are i }; divulge = none i }
    in
    let full : Bool = kept.entry.first_said in
    let first = first_of me k l d bytes x Initiator kinds.Divulge kept (with_heard_part kinds.Divulge bytes (raw.Balanced nonce ha hb) full kept) m.now o.of is o.at
    (keeps_part l x kinds.Divulge bytes (raw.Balanced nonce ha hb) full kept may o.at.found) in
    let windows : AreTermWindows me.session.shape x.round (raw.Balanced old_nonce old_ha hb) = subst (AreTermWindows me.session.shape x.round) terms_are o.at.by.windows in
    recalls_kept me k (with_heard me d k) l new x (with_heard_part kinds.Divulge bytes (raw.Balanced nonce ha hb) full) kept m.recalled
    (subst (λ b. ChangesKept l new x (with_heard_part kinds.Divulge bytes (raw.Balanced nonce ha hb) b)) (ap (λ (e : Entry). e.first_said) (sym same)) (changes may))
    (record {
      ticks = stays_ticks me k d d.message.body;
      opens = stays_open me k d d.message.body;
      asked = λ kind round. ap (λ b. (learned me d k b).asked kind round) body;
      others = learned_other me k d x Initiator place;
    })
    o.at
    (record {
      one =
          subst (λ kept. RecallsOne me (with_heard me d k) x (Some (with_heard_part kinds.Divulge bytes (raw.Balanced nonce ha hb) full kept))) (sym as_known)
          (subst (λ b. RecallsOne me (learned me d k b) x (Some (with_heard_part kinds.Divulge bytes (raw.Balanced nonce ha hb) full (of_responder old_nonce old_ha hb kept)))) (sym body)
          (divulge_one me k d x bytes nonce old_nonce ha old_ha hb r kept o.kind_is
          (subst (λ kept. HearsFirst me.session k.heard d x Initiator kinds.Divulge bytes kept (with_heard_part kinds.Divulge bytes (raw.Balanced nonce ha hb) full kept)) as_known first)
          (subst (λ kept. RecallsOne me k x (Some kept)) as_known o.at.one)));
      by = part_by me x kinds.Divulge bytes (raw.Balanced nonce ha hb) full kept o.at.by (sym o.kind_is) (window, windows.1);
    })

-- ---- impossible entries

-- the terms of its entry are those of a balanced exchange
pub no_push : (me : Member) (k : Knowledge) (l : Ledger) (d : Datagram) (x : Exchange) (side : Role) (e : Entry) (young aged want give : Window) (junk : ℕ) → IsOfKept me k l d x side
    → Some e ≡ option_map (λ (k : Kept). k.entry) (find_in l x) → e.terms ≡ raw.Push young aged want give junk → ⊥
no_push me k l d x side e young aged want give junk o entry terms =
    let push : Push ≡ Balanced =
    ap (λ t. kind_of_terms (plain_terms t)) (sym (ap (λ (e : Entry). e.terms) (entry_is l x e o.kept entry o.at.found) ∙ terms)) ∙ o.at.by.form ∙ o.kind_is
    in
    cc

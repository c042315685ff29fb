-- After a DIVULGE is heard, the initiator's part of the terms is known.
use Rattle.std.proofs.Common.{◌≡◌, ◌∙◌, ℕ, Bool, true, false, List, Some, None, refl, sym, ap}
use Rattle.std.specs.Prelude.{option_and_then, if◌then◌else◌}
use Rattle.std.specs.Bool.{then_some}
use Rattle.bar_window.specs.declared.update.UpdateId.{UpdateId}
use Rattle.bar_window.specs.declared.exchange.Exchange.{Exchange}
use Rattle.bar_window.specs.declared.exchange.Role.{Role}
use Rattle.bar_window.specs.declared.exchange.Role.TheVariants.{Initiator, Responder}
use Rattle.bar_window.specs.declared.exchange.XKind.TheVariants.{Balanced}
use Rattle.bar_window.specs.declared.terms.Terms.TheVariants as raw
use Rattle.bar_window.specs.declared.window.Window.{Window}
use Rattle.bar_window.specs.Terms as forms
use Rattle.bar_window.specs.Code.Window.{members}
use Rattle.bar_wire.specs.Bodies.{history_in, offer_in, reply_in}
use Rattle.bar_wire.specs.Datagram.{Datagram, Divulge, is_of}
use Rattle.bar_wire.specs.declared.kind.Kind.{Kind}
use Rattle.bar_wire.specs.declared.kind.Kind.TheVariants as kinds
use Rattle.bar_rules.specs.Member.{Member}
use Rattle.bar_rules.specs.Peer.Knowledge.{Knowledge, learned}
use Rattle.bar_rules.specs.Peer.Terms.{body_on, terms_by, trade_terms}
use Rattle.bar_ledger.specs.Code.Hearing.{same_datagram}
use Rattle.bar_ledger.specs.Code.Kept.{Kept}
use Rattle.bar_exchange.specs.Code.Parts.{with_heard_part}
use Rattle.bar_exchange.proofs.Hearing.{HearsFirst, hears_first}
use Rattle.bar_exchange.proofs.One.{RecallsOne}
use Rattle.bar_exchange.proofs.PartKept.{part_said}
use Rattle.bar_exchange.proofs.Places.{first_one, not_of_kind, is_of_itself}
use Rattle.bar_exchange.proofs.Same.{body_same}
use Rattle.bar_bytes.proofs.Options.{or-untold}

-- the kept state of the responder of a balanced exchange, before it hears the DIVULGE
abbrev pub of_responder : List ℕ → Window → Window → Kept → Kept
of_responder nonce ha hb kept = record kept { entry = record kept.entry { role = Responder; terms = raw.Balanced nonce ha hb }; divulge = None }

complete_when : (nonce : List ℕ) (ha hb : List UpdateId) (b : Bool) → trade_terms (Some (nonce, ha)) (if b then Some hb else None) ≡ then_some b (forms.Balanced nonce ha hb)
complete_when nonce ha hb true = refl
complete_when nonce ha hb false = refl

pub divulge_one : (me : Member) (k : Knowledge) (d : Datagram) (x : Exchange) (bytes : List ℕ) (nonce old_nonce : List ℕ) (ha old_ha hb : Window) (r : ℕ) (kept : Kept) → x.kind ≡ Balanced
    → HearsFirst me.session k.heard d x Initiator kinds.Divulge bytes (of_responder old_nonce old_ha hb kept)
    (with_heard_part kinds.Divulge bytes (raw.Balanced nonce ha hb) kept.entry.first_said (of_responder old_nonce old_ha hb kept))
    → RecallsOne me k x (Some (of_responder old_nonce old_ha hb kept))
    → RecallsOne me (learned me d k (Divulge r nonce (members ha))) x (Some (with_heard_part kinds.Divulge bytes (raw.Balanced nonce ha hb) kept.entry.first_said (of_responder old_nonce old_ha hb kept)))
divulge_one me k d x bytes nonce old_nonce ha old_ha hb r kept kind first h = record {
  heard = hears_first me.session k.heard d x Initiator kinds.Divulge bytes old after first;
  said = λ other role. h.said other role ∙ sym (part_said kinds.Divulge bytes (raw.Balanced nonce ha hb) kept.entry.first_said old other role);
  seats = h.seats;
  revealed = commits;
  answers = ap (option_and_then history_in) (stays kinds.Response Responder refl) ∙ h.answers;
  offers = ap (option_and_then offer_in) (stays kinds.Query Initiator refl) ∙ h.offers;
  replies = ap (option_and_then reply_in) (stays kinds.Reply Responder refl) ∙ h.replies;
  terms =
      (λ i. terms_by (kind i) me new x)
      ∙ (λ i. trade_terms (commits i) ((ap (option_and_then history_in) (stays kinds.Response Responder refl) ∙ h.answers) i))
      ∙ complete_when nonce (members ha) (members hb) kept.entry.first_said;
}
  where
    old : Kept
    old = of_responder old_nonce old_ha hb kept

    after : Kept
    after = with_heard_part kinds.Divulge bytes (raw.Balanced nonce ha hb) kept.entry.first_said (of_responder old_nonce old_ha hb kept)

    new : Knowledge
    new = learned me d k (Divulge r nonce (members ha))

    commits : (learned me d k (Divulge r nonce (members ha))).revealed x ≡ Some (nonce, members ha)
    commits =
        first_one (k.revealed x) (is_of kinds.Divulge x Initiator d.message) (nonce, members ha) h.revealed
        (is_of_itself d.message x Initiator first.at kinds.Divulge (ap (λ kind. same_datagram kind kinds.Divulge) first.kind_is))

    stays : (other : Kind) (role : Role) → same_datagram kinds.Divulge other ≡ false
        → body_on me (learned me d k (Divulge r nonce (members ha))) other x role ≡ body_on me k other x role
    stays other role apart =
        body_same me k (learned me d k (Divulge r nonce (members ha))) other x role refl
        (or-untold (k.heard other x role) (is_of other x role d.message) d (not_of_kind d.message other (ap (λ kind. same_datagram kind other) first.kind_is ∙ apart) x role))

use Rattle.std.proofs.Common.{◌≡◌, ℕ, List, Some, refl, sym, ap, subst, ◌∙◌}
use Rattle.bar_window.specs.declared.exchange.Role.TheVariants.{Responder}
use Rattle.bar_window.specs.declared.exchange.XKind.{XKind}
use Rattle.bar_window.specs.declared.exchange.XKind.TheVariants.{Balanced}
use Rattle.bar_window.specs.declared.terms.Terms.{Terms}
use Rattle.bar_window.specs.declared.terms.Terms.TheVariants as raw
use Rattle.bar_window.specs.declared.window.Window.{Window}
use Rattle.bar_window.specs.Code.Window.{IsWindowOf}
use Rattle.bar_window.specs.Terms.{plain_terms}
use Rattle.bar_wire.specs.Bodies.{history_in, reply_in}
use Rattle.bar_wire.specs.Datagram.{part_of}
use Rattle.bar_wire.specs.declared.kind.Kind.{Kind}
use Rattle.bar_wire.specs.declared.kind.Kind.TheVariants as kinds
use Rattle.bar_wire.specs.Code.Views.{AreTermWindows, IsWindowIn}
use Rattle.bar_rules.specs.Peer.Exchanges.{answer_kind, role_of}
use Rattle.bar_ledger.specs.declared.entry.Entry.{Entry}
use Rattle.bar_ledger.specs.Code.Lookups.{commit_of, offer_of}
use Rattle.bar_ledger.specs.Code.Recalls.{kind_of_terms}
use Rattle.bar_exchange.specs.Code.Keeping.{IsSaidNow}
use Rattle.bar_exchange.proofs.Marks.{found_by, kept_found}
use Rattle.bar_exchange.proofs.Said.{placed}
use Rattle.bar_balanced.proofs.saying.say_response.Goals as goal

-- the terms of a balanced exchange aren't those of a push
no_push : (t : Terms) (x : XKind) → kind_of_terms (plain_terms t) ≡ x → x ≡ Balanced → ((nonce : List ℕ) (ha hb : Window) → t ≡ raw.Balanced nonce ha hb → ⊥) → ⊥
no_push (raw.Balanced nonce ha hb) x form is not = not nonce ha hb refl
no_push (raw.Push young aged want give junk) x form is not = absurd (cc)

pub returns-in_default-terms-clause-learns : goal.returns-in_default-terms-clause-learns
returns-in_default-terms-clause-learns c me k d holds h s says heard time =
    let found = found_by c.args.ledger.now c.args.x c.in-Some.entry.now c.in-Some.ensures.entry in
    let own = kept_found me k c.args.ledger.now c.args.x c.in-Some.entry.now h found in
    let at = placed d.message (c.args.x.round, Balanced, Responder) c.args.x (role_of me c.args.x) (ap part_of says) s.place_is in
    absurd (no_push c.in-Some.entry.now.terms c.args.x.kind own.form at.0 c.in_default-terms.not-Balanced)

pub returns-clause-learns : goal.returns-clause-learns
returns-clause-learns c me k d holds h s says heard time =
    let e : Entry = c.in-Some.entry.now in
    let found = found_by c.args.ledger.now c.args.x c.in-Some.entry.now c.in-Some.ensures.entry in
    let own = kept_found me k c.args.ledger.now c.args.x c.in-Some.entry.now h found in
    let at = placed d.message (c.args.x.round, Balanced, Responder) c.args.x (role_of me c.args.x) (ap part_of says) s.place_is in
    let kind : kinds.Response ≡ answer_kind c.args.x.kind = ap answer_kind (sym at.0) in
    let windows : AreTermWindows me.session.shape c.args.x.round (raw.Balanced c.in-Balanced.nonce c.in-Balanced.ha c.in-Balanced.hb) =
    subst (AreTermWindows me.session.shape c.args.x.round) c.in-Balanced.is own.windows
    in
    let here : IsWindowIn me.session.shape c.args.x.round c.history-hb.result =
    record {
      of = subst (λ (life : ℕ). IsWindowOf life c.args.x.round c.history-hb.result) holds.life c.history-hb.ensures.rounds;
      wide = c.history-hb.ensures.wide ∙ holds.wide;
    }
    in
    let before = ap plain_terms c.in-Balanced.is in
    c.answer.ensures.learns me k d e h (subst (λ (kind : Kind). IsSaidNow me k d kind c.args.x) kind s) at.1 c.in-Some.ensures.entry
    (record {
      form = sym at.0;
      windows = (windows.0, here);
      commit = ap commit_of (sym before);
      offer = ap offer_of (sym before);
      history = ap history_in says ∙ ap (λ us. Some us) (sym (c.history-hb.ensures.known me k holds time));
      reply = ap reply_in says;
    })

use Rattle.std.proofs.Common.{◌≡◌, None, refl, sym, ap, subst, ◌∙◌, arith}
use Rattle.std.proofs.lemmas.Option.{none-some}
use Rattle.bar_window.specs.declared.exchange.Role.TheVariants.{Responder}
use Rattle.bar_window.specs.declared.exchange.XKind.TheVariants.{Push}
use Rattle.bar_window.specs.Terms.{plain_terms}
use Rattle.bar_wire.specs.Bodies.{history_in, reply_in}
use Rattle.bar_wire.specs.Datagram.{part_of}
use Rattle.bar_wire.specs.declared.kind.Kind.{Kind}
use Rattle.bar_wire.specs.declared.kind.Kind.TheVariants as kinds
use Rattle.bar_rules.specs.Peer.Exchanges.{answer_kind, role_of}
use Rattle.bar_ledger.specs.declared.entry.Entry.{Entry}
use Rattle.bar_ledger.specs.Code.Lookups.{commit_of, offer_of}
use Rattle.bar_exchange.specs.Code.Keeping.{IsSaidNow}
use Rattle.bar_exchange.proofs.Marks.{found_by, one_none, some_found}
use Rattle.bar_exchange.proofs.Said.{placed}
use Rattle.bar_push.proofs.Replied.{offers_same, no_trade, replied, offer_in_entry, reply_is, wants_some}
use Rattle.bar_push.proofs.saying.say_reply.Goals as goal

pub returns-in_default-clause-learns : goal.returns-in_default-clause-learns
returns-in_default-clause-learns c me k d q holds h s offer says time =
    let none = one_none me k c.args.ledger.now c.args.x h s.recent (some_found None _ c.in_default.ensures.entry) in
    absurd (none-some q (sym none.offers ∙ offer))

pub returns-in_default-terms-clause-learns : goal.returns-in_default-terms-clause-learns
returns-in_default-terms-clause-learns c me k d q holds h s offer says time =
    let found = found_by c.args.ledger.now c.args.x c.in-Some.entry.now c.in-Some.ensures.entry in
    absurd
    (no_trade c.in-Some.entry.now.terms q (offers_same me k c.args.ledger.now c.args.x c.in-Some.entry.now q h s.recent found offer)
    c.in_default-terms.not-Push)

pub returns-then-size-eq0-clause-learns : goal.returns-then-size-eq0-clause-learns
returns-then-size-eq0-clause-learns c me k d q holds h s offer says time =
    let e : Entry = c.in-Some.entry.now in
    let p = c.in-Push in
    let found = found_by c.args.ledger.now c.args.x c.in-Some.entry.now c.in-Some.ensures.entry in
    let at = offer_in_entry me k c.args.ledger.now c.args.x e q p.young p.aged p.want p.give p.junk h s.recent found offer p.is in
    let made = c.answer_to_offer-made.ensures.known me k holds (c.cap.ensures ∙ h.cap) time at.young_of at.aged_of in
    let wants = wants_some me k _ _ q c.answer_to_offer-made.result at.same made (replied me k c.args.x.round q d.message.body says).0 in
    absurd (omega (arith, wants, c.size.ensures, c.if-size-eq0.true))

pub returns-clause-learns : goal.returns-clause-learns
returns-clause-learns c me k d q holds h s offer says time =
    let e : Entry = c.in-Some.entry.now in
    let p = c.in-Push in
    let found = found_by c.args.ledger.now c.args.x c.in-Some.entry.now c.in-Some.ensures.entry in
    let at = offer_in_entry me k c.args.ledger.now c.args.x e q p.young p.aged p.want p.give p.junk h s.recent found offer p.is in
    let made = c.answer_to_offer-made.ensures.known me k holds (c.cap.ensures ∙ h.cap) time at.young_of at.aged_of in
    let windows = c.answer_to_offer-made.ensures.windows me.session.shape at.young_of at.aged_of in
    let reply = replied me k c.args.x.round q d.message.body says in
    let place = placed d.message (c.args.x.round, Push, Responder) c.args.x (role_of me c.args.x) (ap part_of reply.1) s.place_is in
    let kind : kinds.Reply ≡ answer_kind c.args.x.kind = ap answer_kind (sym place.0) in
    let before = ap plain_terms p.is in (
      refl,
      c.answer.ensures.learns me k d e h (subst (λ (kind : Kind). IsSaidNow me k d kind c.args.x) kind s) place.1 c.in-Some.ensures.entry
          (record {
            form = sym place.0;
            windows = (at.young_of, at.aged_of, windows.0, windows.1);
            commit = ap commit_of (sym before);
            offer = ap offer_of (sym before);
            history = ap history_in reply.1;
            reply = ap reply_in reply.1 ∙ reply_is me k c.args.x.round _ _ q c.answer_to_offer-made.result at.same made;
          }),
    )

-- A member holds what it promises.
use Rattle.bar_wire.specs.Bodies.{divulge_in, history_in, offer_in, reply_in}
use Rattle.bar_rules.specs.Peer.Choices.{wanted_of}
use Rattle.bar_rules.specs.Peer.Exchanges.{role_of, revealed, revealed_in}
use Rattle.bar_rules.specs.Peer.Holdings.{block_of, block_in, is_held, history}
use Rattle.bar_rules.specs.Peer.Knowledge.{known}
use Rattle.bar_rules.specs.Peer.Log.{Log, Entry, Ticked, Heard, Said, Kept}
use Rattle.bar_rules.specs.Member.{Session, Member}
use Rattle.bar_rules.specs.Peer.Rules.{IsObedient}
use Rattle.bar_rules.specs.Secrets.{nonce_of}
use Rattle.bar_rules.specs.Peer.Signing.{MaySay}
use Rattle.bar_rules.specs.Peer.Terms.{body_on, terms_of}
use Rattle.bar_rules.specs.Values.{window_of}
use Rattle.bar_terms.specs.Terms.{promised_updates, trade_count}
use Rattle.bar_window.specs.Exchange.{party_on}
use Rattle.bar_window.specs.Terms.{Terms}
use Rattle.bar_window.specs.Terms as forms
use Rattle.bar_window.specs.Updates.{has_update, is_inside, minus}
use Rattle.bar_window.specs.declared.exchange.Exchange.{Exchange}
use Rattle.bar_window.specs.declared.exchange.Role.{Role}
use Rattle.bar_window.specs.declared.exchange.Role.TheVariants.{Initiator, Responder}
use Rattle.bar_window.specs.declared.update.UpdateId.{UpdateId}
use Rattle.bar_wire.specs.declared.kind.Kind.TheVariants as kinds
use Rattle.bar_wire.specs.declared.kind.Kind.{Kind}
use Rattle.bar_wire.specs.Datagram.{Datagram, Body, Response, Query, Reply, is_of}
use Rattle.std.proofs.Common.{◌≡◌, ℕ, Bool, true, false, List, [], ◌∷◌, refl, sym, ap, subst, not, length, cond}
use Rattle.std.specs.Prelude.{Option, Some, None, is_some, option_and_then}
use Rattle.std.specs.List.{list_all}
use Rattle.std.specs.Bool.{then_some}
use Rattle.std.proofs.lemmas.Bool.{and_parts, and_from}
use Rattle.bar_laws.specs.Growing.{IsLater}
use Rattle.bar_laws.proofs.Logs.{no-value, IsEntry, IsFind, find-of, WasSaid, later-entry, find-later, some-is, said-rule, all-filter, was-said, all-take, all-filtered, spoken-reply, IsGoodAnswer, own-unheard, inside-all}
use Rattle.bar_laws.proofs.Judging.SaidOnce.{own-said}
use Rattle.bar_laws.proofs.Judging.OwnWordsAgree.{trade-of, offer-of}

-- all of these are held
abbrev pub AllHeld : Session → Log → List UpdateId → Type 0
AllHeld s log us = list_all (is_held s log) us ≡ true

pub held-later : (s : Session) (log before : Log) (us : List UpdateId) → IsLater log before → AllHeld s before us → AllHeld s log us
held-later s log before [] later e = refl
held-later s log before (u ∷ us) later e =
    let p = and_parts _ _ e in
    let b = some-is (block_of s before u) p.0 in
    and_from _ _ (ap is_some (find-later (λ before e. block_in s before u e) log before b.0 later b.1)) (held-later s log before us later p.1)

-- ---- what a said message names of its own was held when it was said

answer-held : (me : Member) (before : Log) (to : ℕ) (b : Body) (hb : List UpdateId) → MaySay me (known me before) to b → history_in b ≡ Some hb → AllHeld me.session before hb
answer-held me before to (Response r us) hb rule f = let same : us ≡ hb = cc in rw (← same, rule.held) (all-filter (is_held me.session before) (window_of me.session r))
answer-held me before to b hb rule f = absurd (no-value (history_in b) hb refl f)

young-held : (me : Member) (before : Log) (to : ℕ) (b : Body) (q : List UpdateId × List UpdateId) → MaySay me (known me before) to b → offer_in b ≡ Some q → AllHeld me.session before q.0
young-held me before to (Query r seed us vs) q rule f =
    let same : us ≡ q.0 = cc in rw (← same, rule.offers) (all-take (is_held me.session before) me.session.cap _ (all-filter (is_held me.session before) _))
young-held me before to b q rule f = absurd (no-value (offer_in b) q refl f)

given-held : (me : Member) (before : Log) (to : ℕ) (b : Body) (t : List UpdateId × List UpdateId × ℕ) → MaySay me (known me before) to b → reply_in b ≡ Some t → AllHeld me.session before t.1
given-held me before to (Reply r us vs z) t rule f =
    let same : vs ≡ t.1 = cc in rw (← same, rule.gives) (all-take (is_held me.session before) (length (wanted_of me (known me before) rule.young)) _ (all-filter (is_held me.session before) rule.aged))
given-held me before to b t rule f = absurd (no-value (reply_in b) t refl f)

-- so what the log has of this member's side is held
told-held : {A : Type 0} (me : Member) (log : Log) (x : Exchange) (role : Role) (kind : Kind) (f : Body → Option A) (a : A) (us : List UpdateId) → IsObedient me log → role_of me x ≡ role
    → ((before : Log) (to : ℕ) (b : Body) → MaySay me (known me before) to b → f b ≡ Some a → AllHeld me.session before us)
    → option_and_then f (body_on me (known me log) kind x role) ≡ Some a → AllHeld me.session log us
told-held {A} me log x role kind f a us h side held e = go (body_on me (known me log) kind x role) refl e
  where
    go : (o : Option Body) → body_on me (known me log) kind x role ≡ o → option_and_then f o ≡ Some a → AllHeld me.session log us
    go None g e = cc
    go (Some b) g e =
        let d = own-said me log x role kind b side g in
        let w : WasSaid log d.0 = was-said log d.0 d.1 in
        let rule : MaySay me (known me w.before) d.0.message.to b = subst (λ z. MaySay me (known me w.before) d.0.message.to z) d.2 (said-rule me log d.0 w h).rule.rule in
        held-later me.session log w.before us (later-entry log w.before (Said d.0) w.place) (held w.before d.0.message.to b rule e)

-- the history that this member commits to
own-history-held : (me : Member) (log : Log) (x : Exchange) (a : List ℕ × List UpdateId) → IsObedient me log → x.initiator ≡ me.party → revealed me log x ≡ Some a → AllHeld me.session log a.1
own-history-held me log x a h own e = at (find-of (λ before e. revealed_in me before x e) log a e)
  where
    said : (before : Log) (b : Bool) → then_some {T = List ℕ × List UpdateId} b (nonce_of me x, history me.session (block_of me.session before) x.round) ≡ Some a → AllHeld me.session before a.1
    said before true f = let same : history me.session (block_of me.session before) x.round ≡ a.1 = cc in rw (← same) (all-filter (is_held me.session before) (window_of me.session x.round))
    said before false f = cc

    heard : (before : Log) (d : Datagram) (b : Bool) → is_of kinds.Divulge x Initiator d.message ≡ b → IsEntry log before (Heard d) → cond b (divulge_in d.message.body) None ≡ Some a → AllHeld me.session before a.1
    heard before d true i place f = absurd (own-unheard me log d kinds.Divulge x Initiator h (record { before = before; place = place }) i own)
    heard before d false i place f = cc

    by : (before : Log) (e : Entry) → IsEntry log before e → revealed_in me before x e ≡ Some a → AllHeld me.session before a.1
    by before (Said d) place f = said before _ f
    by before (Heard d) place f = heard before d _ refl place f
    by before Ticked place f = cc
    by before (Kept q v) place f = cc

    at : IsFind (λ before e. revealed_in me before x e) log a → AllHeld me.session log a.1
    at w = held-later me.session log w.before a.1 (later-entry log w.before w.entry w.place) (by w.before w.entry w.place w.found)

-- this member holds what it promises by the terms of its log
pub promise-held : (me : Member) (log : Log) (x : Exchange) (role : Role) (terms : Terms) → IsObedient me log → party_on x role ≡ me.party → role_of me x ≡ role → terms_of me (known me log) x ≡ Some terms
    → AllHeld me.session log (promised_updates me.session.cap terms role)
promise-held me log x Initiator (forms.Balanced nonce ha hb) h own side t =
    all-take (is_held me.session log) (trade_count me.session.cap ha hb) (minus ha hb)
    (all-filtered {X = UpdateId} (is_held me.session log) (λ u. not (has_update hb u)) ha (own-history-held me log x (nonce, ha) h own (trade-of me log x nonce ha hb t).0))
promise-held me log x Responder (forms.Balanced nonce ha hb) h own side t =
    all-take (is_held me.session log) (trade_count me.session.cap ha hb) (minus hb ha)
    (all-filtered {X = UpdateId} (is_held me.session log) (λ u. not (has_update ha u)) hb
    (told-held me log x Responder kinds.Response history_in hb hb h side (λ before to b. answer-held me before to b hb) (trade-of me log x nonce ha hb t).1))
promise-held me log x Initiator (forms.Push young aged want give junk) h own side t =
    let o = offer-of me log x young aged want give junk t in
    let g : IsGoodAnswer me log x (want, give, junk) = spoken-reply me log x (want, give, junk) h o.1 in
    let same : g.query ≡ (young, aged) = (let s = g.stands in let r = o.0 in cc) in
    let inside : is_inside want g.query.0 ≡ true = (and_parts _ _ (and_parts _ _ (and_parts _ _ g.fits).0).0).0 in
    let held : AllHeld me.session log young = told-held me log x Initiator kinds.Query offer_in (young, aged) young h side (λ before to b. young-held me before to b (young, aged)) o.0 in
    inside-all (is_held me.session log) want g.query.0 inside (subst (λ z. AllHeld me.session log z.0) (sym same) held)
promise-held me log x Responder (forms.Push young aged want give junk) h own side t =
    told-held me log x Responder kinds.Reply reply_in (want, give, junk) give h side (λ before to b. given-held me before to b (want, give, junk)) (offer-of me log x young aged want give junk t).1

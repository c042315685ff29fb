-- The kept state of a push whose QUERY is known, and the content of its REPLY.
use Rattle.std.proofs.Common.{◌≡◌, ℕ, ◌<◌, Bool, true, false, List, length, Option, Some, None, refl, sym, ap, subst, ◌∙◌}
use Rattle.std.specs.Prelude.{option_and_then, nat_lt, if◌then◌else◌}
use Rattle.std.specs.Bool.{then_some}
use Rattle.std.proofs.lemmas.Bool.{ltb-true}
use Rattle.std.proofs.lemmas.Option.{none-some, same_Some}
use Rattle.bar_window.specs.declared.exchange.Exchange.{Exchange}
use Rattle.bar_window.specs.declared.exchange.Role.TheVariants.{Initiator}
use Rattle.bar_window.specs.declared.terms.Terms.{Terms}
use Rattle.bar_window.specs.declared.terms.Terms.TheVariants as raw
use Rattle.bar_window.specs.declared.update.UpdateId.{UpdateId}
use Rattle.bar_window.specs.declared.window.Window.{Window}
use Rattle.bar_window.specs.Terms.{plain_terms}
use Rattle.bar_window.specs.Code.Window.{members}
use Rattle.bar_terms.specs.declared.push.PushAnswer.{PushAnswer}
use Rattle.bar_wire.specs.Bodies.{offer_in, reply_in}
use Rattle.bar_wire.specs.Datagram.{Body}
use Rattle.bar_wire.specs.declared.kind.Kind.TheVariants as kinds
use Rattle.bar_wire.specs.Code.Views.{AreTermWindows, IsWindowIn}
use Rattle.bar_rules.specs.Member.{Member}
use Rattle.bar_rules.specs.Peer.Agreement.{IsRecent}
use Rattle.bar_rules.specs.Peer.Choices.{wanted_of}
use Rattle.bar_rules.specs.Peer.Knowledge.{Knowledge}
use Rattle.bar_rules.specs.Peer.Orders.{reply_body, reply_to}
use Rattle.bar_rules.specs.Peer.Terms.{body_on}
use Rattle.bar_ledger.specs.declared.entry.Entry.{Entry}
use Rattle.bar_ledger.specs.declared.ledger.Ledger.{Ledger}
use Rattle.bar_ledger.specs.Code.Lookups.{offer_of}
use Rattle.bar_ledger.specs.Code.Recalls.{Recalls}
use Rattle.bar_exchange.proofs.Marks.{IsFound, one_found, kept_found}
use Rattle.bar_push.specs.Code.Chosen.{IsAnswerTo}

-- the offer of a QUERY that is known
abbrev pub offered : Member → Knowledge → Exchange → Option (List UpdateId × List UpdateId)
offered me k x = option_and_then offer_in (body_on me k kinds.Query x Initiator)

if_some : {A : Type 0} (b : Bool) (o : Option A) (v : A) → (if b then o else None) ≡ Some v → o ≡ Some v
if_some true o v e = e
if_some false o v e = absurd (none-some v e)

-- the terms of the exchange's entry have the same offer
pub offers_same : (me : Member) (k : Knowledge) (l : Ledger) (x : Exchange) (e : Entry) (q : List UpdateId × List UpdateId) → Recalls me k l → IsRecent me k x.round
    → IsFound l x e → offered me k x ≡ Some q → offer_of (plain_terms e.terms) ≡ Some q
offers_same me k l x e q h recent f offer = if_some _ _ q (sym (one_found me k l x e h recent f).offers ∙ offer)

-- terms with an offer are those of a push
pub no_trade : (t : Terms) (q : List UpdateId × List UpdateId) → offer_of (plain_terms t) ≡ Some q
    → ((young aged want give : Window) (junk : ℕ) → t ≡ raw.Push young aged want give junk → ⊥) → ⊥
no_trade (raw.Balanced nonce ha hb) q e not = none-some q e
no_trade (raw.Push young aged want give junk) q e not = not young aged want give junk refl

some_then : {A : Type 0} (b : Bool) (v w : A) → then_some b v ≡ Some w → (b ≡ true) × (w ≡ v)
some_then true v w e = (refl, sym (same_Some v w e))
some_then false v w e = absurd (none-some w e)

-- a REPLY is said only if something is wanted, and it says what the rules require
pub replied : (me : Member) (k : Knowledge) (r : ℕ) (q : List UpdateId × List UpdateId) (b : Body) → reply_to me k r q ≡ Some b
    → (nat_lt 0 (length (wanted_of me k q.0)) ≡ true) × (b ≡ reply_body me k r q)
replied me k r q b e = some_then _ _ b e

-- The windows of the kept terms are of the round, and are those of the offer.
pub record IsOfferIn (me : Member) (round : ℕ) (young aged : Window) (q : List UpdateId × List UpdateId) : Type 0 where
  pub young_of : IsWindowIn me.session.shape round young
  pub aged_of : IsWindowIn me.session.shape round aged
  pub same : (members young, members aged) ≡ q

pub offer_in_entry : (me : Member) (k : Knowledge) (l : Ledger) (x : Exchange) (e : Entry) (q : List UpdateId × List UpdateId) (young aged want give : Window) (junk : ℕ)
    → Recalls me k l → IsRecent me k x.round → IsFound l x e → offered me k x ≡ Some q → e.terms ≡ raw.Push young aged want give junk
    → IsOfferIn me x.round young aged q
offer_in_entry me k l x e q young aged want give junk h recent f offer is =
    let windows : AreTermWindows me.session.shape x.round (raw.Push young aged want give junk) =
    subst (AreTermWindows me.session.shape x.round) is (kept_found me k l x e h f).windows
    in
    record {
      young_of = windows.0;
      aged_of = windows.1;
      same = same_Some _ _ (sym (ap (λ (t : Terms). offer_of (plain_terms t)) is) ∙ offers_same me k l x e q h recent f offer);
    }

-- the computed answer is what the REPLY says
pub reply_is : (me : Member) (k : Knowledge) (r : ℕ) (young aged : List UpdateId) (q : List UpdateId × List UpdateId) (a : PushAnswer) → (young, aged) ≡ q
    → IsAnswerTo me k young aged a
    → reply_in (reply_body me k r q) ≡ Some (members a.want, members a.give, a.junk)
reply_is me k r young aged q a same made =
    (λ i. reply_in (reply_body me k r (sym same i)))
    ∙ (λ i. Some (sym made.want i, sym made.give i, sym made.junk i))

-- if the rules want something, so does the answer
pub wants_some : (me : Member) (k : Knowledge) (young aged : List UpdateId) (q : List UpdateId × List UpdateId) (a : PushAnswer) → (young, aged) ≡ q
    → IsAnswerTo me k young aged a → nat_lt 0 (length (wanted_of me k q.0)) ≡ true → 0 < length (members a.want)
wants_some me k young aged q a same made wants =
    ltb-true 0 (length (members a.want)) ((λ i. nat_lt 0 (length (made.want i))) ∙ (λ i. nat_lt 0 (length (wanted_of me k (same i).0))) ∙ wants)

-- What a ledger recalls at the start, and after a tick.
use Rattle.std.proofs.Common.{◌≡◌, ℕ, ◌+◌, ◌≤◌, Bool, true, false, [], Option, None, refl, sym, ap, subst, ◌∙◌, arith, count_by}
use Rattle.std.specs.Prelude.{option_map, option_and_then, IfSome, if◌then◌else◌}
use Rattle.std.specs.Option.{option_map_or}
use Rattle.std.specs.List.{find}
use Rattle.std.proofs.lemmas.Bool.{le-leb}
use Rattle.bar_window.specs.declared.exchange.Exchange.{Exchange}
use Rattle.bar_window.specs.declared.exchange.Role.TheVariants.{Initiator, Responder}
use Rattle.bar_window.specs.declared.exchange.XKind.{XKind}
use Rattle.bar_window.specs.declared.exchange.XKind.TheVariants.{Balanced, Push}
use Rattle.bar_window.specs.Exchange.{same_role}
use Rattle.bar_wire.specs.Bodies.{history_in, offer_in, reply_in}
use Rattle.bar_wire.specs.Datagram.{Datagram, Body}
use Rattle.bar_wire.specs.declared.kind.Kind.TheVariants as kinds
use Rattle.bar_rules.specs.Member.{Member}
use Rattle.bar_rules.specs.Peer.Agreement.{IsRecent}
use Rattle.bar_rules.specs.Peer.Exchanges.{role_of, recent_of}
use Rattle.bar_rules.specs.Peer.Knowledge.{Knowledge, nothing, this_round, with_tick}
use Rattle.bar_rules.specs.Peer.Terms.{terms_by, offer_terms, body_on}
use Rattle.bar_ledger.specs.declared.ledger.Ledger.{Ledger}
use Rattle.bar_ledger.specs.Code.Asking.{is_asked, opens_of}
use Rattle.bar_ledger.specs.Code.Kept.{Kept, is_for, is_recent}
use Rattle.bar_ledger.specs.Code.Lookups.{KeepsRecent, said_by}
use Rattle.bar_ledger.specs.Code.Memory.{entries_in, find_in, opens_in}
use Rattle.bar_ledger.specs.Code.Recalls.{IsKeptBy, complete_terms}
use Rattle.bar_ledger.specs.Code.Recalling.{StartsFrom, GivesUp}

-- nothing was said or heard on a side
none-on : {A : Type 0} (f : Body → Option A) (b : Bool) → option_and_then f (option_map (λ (d : Datagram). d.message.body) (if b then None else None)) ≡ None
none-on f true = refl
none-on f false = refl

none-terms : (me : Member) (x : Exchange) (kind : XKind) → terms_by kind me nothing x ≡ None
none-terms me x Balanced = refl
none-terms me x Push = ap (λ o. offer_terms o (option_and_then reply_in (body_on me nothing kinds.Reply x Responder))) (none-on offer_in (same_role (role_of me x) Initiator))

none-found : (l : Ledger) (x : Exchange) → entries_in l ≡ [] → find_in l x ≡ None
none-found l x none = ap (find (is_for x)) none

pub starts : (l : Ledger) → entries_in l ≡ [] → l.round ≡ 0 → StartsFrom l
starts l none round me party most shape = record {
  party = party;
  cap = most;
  shape = shape;
  round = round;
  heard = λ kind x role r. sym (ap (option_and_then _) (none-found l x none));
  said = λ kind x role r. sym (ap (λ o. option_map_or (said_by kind role) o false) (none-found l x none));
  seats = λ x r. sym (ap (option_and_then _) (none-found l x none));
  asked = λ kind round r. sym (ap (count_by (is_asked kind round)) none);
  revealed = λ x r. sym (ap (option_and_then _) (none-found l x none));
  answers = λ x r. none-on history_in (same_role (role_of me x) Responder) ∙ sym (ap (option_and_then _) (none-found l x none));
  offers = λ x r. none-on offer_in (same_role (role_of me x) Initiator) ∙ sym (ap (option_and_then _) (none-found l x none));
  replies = λ x r. none-on reply_in (same_role (role_of me x) Responder) ∙ sym (ap (option_and_then _) (none-found l x none));
  terms = λ x r. none-terms me x x.kind ∙ sym (ap (option_and_then complete_terms) (none-found l x none));
  kept = λ x. subst (λ o. IfSome o (IsKeptBy me x)) (sym (none-found l x none)) tt;
  opens = sym (ap opens_of none);
}

-- an exchange that is found later was found before
kept-later : (me : Member) (x : Exchange) (b : Bool) (o : Option Kept) → IfSome o (IsKeptBy me x) → IfSome (if b then o else None) (IsKeptBy me x)
kept-later me x true o h = h
kept-later me x false o h = tt

terms-ticked : (me : Member) (k : Knowledge) (x : Exchange) (kind : XKind) → terms_by kind me (with_tick me k) x ≡ terms_by kind me k x
terms-ticked me k x Balanced = refl
terms-ticked me k x Push = refl

pub gives_up : (old new : Ledger) (now : ℕ) → new.me ≡ old.me → new.cap ≡ old.cap → new.shape ≡ old.shape → new.round ≡ now
    → ((y : Exchange) → find_in new y ≡ (if is_recent old.shape.life now y then find_in old y else None)) → KeepsRecent old new now → GivesUp now old new
gives_up old new now party most shape round found keeps me k h is = record {
  party = party ∙ h.party;
  cap = most ∙ h.cap;
  shape = shape ∙ h.shape;
  round = round ∙ is;
  heard = λ kind x role r. h.heard kind x role (before x.round r) ∙ sym (keeps.heard kind role x (late x.round r));
  said = λ kind x role r. h.said kind x role (before x.round r) ∙ sym (keeps.said kind role x (late x.round r));
  seats = λ x r. h.seats x (before x.round r) ∙ sym (keeps.seats x (late x.round r));
  asked = λ kind round r. h.asked kind round (before round r) ∙ sym (keeps.asked kind round (late round r));
  revealed = λ x r. h.revealed x (before x.round r) ∙ sym (keeps.revealed x (late x.round r));
  answers = λ x r. h.answers x (before x.round r) ∙ sym (keeps.answers x (late x.round r));
  offers = λ x r. h.offers x (before x.round r) ∙ sym (keeps.offers x (late x.round r));
  replies = λ x r. h.replies x (before x.round r) ∙ sym (keeps.replies x (late x.round r));
  terms = λ x r. terms-ticked me k x x.kind ∙ h.terms x (before x.round r) ∙ sym (ap (option_and_then complete_terms) (found x ∙ ap (λ b. if b then find_in old x else None) (le-leb now (x.round + old.shape.life) (late x.round r))));
  kept = λ x. subst (λ o. IfSome o (IsKeptBy me x)) (sym (found x)) (kept-later me x (is_recent old.shape.life now x) (find_in old x) (h.kept x));
  opens = ap (recent_of me.session (this_round (with_tick me k))) h.opens ∙ ap (λ n. recent_of me.session n (opens_in old)) (sym is) ∙ sym (keeps.opens me.session (ap (λ s. s.life) (sym h.shape)));
}
  where
    before : (r : ℕ) → IsRecent me (with_tick me k) r → IsRecent me k r
    before r recent = omega (arith, recent)

    late : (r : ℕ) → IsRecent me (with_tick me k) r → now ≤ r + old.shape.life
    late r recent = let life : old.shape.life ≡ me.session.shape.life = ap (λ s. s.life) h.shape in omega (arith, recent, is, life)

-- If a message of an exchange is said and its entry changes with it, the ledger recalls the new knowledge.
use Rattle.std.proofs.Common.{◌≡◌, ℕ, ◌+◌, ◌≤◌, true, false, Option, Some, None, sym, ap, subst, ◌∙◌, inl, inr, arith}
use Rattle.std.specs.Prelude.{option_map, IfSome, if◌then◌else◌}
use Rattle.std.specs.Option.{option_and_then}
use Rattle.std.specs.Bool.{then_some}
use Rattle.std.specs.List.{find}
use Rattle.std.proofs.lemmas.Bool.{cases_Bool, le-leb}
use Rattle.bar_window.specs.declared.exchange.Exchange.{Exchange}
use Rattle.bar_window.specs.declared.exchange.Role.TheVariants.{Initiator}
use Rattle.bar_window.specs.declared.exchange.XKind.{XKind}
use Rattle.bar_window.specs.Exchange.{same_exchange}
use Rattle.bar_window.proofs.Exchanges.{same_exchange-is, same_exchange_refl}
use Rattle.bar_wire.specs.Datagram.{Datagram, Place}
use Rattle.bar_wire.specs.declared.kind.Kind.{Kind}
use Rattle.bar_rules.specs.Member.{Member, Session}
use Rattle.bar_rules.specs.Peer.Agreement.{IsRecent}
use Rattle.bar_rules.specs.Peer.Exchanges.{recent_of, with_exchange}
use Rattle.bar_rules.specs.Peer.Knowledge.{Knowledge, this_round, with_said}
use Rattle.bar_ledger.specs.declared.entry.Entry.{Entry}
use Rattle.bar_ledger.specs.declared.ledger.Ledger.{Ledger}
use Rattle.bar_ledger.specs.Code.Asking.{asked_as, open_of}
use Rattle.bar_ledger.specs.Code.Kept.{Kept, is_for, is_recent, newly, with_new}
use Rattle.bar_ledger.specs.Code.Memory.{entries_in, find_in, asked_in, opens_in, added, HasSame, StaysOpen}
use Rattle.bar_ledger.specs.Code.Recalls.{Recalls, IsKeptBy}
use Rattle.bar_ledger.proofs.Giving.{entries-later, found-passing}
use Rattle.bar_ledger.proofs.Recent.{keeps-recent}
use Rattle.bar_exchange.specs.Code.Keeping.{IsSaidNow}
use Rattle.bar_exchange.proofs.One.{RecallsOne, RecallsRest, one_of, all_of}
use Rattle.bar_exchange.proofs.Said.{other_same}
use Rattle.bar_exchange.proofs.Same.{same_one}

-- the open exchanges may still be asked about
opens_recent : (s : Session) (l : Ledger) → s.shape.life ≡ l.shape.life → opens_in l ≡ recent_of s l.round (opens_in l)
opens_recent s l life =
    let all = entries-later l.shape.life l.round l.round l.slots.items (omega arith) in
    (keeps-recent l l l.round (λ y. ap (find (is_for y)) all ∙ found-passing y (is_recent l.shape.life l.round) (entries_in l)) all).opens s life

-- The entry of one exchange changes, and the exchange is open afterwards.
pub record IsChangedAt (x : Exchange) (o : Option Kept) (old new : Ledger) : Type 0 where
  pub here : find_in new x ≡ o
  pub other : (y : Exchange) → same_exchange x y ≡ false → find_in new y ≡ find_in old y
  pub asked : (kind : XKind) (round : ℕ) → asked_in new kind round ≡ asked_in old kind round
  pub opens : opens_in new ≡ with_exchange (Some x) (opens_in old)
  pub same : HasSame old new

pub changed_recalls : (me : Member) (k : Knowledge) (d : Datagram) (kind : Kind) (x : Exchange) (o : Option Kept) (old new : Ledger) → Recalls me k old
    → IsSaidNow me k d kind x → IsChangedAt x o old new → RecallsOne me (with_said me d k) x o → IfSome o (IsKeptBy me x) → Recalls me (with_said me d k) new
changed_recalls me k d kind x o old new h s c one own =
    let round : new.round ≡ this_round k = c.same.round ∙ h.round in
    let shape : new.shape ≡ me.session.shape = c.same.shape ∙ h.shape in
    let rest : RecallsRest me (with_said me d k) new = record {
      party = c.same.me ∙ h.party;
      cap = c.same.cap ∙ h.cap;
      shape = shape;
      round = round;
      asked = λ kind round recent. h.asked kind round recent ∙ sym (c.asked kind round);
      kept = kept;
      opens =
          (λ i. recent_of me.session (this_round k) (with_exchange (option_map (λ (p : Place). p.exchange) (s.place_is i)) (h.opens i)))
          ∙ (λ i. recent_of me.session (sym round i) (sym c.opens i))
          ∙ sym (opens_recent me.session new (ap (λ s. s.life) (sym shape)));
    } in
    all_of me (with_said me d k) new rest each
  where
    kept : (y : Exchange) → IfSome (find_in new y) (IsKeptBy me y)
    kept y = elim (cases_Bool (same_exchange x y)) [
      | inl t ↦ subst (λ (y : Exchange). IfSome (find_in new y) (IsKeptBy me y)) (same_exchange-is x y t) (subst (λ (o : Option Kept). IfSome o (IsKeptBy me x)) (sym c.here) own)
      | inr f ↦ subst (λ (o : Option Kept). IfSome o (IsKeptBy me y)) (sym (c.other y f)) (h.kept y)
    ]

    each : (y : Exchange) → IsRecent me k y.round → RecallsOne me (with_said me d k) y (find_in new y)
    each y recent = elim (cases_Bool (same_exchange x y)) [
      | inl t ↦ subst (λ (y : Exchange). RecallsOne me (with_said me d k) y (find_in new y)) (same_exchange-is x y t) (subst (RecallsOne me (with_said me d k) x) (sym c.here) one)
      | inr f ↦
          subst (RecallsOne me (with_said me d k) y) (sym (c.other y f))
          (same_one me k (with_said me d k) y (find_in old y) (other_same me k d kind x y s f) (one_of me k old h y recent))
    ]

-- ---- for the calls of a ledger

-- The entry replaces the old one.
pub record IsSet (old new : Ledger) (e : Entry) : Type 0 where
  pub found : (y : Exchange) → find_in new y ≡ (if same_exchange e.x y then option_map (with_new e) (find_in old y) else find_in old y)
  pub asked : (kind : XKind) (round : ℕ) → asked_in new kind round + asked_as kind round (find_in old e.x)
      ≡ asked_in old kind round + asked_as kind round (option_map (with_new e) (find_in old e.x))
  pub opens : StaysOpen e (find_in old e.x) → opens_in new ≡ with_exchange (then_some e.first_said e.x) (opens_in old)
  pub same : HasSame old new

-- an entry whose first message is said stays open, whatever it replaces
stays_open : (e : Entry) (o : Option Kept) → e.first_said ≡ true → StaysOpen e o
stays_open e None first = tt
stays_open e (Some k) first = λ was. first

pub set_changes : (old new : Ledger) (x : Exchange) (e : Entry) (kept : Kept) → IsSet old new e → find_in old x ≡ Some kept → e.x ≡ x → kept.entry.x ≡ x → e.role ≡ kept.entry.role
    → e.first_said ≡ true → IsChangedAt x (Some (with_new e kept)) old new
set_changes old new x e kept s is named was role first = record {
  here = s.found x ∙ (λ i. if same_exchange (named i) x then option_map (with_new e) (is i) else find_in old x)
      ∙ ap (λ b. if b then Some (with_new e kept) else find_in old x) (same_exchange_refl x);
  other = λ y f. s.found y ∙ (λ i. if same_exchange (named i) y then option_map (with_new e) (find_in old y) else find_in old y)
      ∙ ap (λ b. if b then option_map (with_new e) (find_in old y) else find_in old y) f;
  asked = λ kind round.
      let at : find_in old e.x ≡ Some kept = ap (find_in old) named ∙ is in
      let alike : asked_as kind round (Some kept) ≡ asked_as kind round (Some (with_new e kept)) =
      λ i. asked_as kind round (Some (with_new (record e { x = (was ∙ sym named) i; role = sym role i }) kept)) in
      let before = ap (asked_as kind round) at in
      let after = ap (λ o. asked_as kind round (option_map (with_new e) o)) at in
      omega (arith, s.asked kind round, alike, before, after);
  opens = s.opens (stays_open e (find_in old e.x) first) ∙ (λ i. with_exchange (then_some (first i) (named i)) (opens_in old));
  same = s.same;
}

-- The entry of one more exchange is added.
pub record IsAdded (old new : Ledger) (e : Entry) : Type 0 where
  pub found : (y : Exchange) → find_in new y ≡ (if same_exchange e.x y then added old e else find_in old y)
  pub asked : (kind : XKind) (round : ℕ) → asked_in new kind round ≡ asked_in old kind round + asked_as kind round (added old e)
  pub opens : opens_in new ≡ with_exchange (option_and_then open_of (added old e)) (opens_in old)
  pub same : HasSame old new

pub add_changes : (old new : Ledger) (e : Entry) → IsAdded old new e → old.round ≤ e.x.round + old.shape.life → e.role ≡ Initiator
    → e.first_said ≡ true → IsChangedAt e.x (Some (newly e)) old new
add_changes old new e s recent role first =
    let there : added old e ≡ Some (newly e) = ap (λ b. then_some b (newly e)) (le-leb old.round (e.x.round + old.shape.life) recent) in
    record {
      here = s.found e.x ∙ ap (λ b. if b then added old e else find_in old e.x) (same_exchange_refl e.x) ∙ there;
      other = λ y f. s.found y ∙ ap (λ b. if b then added old e else find_in old y) f;
      asked = λ kind round.
          let none : asked_as kind round (added old e) ≡ 0 =
          ap (asked_as kind round) there ∙ (λ i. asked_as kind round (Some (newly (record e { role = role i })))) in
          omega (arith, s.asked kind round, none);
      opens = s.opens ∙ ap (λ o. with_exchange (option_and_then open_of o) (opens_in old)) there ∙ ap (λ b. with_exchange (then_some b e.x) (opens_in old)) first;
      same = s.same;
    }

-- A ledger in which one exchange changes.
use Rattle.std.proofs.Common.{◌≡◌, ◌∙◌, ℕ, ◌+◌, ◌≤◌, false, sym, ap, subst, inl, inr}
use Rattle.std.specs.Prelude.{IfSome}
use Rattle.std.proofs.lemmas.Bool.{cases_Bool}
use Rattle.bar_window.specs.declared.exchange.Exchange.{Exchange}
use Rattle.bar_window.specs.declared.exchange.XKind.{XKind}
use Rattle.bar_window.specs.Exchange.{same_exchange}
use Rattle.bar_window.proofs.Exchanges.{same_exchange-is}
use Rattle.bar_session.specs.Time.{round_after}
use Rattle.bar_rules.specs.Member.{Member}
use Rattle.bar_rules.specs.Peer.Agreement.{IsRecent}
use Rattle.bar_rules.specs.Peer.Knowledge.{Knowledge}
use Rattle.bar_ledger.specs.declared.ledger.Ledger.{Ledger}
use Rattle.bar_ledger.specs.Code.Memory.{HasSame, find_in, asked_in, opens_in}
use Rattle.bar_ledger.specs.Code.Recalls.{Recalls, IsKeptBy}
use Rattle.bar_exchange.proofs.One.{RecallsOne, RecallsRest, one_of, all_of}
use Rattle.bar_exchange.proofs.Same.{SameOne, same_one}

-- Only one exchange changes, in the knowledge and in the ledger, and the ledger recalls the new knowledge of it.
pub record ChangesOne (me : Member) (k new : Knowledge) (old l : Ledger) (y : Exchange) : Type 0 where
  pub same : HasSame old l
  pub ticks : new.ticks ≡ k.ticks
  pub asked : (kind : XKind) (round : ℕ) → IsRecent me k round → new.asked kind round ≡ asked_in l kind round
  pub opens : new.opens ≡ opens_in l
  pub others : (x : Exchange) → same_exchange y x ≡ false → SameOne k new x
  pub stays : (x : Exchange) → same_exchange y x ≡ false → find_in l x ≡ find_in old x
  pub one : IsRecent me k y.round → RecallsOne me new y (find_in l y)
  pub kept : IfSome (find_in l y) (IsKeptBy me y)

pub recalls_change : (me : Member) (k new : Knowledge) (old l : Ledger) (y : Exchange) → Recalls me k old → ChangesOne me k new old l y → Recalls me new l
recalls_change me k new old l y h c = all_of me new l rest each
  where
    before : (r : ℕ) → IsRecent me new r → IsRecent me k r
    before r recent = subst (λ t. round_after t ≤ r + me.session.shape.life) c.ticks recent

    rest : RecallsRest me new l
    rest = record {
      party = c.same.me ∙ h.party;
      cap = c.same.cap ∙ h.cap;
      shape = c.same.shape ∙ h.shape;
      round = c.same.round ∙ h.round ∙ ap round_after (sym c.ticks);
      asked = λ kind round recent. c.asked kind round (before round recent);
      kept = λ x. elim (cases_Bool (same_exchange y x)) [
        | inl e ↦ subst (λ x. IfSome (find_in l x) (IsKeptBy me x)) (same_exchange-is y x e) c.kept
        | inr e ↦ subst (λ o. IfSome o (IsKeptBy me x)) (sym (c.stays x e)) (h.kept x)
      ];
      opens = c.opens;
    }

    each : (x : Exchange) → IsRecent me new x.round → RecallsOne me new x (find_in l x)
    each x recent = elim (cases_Bool (same_exchange y x)) [
      | inl e ↦ subst (λ x. IsRecent me k x.round → RecallsOne me new x (find_in l x)) (same_exchange-is y x e) c.one (before x.round recent)
      | inr e ↦ subst (λ o. RecallsOne me new x o) (sym (c.stays x e)) (same_one me k new x (find_in old x) (c.others x e) (one_of me k old h x (before x.round recent)))
    ]

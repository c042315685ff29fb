-- The terms of a kept exchange.
use Rattle.std.proofs.Common.{◌≡◌, ◌∙◌, true, Option, Some, None, sym, ap, subst}
use Rattle.std.specs.Prelude.{option_map, option_and_then, IfSome}
use Rattle.std.specs.Bool.{then_some}
use Rattle.bar_window.specs.declared.exchange.Exchange.{Exchange}
use Rattle.bar_window.specs.Terms.{plain_terms}
use Rattle.bar_wire.specs.Code.Views.{AreTermWindows}
use Rattle.bar_rules.specs.Member.{Member}
use Rattle.bar_rules.specs.Peer.Agreement.{IsRecent}
use Rattle.bar_rules.specs.Peer.Knowledge.{Knowledge}
use Rattle.bar_rules.specs.Peer.Terms.{terms_of}
use Rattle.bar_ledger.specs.declared.entry.Entry.{Entry}
use Rattle.bar_ledger.specs.declared.ledger.Ledger.{Ledger}
use Rattle.bar_ledger.specs.Code.Kept.{Kept}
use Rattle.bar_ledger.specs.Code.Memory.{find_in}
use Rattle.bar_ledger.specs.Code.Recalls.{Recalls, IsKeptBy, complete_terms, kind_of_terms}

-- The entry of an exchange is complete: its windows are of the round, and its terms are those of the exchange.
pub record IsComplete (me : Member) (k : Knowledge) (x : Exchange) (e : Entry) : Type 0 where
  pub windows : AreTermWindows me.session.shape x.round e.terms
  pub form : kind_of_terms (plain_terms e.terms) ≡ x.kind
  pub terms : terms_of me k x ≡ Some (plain_terms e.terms)

pub complete_is : (me : Member) (k : Knowledge) (l : Ledger) (x : Exchange) (e : Entry) → Recalls me k l → IsRecent me k x.round
    → Some e ≡ option_map (λ kept. kept.entry) (find_in l x) → e.complete ≡ true → IsComplete me k x e
complete_is me k l x e h recent same full = go (find_in l x) same (h.kept x) (h.terms x recent)
  where
    go : (o : Option Kept) → Some e ≡ option_map (λ kept. kept.entry) o → IfSome o (IsKeptBy me x) → terms_of me k x ≡ option_and_then complete_terms o
        → IsComplete me k x e
    go None s own terms = absurd (cc)
    go (Some kept) s own terms =
        let is : kept.entry ≡ e = cc in
        record {
          windows = subst (λ (e : Entry). AreTermWindows me.session.shape x.round e.terms) is own.windows;
          form = ap (λ (e : Entry). kind_of_terms (plain_terms e.terms)) (sym is) ∙ own.form;
          terms = terms ∙ ap (λ (e : Entry). then_some e.complete (plain_terms e.terms)) is ∙ ap (λ b. then_some b (plain_terms e.terms)) full;
        }

-- The look-ups of exchanges that may still be asked about are unchanged.
use Rattle.std.proofs.Common.{◌≡◌, ℕ, ◌+◌, ◌≤◌, true, false, None, sym, ap, ◌∙◌, arith, count_by}
use Rattle.std.specs.Prelude.{filter, option_and_then, if◌then◌else◌}
use Rattle.std.specs.Option.{option_map_or}
use Rattle.std.proofs.lemmas.Bool.Decides.{nat_tests}
use Rattle.std.proofs.lemmas.Bool.{le-leb, leb-true}
use Rattle.bar_window.specs.declared.exchange.Exchange.{Exchange}
use Rattle.bar_window.specs.declared.exchange.XKind.{XKind}
use Rattle.bar_ledger.specs.declared.ledger.Ledger.{Ledger}
use Rattle.bar_ledger.specs.Code.Asking.{is_asked, opens_of}
use Rattle.bar_ledger.specs.Code.Kept.{Kept, is_recent}
use Rattle.bar_ledger.specs.Code.Lookups.{KeepsRecent, said_by}
use Rattle.bar_ledger.specs.Code.Memory.{find_in, entries_in}
use Rattle.bar_ledger.proofs.Giving.{passing, count-passing}
use Rattle.bar_ledger.proofs.Opens.{IsUpward, opens-passing}
use Rattle.bar_rules.proofs.Inserted.{precedes-round}

asked-recent : (life now : ℕ) (kind : XKind) (round : ℕ) → now ≤ round + life → (k : Kept) → is_asked kind round k ≡ true → is_recent life now k.entry.x ≡ true
asked-recent life now kind round le k e =
    let at : k.entry.x.round ≡ round = grind (arith, nat_tests, e) in
    le-leb now (k.entry.x.round + life) (omega (arith, at, le))

recent-upward : (life now : ℕ) → IsUpward (is_recent life now)
recent-upward life now = record {
  up = λ x y below t. le-leb now (y.round + life) (omega (arith, precedes-round x y below, leb-true now (x.round + life) t));
}

pub keeps-recent : (old new : Ledger) (now : ℕ) → ((y : Exchange) → find_in new y ≡ (if is_recent old.shape.life now y then find_in old y else None))
    → entries_in new ≡ passing (is_recent old.shape.life now) (entries_in old) → KeepsRecent old new now
keeps-recent old new now found entries =
    let life : ℕ = old.shape.life in
    let same = λ (x : Exchange) (le : now ≤ x.round + old.shape.life). found x ∙ ap (λ b. if b then find_in old x else None) (le-leb now (x.round + life) le) in
    record {
      heard = λ kind role x le. ap (option_and_then _) (same x le);
      said = λ kind role x le. ap (λ o. option_map_or (said_by kind role) o false) (same x le);
      seats = λ x le. ap (option_and_then _) (same x le);
      asked = λ kind round le. ap (count_by (is_asked kind round)) entries ∙ count-passing (is_asked kind round) (is_recent life now) (entries_in old) (asked-recent life now kind round le);
      revealed = λ x le. ap (option_and_then _) (same x le);
      answers = λ x le. ap (option_and_then _) (same x le);
      offers = λ x le. ap (option_and_then _) (same x le);
      replies = λ x le. ap (option_and_then _) (same x le);
      opens = λ s e. ap opens_of entries ∙ opens-passing (is_recent life now) (recent-upward life now) (entries_in old) ∙ ap (λ l. filter (is_recent l now) (opens_of (entries_in old))) (sym e);
    }

-- The knowledge of a part of the terms, from the entry of an exchange.
use Rattle.std.proofs.Common.{◌≡◌, ◌∙◌, Bool, true, false, Option, Some, None, if◌then◌else◌, refl, sym, ap}
use Rattle.std.specs.Prelude.{option_map, option_and_then, IfSome}
use Rattle.std.specs.Option.{option_map_or}
use Rattle.bar_window.specs.declared.exchange.Exchange.{Exchange}
use Rattle.bar_window.specs.declared.exchange.Role.{Role}
use Rattle.bar_window.specs.declared.exchange.XKind.{XKind}
use Rattle.bar_window.specs.declared.terms.Terms.{Terms as WindowTerms}
use Rattle.bar_window.specs.Terms.{Terms, plain_terms}
use Rattle.bar_rules.specs.Member.{Member}
use Rattle.bar_ledger.specs.declared.ledger.Ledger.{Ledger}
use Rattle.bar_ledger.specs.Code.Kept.{Kept}
use Rattle.bar_ledger.specs.Code.Lookups.{if_known, is_known_in}
use Rattle.bar_ledger.specs.Code.Memory.{find_in}
use Rattle.bar_ledger.specs.Code.Recalls.{IsKeptBy, kind_of_terms}

-- a part of the terms that a ledger knows
abbrev pub part_in : {X : Type 0} → (Role → Kept → Bool) → (Terms → Option X) → Ledger → Exchange → Option X
part_in knows part l x = option_and_then (λ kept. if_known (knows kept.entry.role kept) part kept) (find_in l x)

pub not_known : {X : Type 0} (knows : Role → Kept → Bool) (part : Terms → Option X) (l : Ledger) (x : Exchange) (b : Bool)
    → b ≡ is_known_in knows l x → b ≡ false → part_in knows part l x ≡ None
not_known {X = X} knows part l x b is lacks = go (find_in l x) (sym is ∙ lacks)
  where
    go : (found : Option Kept) → option_map_or (λ kept. knows kept.entry.role kept) found false ≡ false
        → option_and_then (λ kept. if_known (knows kept.entry.role kept) part kept) found ≡ None
    go None lacks = refl
    go (Some kept) lacks = ap (λ b. if b then part (plain_terms kept.entry.terms) else None) lacks

pub is_known : {X : Type 0} (knows : Role → Kept → Bool) (part : Terms → Option X) (l : Ledger) (x : Exchange) (b : Bool) (o : Option WindowTerms)
    → b ≡ is_known_in knows l x → b ≡ true → o ≡ option_map (λ kept. kept.entry.terms) (find_in l x)
    → part_in knows part l x ≡ option_and_then (λ t. part (plain_terms t)) o
is_known {X = X} knows part l x b o is has same =
    go (find_in l x) (sym is ∙ has) ∙ ap (option_and_then (λ t. part (plain_terms t))) (sym same)
  where
    go : (found : Option Kept) → option_map_or (λ kept. knows kept.entry.role kept) found false ≡ true
        → option_and_then (λ kept. if_known (knows kept.entry.role kept) part kept) found
        ≡ option_and_then (λ t. part (plain_terms t)) (option_map (λ kept. kept.entry.terms) found)
    go None has = refl
    go (Some kept) has = ap (λ b. if b then part (plain_terms kept.entry.terms) else None) has

-- the terms of an exchange contain no part of the other kind of exchange
pub no_part : {X : Type 0} (knows : Role → Kept → Bool) (part : Terms → Option X) (kind : XKind) → ((t : Terms) → kind_of_terms t ≡ kind → part t ≡ None)
    → (me : Member) (l : Ledger) (x : Exchange) → IfSome (find_in l x) (IsKeptBy me x) → x.kind ≡ kind → part_in knows part l x ≡ None
no_part {X = X} knows part kind none me l x own is = go (find_in l x) own
  where
    unless : (b : Bool) (o : Option X) → o ≡ None → (if b then o else None) ≡ None
    unless true o e = e
    unless false o e = refl

    go : (found : Option Kept) → IfSome found (IsKeptBy me x) → option_and_then (λ kept. if_known (knows kept.entry.role kept) part kept) found ≡ None
    go None own = refl
    go (Some kept) own = unless (knows kept.entry.role kept) (part (plain_terms kept.entry.terms)) (none (plain_terms kept.entry.terms) (own.form ∙ is))

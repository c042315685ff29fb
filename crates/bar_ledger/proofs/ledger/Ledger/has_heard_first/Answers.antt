use Rattle.std.proofs.Common.{◌≡◌, ◌∙◌, true, false, Option, Some, None, is_some, sym, ap, refl}
use Rattle.std.specs.Prelude.{option_map}
use Rattle.std.specs.Option.{option_map_or}
use Rattle.std.proofs.lemmas.Bool.{false≢true}
use Rattle.bar_bytes.proofs.Options.{some-copied}
use Rattle.bar_ledger.specs.declared.entry.Entry.{Entry}
use Rattle.bar_ledger.specs.declared.slot.Slot.{Slot}
use Rattle.bar_ledger.specs.Code.Kept.{kept_of, with_rooms}
use Rattle.bar_ledger.specs.Code.Memory.{find_in}
use Rattle.bar_ledger.proofs.ledger.Ledger.has_heard_first.Goals as goal

-- the kept state of an exchange contains the first datagram of its slot
first_kept : (s : Slot) (e : Option Entry) → s.entry ≡ e → is_some (kept_of s) ≡ true
    → is_some s.first.kept ≡ option_map_or (λ kept. is_some kept.first) (kept_of s) false
first_kept s (Some e) at some = sym (ap (λ o. option_map_or (λ kept. is_some kept.first) (option_map (with_rooms s) o) false) at)
first_kept s None at some = absurd (false≢true (sym (ap (λ o. is_some (option_map (with_rooms s) o)) at) ∙ some))

pub returns-in-Some : goal.returns-in-Some
returns-in-Some c =
    let s : Slot = c.in-Some.slot.now in
    let kept : kept_of s ≡ find_in c.args.self.now c.args.x = c.in-Some.ensures.kept in
    c.is_some.ensures
    ∙ sym (some-copied c.kept.result)
    ∙ ap (λ o. is_some o) c.kept.ensures
    ∙ first_kept s s.entry refl (ap (λ o. is_some o) kept ∙ sym c.in-Some.ensures.some)
    ∙ ap (λ o. option_map_or (λ kept. is_some kept.first) o false) kept

use Rattle.std.proofs.Common.{◌≡◌, ◌∙◌, true, false, Option, Some, None, is_some, refl, sym, subst}
use Rattle.std.specs.Prelude.{option_map, option_copied}
use Rattle.std.specs.Borrow.{Bor}
use Rattle.std.proofs.lemmas.Bool.{false≢true}
use Rattle.std.proofs.lemmas.Option.{none-some}
use Rattle.bar_wire.specs.declared.kind.Kind.{Kind}
use Rattle.bar_ledger.specs.declared.entry.Entry.{Entry}
use Rattle.bar_ledger.specs.Code.Kept.{Kept, with_bytes}
use Rattle.bar_ledger.specs.Code.Memory.{MayHear}
use Rattle.bar_exchange.specs.Code.Parts.{ChangesKept}
use Rattle.bar_exchange.proofs.Asked.{AddsEntry, has_seat, has_room, not_kept, may_hear_request, request_learned}
use Rattle.bar_exchange.proofs.keep.keep_request.Goals as goal

none_if : {A : Type 0} (o : Option A) → ((a : A) → o ≡ Some a → ⊥) → o ≡ None
none_if None none = refl
none_if (Some a) none = absurd (none a refl)

found_entry : (r : Option (Bor Entry)) (o : Option Kept) → option_copied r ≡ option_map (λ (k : Kept). k.entry) o → is_some r ≡ true → is_some o ≡ true
found_entry None o e some = absurd (false≢true some)
found_entry (Some b) None e some = absurd (none-some b.now (sym e))
found_entry (Some b) (Some k) e some = refl

found_none : (r : Option (Bor Entry)) (o : Option Kept) → option_copied r ≡ option_map (λ (k : Kept). k.entry) o → is_some r ≡ false → o ≡ None
found_none (Some b) o e none = absurd (false≢true (sym none))
found_none None (Some k) e none = absurd (none-some k.entry e)
found_none None None e none = refl

pub returns-in_default-clause-learns : goal.returns-in_default-clause-learns
returns-in_default-clause-learns c me k d member h now room new at begun =
    absurd (has_seat me k c.args.ledger.now d c.args.bytes.now c.args.x c.args.terms
    (record { member = member; recalled = h; now = now; room = room; new = new; at = at; begun = begun })
    (sym c.seat.ensures ∙ none_if c.seat.result c.in_default.not-Some))

pub returns-then-not-has_room-clause-learns : goal.returns-then-not-has_room-clause-learns
returns-then-not-has_room-clause-learns c me k d member h now room new at begun =
    absurd (false≢true (sym c.if-not-has_room.true ∙ c.has_room.ensures.few ∙ has_room me k c.args.ledger.now d c.args.bytes.now c.args.x c.args.terms
    (record { member = member; recalled = h; now = now; room = room; new = new; at = at; begun = begun })
    c.has_room.ensures.distinct c.has_room.ensures.each))

pub returns-then-is_some-clause-learns : goal.returns-then-is_some-clause-learns
returns-then-is_some-clause-learns c me k d member h now room new at begun =
    absurd (not_kept me k c.args.ledger.now d c.args.bytes.now c.args.x c.args.terms
    (record { member = member; recalled = h; now = now; room = room; new = new; at = at; begun = begun })
    (found_entry c.find.result _ c.find.ensures.entry (sym c.is_some.ensures ∙ c.if-is_some.true)))

pub returns-then-not-may_hear-clause-learns : goal.returns-then-not-may_hear-clause-learns
returns-then-not-may_hear-clause-learns c me k d member h now room new at begun =
    let may = may_hear_request me k c.args.ledger.now c.add.new.self d c.args.bytes.now c.args.x c.in-Some.seat c.args.terms
    (record { member = member; recalled = h; now = now; room = room; new = new; at = at; begun = begun })
    (subst (AddsEntry c.args.ledger.now c.add.new.self) c.asked_entry.ensures
    (record { found = c.add.ensures.found; asked = c.add.ensures.asked; opens = c.add.ensures.opens; same = c.add.ensures.same })) in
    absurd (false≢true (sym c.if-not-may_hear.true
    ∙ c.may_hear.ensures.complete (subst (λ (kind : Kind). MayHear c.add.new.self c.args.x kind c.args.bytes.now) (sym c.opening_kind-kind.ensures) may)))

pub returns-clause-learns : goal.returns-clause-learns
returns-clause-learns c me k d member h now room new at begun =
    request_learned me k c.args.ledger.now c.add.new.self c.hear.new.self d c.args.bytes.now c.args.x c.in-Some.seat c.args.terms
    (record { member = member; recalled = h; now = now; room = room; new = new; at = at; begun = begun })
    (found_none c.find.result _ c.find.ensures.entry (sym c.is_some.ensures ∙ c.if-is_some.false))
    (sym c.in-Some.is ∙ c.seat.ensures)
    (subst (AddsEntry c.args.ledger.now c.add.new.self) c.asked_entry.ensures
    (record { found = c.add.ensures.found; asked = c.add.ensures.asked; opens = c.add.ensures.opens; same = c.add.ensures.same }))
    (subst (λ (kind : Kind). ChangesKept c.add.new.self c.hear.new.self c.args.x (with_bytes kind c.args.bytes.now)) c.opening_kind-kind.ensures
    (record { found = c.hear.ensures.found; asked = c.hear.ensures.asked; opens = c.hear.ensures.opens; same = c.hear.ensures.same }))

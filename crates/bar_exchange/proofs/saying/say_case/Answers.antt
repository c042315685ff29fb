use Rattle.std.proofs.Common.{is_some, None, refl, ap}
use Rattle.std.proofs.lemmas.Bool.{both_ways}
use Rattle.bar_ledger.specs.declared.entry.Entry.{Entry}
use Rattle.bar_exchange.proofs.Marks.{found_by, one_found, kept_found, one_none, some_found, first_by_terms, complete_by_terms, case_recalls}
use Rattle.bar_exchange.proofs.saying.say_case.Goals as goal
use Rattle.bar_exchange.proofs.saying.say_case.Goals.{then-not-entry-via-then-not-entry, then-not-entry-via-else-not-entry+then-not-entry-2}

pub returns-in_default-clause-learns : goal.returns-in_default-clause-learns
returns-in_default-clause-learns c me k d h s known =
    let none = one_none me k c.args.ledger.now c.args.x h s.recent (some_found None _ c.in_default.ensures.entry) in
    absurd (both_ways _ (ap (λ o. is_some o) none.terms) known)

pub returns-then-not-entry-clause-learns : goal.returns-then-not-entry-clause-learns
returns-then-not-entry-clause-learns c me k d h s known =
    let e : Entry = c.in-Some.entry.now in
    let found = found_by c.args.ledger.now c.args.x c.in-Some.entry.now c.in-Some.ensures.entry in
    let one = one_found me k c.args.ledger.now c.args.x e h s.recent found in
    let own = kept_found me k c.args.ledger.now c.args.x e h found in
    elim c.then-not-entry.branch [
      | then-not-entry-via-then-not-entry w ↦ absurd (both_ways e.complete w.if-not-entry.true (complete_by_terms me k c.args.x _ one known))
      | then-not-entry-via-else-not-entry+then-not-entry-2 w ↦
          absurd (both_ways e.first_said w.if-not-entry-2.true (first_by_terms me k c.args.x _ one own known))
    ]

pub returns-clause-learns : goal.returns-clause-learns
returns-clause-learns c me k d h s known =
    let found = found_by c.args.ledger.now c.args.x c.in-Some.entry.now c.in-Some.ensures.entry in (
      refl,
      case_recalls me k d c.args.x c.args.ledger.now c.set.new.self c.in-Some.entry.now h s found c.if-not-entry-2.false
          (record { found = c.set.ensures.found; asked = c.set.ensures.asked; opens = c.set.ensures.opens; same = c.set.ensures.same }),
    )

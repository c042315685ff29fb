use Rattle.std.proofs.Common.{◌≡◌, ◌∙◌, ◌+◌, ◌||◌, sym, true, arith}
use Rattle.std.specs.List.{list_any}
use Rattle.std.proofs.lemmas.Bool.{or_left, or_right}
use Rattle.bar_window.specs.Code.Window.{members}
use Rattle.bar_terms.specs.Table.{digests_of}
use Rattle.bar_proof.proofs.PastRounds.{is_past_in, none-yet, none-more, first-is, none-is}
use Rattle.bar_proof.proofs.past.first_past.Goals.{then-has_past-via-then-has_past, then-has_past-via-else-has_past+then-has_past-2}
use Rattle.bar_proof.proofs.past.first_past.Goals as goal

pub loop-row-init : goal.loop-row-init
loop-row-init c = record {
  one = λ u has lt. none-yet (digests_of c.args.table.now.lists) c.args.one.now u has (omega (arith, lt));
  two = λ u has lt. none-yet (digests_of c.args.table.now.lists) c.args.two.now u has (omega (arith, lt, c.requires.base));
}

pub returns-then-has_past : goal.returns-then-has_past
returns-then-has_past c =
    let table = digests_of c.args.table.now.lists in
    let r = c.args.one.now.base + c.from.result in
    let us = members c.args.one.now in
    let vs = members c.args.two.now in
    let some : (list_any (is_past_in table r) us || list_any (is_past_in table r) vs) ≡ true = elim c.then-has_past.branch [
      | then-has_past-via-then-has_past w ↦ or_left _ _ (sym c.has_past.ensures ∙ w.if-has_past.true)
      | then-has_past-via-else-has_past+then-has_past-2 w ↦ or_right _ _ (sym w.has_past-else-has_past.ensures ∙ w.if-has_past-2.true)
    ] in
    sym
    (first-is table us vs r (λ u has lt. c.loop-row.invariant.one u has (omega (arith, lt, c.from.ensures)))
    (λ u has lt. c.loop-row.invariant.two u has (omega (arith, lt, c.from.ensures))) some)

pub loop-row-preserved : goal.loop-row-preserved
loop-row-preserved c =
    let table = digests_of c.args.table.now.lists in
    let r = c.args.one.now.base + c.from.result in
    record {
      one = λ u has lt.
          none-more table (members c.args.one.now) r (λ v there low. c.loop-row.invariant.one v there (omega (arith, low, c.from.ensures)))
          (sym c.has_past.ensures ∙ c.if-has_past.false) u has (omega (arith, lt, c.from.ensures));
      two = λ u has lt.
          none-more table (members c.args.two.now) r (λ v there low. c.loop-row.invariant.two v there (omega (arith, low, c.from.ensures)))
          (sym c.has_past-else-has_past.ensures ∙ c.if-has_past-2.false) u has (omega (arith, lt, c.from.ensures));
    }

pub returns : goal.returns
returns c =
    let r = c.args.one.now.base + c.loop-row.row in
    sym
    (none-is (digests_of c.args.table.now.lists) c.args.one.now c.args.two.now r (omega (arith, c.loop-row-test.false))
    (omega (arith, c.loop-row-test.false, c.requires.base, c.requires.used)) c.loop-row.invariant.one c.loop-row.invariant.two)

use Rattle.std.proofs.Common.{sym, ◌∙◌, arith}
use Rattle.bar_window.specs.Code.Window.{members}
use Rattle.bar_window.proofs.Widths.{most_places}
use Rattle.bar_terms.specs.Table.{digests_of}
use Rattle.bar_terms.proofs.Ends.{has_one, has_none}
use Rattle.bar_proof.proofs.PastRounds.{by-count, by-none}
use Rattle.bar_proof.proofs.past.has_past.Goals as goal

pub returns-in_default : goal.returns-in_default
returns-in_default c =
    sym (by-none (digests_of c.args.table.now.lists) (members c.args.window.now) c.args.round (sym c.count.ensures ∙ c.in_default.is))

pub returns-then-has : goal.returns-then-has
returns-then-has c =
    let us = members c.args.window.now in
    sym
    (sym (by-count (digests_of c.args.table.now.lists) us c.args.round c.in-Some.count (sym c.count.ensures ∙ c.in-Some.is))
    ∙ has_one us c.args.round c.in-Some.count c.loop-index.index c.loop-index.auto.index (sym c.has.ensures ∙ c.if-has.true))

pub returns : goal.returns
returns c =
    let w = c.args.window.now in
    sym
    (sym (by-count (digests_of c.args.table.now.lists) (members w) c.args.round c.in-Some.count (sym c.count.ensures ∙ c.in-Some.is))
    ∙ has_none w c.args.round c.in-Some.count
    (λ i low high. c.loop-index.invariant i low (omega (arith, high, most_places w.wide, c.loop-index-test.false))))

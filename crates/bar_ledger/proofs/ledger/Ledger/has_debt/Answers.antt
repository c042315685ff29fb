use Rattle.std.proofs.Common.{◌∙◌, ◌<◌, ◌||◌, length, sym, refl, arith}
use Rattle.bar_ledger.specs.Code.Debts.{is_owed}
use Rattle.bar_ledger.proofs.Loops.{any-more}
use Rattle.bar_ledger.proofs.Slots.{entries-none}
use Rattle.bar_ledger.proofs.ledger.Ledger.has_debt.Goals as goal

pub loop-place-init : goal.loop-place-init
loop-place-init c = rw (entries-none c.args.self.now.shape.life c.args.self.now.round) refl

pub loop-place-preserved : goal.loop-place-preserved
loop-place-preserved c =
    let l = c.args.self.now in
    let inside : c.loop-place.place < length l.slots.items = omega (arith, c.loop-place-test.true, c.len-place-end.ensures, l.slots.ok.0) in
    c.either-any.ensures
    ∙ (λ j. c.loop-place.invariant j || c.is_owed.ensures j)
    ∙ sym (any-more (is_owed l.shape.life c.args.party c.args.round) l.shape.life l.round l.slots.items c.loop-place.place c.index-slot.result.now inside c.index-slot.ensures)

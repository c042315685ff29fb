use Rattle.std.proofs.Common.{◌<◌, true, false, length, sym, ◌∙◌, refl, arith}
use Rattle.bar_ledger.specs.Code.Asking.{is_asked}
use Rattle.bar_ledger.proofs.Loops.{count-more}
use Rattle.bar_ledger.proofs.Slots.{entries-none}
use Rattle.bar_ledger.proofs.ledger.Ledger.asked.Goals as goal
use Rattle.bar_ledger.proofs.ledger.Ledger.asked.Goals.{then-is_asked, else-is_asked}

pub loop-place-init : goal.loop-place-init
loop-place-init c = rw (entries-none c.args.self.now.shape.life c.args.self.now.round) (record { counted = refl; few = omega arith })

pub loop-place-preserved : goal.loop-place-preserved
loop-place-preserved c =
    let l = c.args.self.now in
    let inside : c.loop-place.place < length l.slots.items = omega (arith, c.loop-place-test.true, c.len-place-end.ensures, l.slots.ok.0) in
    elim c.if-is_asked.branch [
      | then-is_asked w ↦
          let more = count-more (is_asked c.args.kind c.args.round) l.shape.life l.round l.slots.items c.loop-place.place c.index.result.now true inside c.index.ensures (sym w.if-is_asked.true ∙ c.is_asked.ensures) in
          record { counted = omega (arith, more, w.count-is, c.loop-place.invariant.counted); few = omega (arith, w.count-is, c.loop-place.invariant.few) }
      | else-is_asked w ↦
          let more = count-more (is_asked c.args.kind c.args.round) l.shape.life l.round l.slots.items c.loop-place.place c.index.result.now false inside c.index.ensures (sym w.if-is_asked.false ∙ c.is_asked.ensures) in
          record { counted = omega (arith, more, w.count-is, c.loop-place.invariant.counted); few = omega (arith, w.count-is, c.loop-place.invariant.few) }
    ]

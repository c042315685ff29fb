use Rattle.std.proofs.Common.{◌≡◌, ◌<◌, ◌≤◌, true, false, length, sym, ap, ◌∙◌, refl, arith}
use Rattle.std.proofs.lemmas.List.{take_all}
use Rattle.bar_ledger.specs.Code.Memory.{entries_in}
use Rattle.bar_ledger.proofs.Distinct.{among-found, each-found}
use Rattle.bar_ledger.proofs.Loops.{length-more}
use Rattle.bar_ledger.specs.Code.Slots.{entries_of}
use Rattle.bar_ledger.proofs.Rising.{opens-few}
use Rattle.bar_ledger.proofs.Slots.{entries-none}
use Rattle.bar_ledger.proofs.ledger.Ledger.len.Goals as goal
use Rattle.bar_ledger.proofs.ledger.Ledger.len.Goals.{then-is_live, else-is_live}

pub loop-place-init : goal.loop-place-init
loop-place-init c = rw (entries-none c.args.self.now.shape.life c.args.self.now.round) (record { counted = refl; few = omega arith })

pub loop-place-preserved : goal.loop-place-preserved
loop-place-preserved c =
    let l = c.args.self.now in
    let inside : c.loop-place.place < length l.slots.items = omega (arith, c.loop-place-test.true, c.len-place-end.ensures, l.slots.ok.0) in
    elim c.if-is_live.branch [
      | then-is_live w ↦
          let more = length-more l.shape.life l.round l.slots.items c.loop-place.place c.index.result.now true inside c.index.ensures (sym w.if-is_live.true ∙ c.is_live.ensures) in
          record { counted = omega (arith, more, w.count-is, c.loop-place.invariant.counted); few = omega (arith, w.count-is, c.loop-place.invariant.few) }
      | else-is_live w ↦
          let more = length-more l.shape.life l.round l.slots.items c.loop-place.place c.index.result.now false inside c.index.ensures (sym w.if-is_live.false ∙ c.is_live.ensures) in
          record { counted = omega (arith, more, w.count-is, c.loop-place.invariant.counted); few = omega (arith, w.count-is, c.loop-place.invariant.few) }
    ]

pub returns-clause-among : goal.returns-clause-among
returns-clause-among c x = among-found x (entries_in c.args.self.now)

pub returns-clause-each : goal.returns-clause-each
returns-clause-each c test = each-found test (entries_in c.args.self.now)

pub returns-clause-opens : goal.returns-clause-opens
returns-clause-opens c =
    let l = c.args.self.now in
    let past : length l.slots.items ≤ c.loop-place.place = omega (arith, c.loop-place-test.false, c.len-place-end.ensures, l.slots.ok.0) in
    let all : c.loop-place.count ≡ length (entries_in l) =
    c.loop-place.invariant.counted ∙ ap (λ slots. length (entries_of l.shape.life l.round slots)) (take_all c.loop-place.place l.slots.items past)
    in
    omega (arith, opens-few (entries_in l), all)

pub returns-clause-most : goal.returns-clause-most
returns-clause-most c =
    let l = c.args.self.now in
    omega (arith, c.loop-place.invariant.few, c.loop-place.auto.place-end, c.len-place-end.ensures, l.slots.ok.0, l.count)

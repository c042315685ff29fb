use Rattle.std.proofs.Common.{◌≡◌, ◌∙◌, ◌+◌, ◌++◌, ◌∷◌, [], is_some, sym, ap, arith}
use Rattle.bar_bytes.specs.Code.Rooms.{kept_in}
use Rattle.bar_bytes.proofs.Options.{some-copied}
use Rattle.bar_caster.proofs.Listing.{listed-more, listed-skip}
use Rattle.bar_caster.proofs.evictions.list_evicted.Goals as goal
use Rattle.bar_caster.proofs.evictions.list_evicted.Goals.{then-is_some+in-Ok, else-is_some}

pub loop-before-preserved : goal.loop-before-preserved
loop-before-preserved c =
    let rooms = c.args.evidence.now in
    let at : is_some (kept_in rooms (c.loop-before.before + 1)) ≡ c.is_some.result =
    (λ i. is_some (kept_in rooms (sym c.from.ensures i)))
    ∙ ap is_some (sym c.get.ensures)
    ∙ some-copied c.get.result
    ∙ sym c.is_some.ensures in
    elim c.if-is_some.branch [
      | then-is_some+in-Ok w ↦ rw w.list-is (record {
        listed = w.in-Ok.ensures.items
            ∙ (λ i. c.loop-before.invariant.listed i ++ (c.loop-before.before + 1) ∷ [])
            ∙ listed-more rooms c.loop-before.before (at ∙ w.if-is_some.true);
        few = omega (arith, w.push.ensures.upper_bound, c.loop-before.invariant.few);
        room = omega (arith, w.push.ensures.capacity, c.loop-before.invariant.room);
      })
      | else-is_some w ↦ rw w.list-is (record {
        listed = c.loop-before.invariant.listed ∙ listed-skip rooms c.loop-before.before (at ∙ w.if-is_some.false);
        few = omega (arith, c.loop-before.invariant.few);
        room = c.loop-before.invariant.room;
      })
    ]

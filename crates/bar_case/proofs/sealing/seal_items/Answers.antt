use Rattle.std.proofs.Common.{ℕ, ◌<◌, ◌∙◌, length, ap, sym, arith, length-append}
use Rattle.bar_terms.specs.declared.items.Item.{Item}
use Rattle.bar_terms.specs.declared.items.Item.TheVariants.{Update}
use Rattle.bar_case.specs.Keystream.{keystream, xor_bytes}
use Rattle.bar_case.proofs.Laid.{items_whole, items_more, items_room, plain_more, sealed_more, drop_later}
use Rattle.bar_case.proofs.sealing.seal_items.Goals as goal

pub seal_item-at-requires-clause-word : goal.seal_item-at-requires-clause-word
seal_item-at-requires-clause-word g c = rw c.loop-item.invariant.at_is (items_whole _)

pub seal_item-at-requires-clause-room : goal.seal_item-at-requires-clause-room
seal_item-at-requires-clause-room g c =
    omega (arith, c.loop-item.invariant.at_is, items_room c.args.items.now c.loop-item.item-index (Update (record { round = 0; index = 0 })) c.loop-item-test.true)

pub loop-item-preserved : goal.loop-item-preserved
loop-item-preserved g c =
    let before = c.loop-item.invariant in
    let done = c.seal_item-at.ensures in
    let items = c.args.items.now in
    let k = c.loop-item.item-index in
    let d : Item = Update (record { round = 0; index = 0 }) in
    let below : k < length items = c.loop-item-test.true in
    let plain = plain_more c.args.junk.now (g.B.Blocks.block_of c.args.blocks.now) items k d below in
    record {
      at_is = omega (arith, done.end, before.at_is, items_more items k d below);
      plain = omega (arith, ap length plain, length-append {A = ℕ}, before.plain, done.long, done.end);
      value =
          done.value
          ∙ (sealed_more c.args.key.now _ _ _ c.loop-item.at _ before.plain before.value (omega (arith, done.end, done.long))
          ∙ ap (λ p. xor_bytes p (keystream c.args.key.now c.seal_item-at.result)) (sym plain));
      rest = done.rest ∙ drop_later c.loop-item.at c.seal_item-at.result _ _ (omega (arith, done.end)) before.rest;
    }

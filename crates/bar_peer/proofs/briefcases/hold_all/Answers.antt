use Rattle.std.proofs.Common.{◌<◌, ◌∙◌, [], length, take, sym, ap, arith, slice_index_or}
use Rattle.std.specs.Option.{option_or}
use Rattle.bar_terms.specs.Table.{digests_of}
use Rattle.bar_terms.specs.declared.items.Item.{Item}
use Rattle.bar_terms.specs.declared.items.Item.TheVariants.{Update}
use Rattle.bar_store.specs.Code.Held.{block_in}
use Rattle.bar_peer.specs.Code.Opening.{block_in_item, block_in_items}
use Rattle.bar_peer.proofs.Hearing.Items.{items_more, or_or}
use Rattle.bar_peer.proofs.briefcases.hold_all.Goals as goal

pub loop-place-preserved : goal.loop-place-preserved
loop-place-preserved c =
    let before = c.loop-place.invariant in
    let after = c.hold_item.ensures in
    let s = c.args.store.now in
    let items = c.args.items.now in
    let blocks = c.args.blocks.now in
    let k = c.loop-place.place in
    let d : Item = Update (record { round = 0; index = 0 }) in
    let item = slice_index_or items k d in
    let block = slice_index_or blocks k [] in
    let below : k < length items = c.loop-place-test.true in
    record {
      held = λ u.
          after.held u
          ∙ (λ i. option_or (before.held u i) (block_in_item (digests_of (before.same.table i).lists) (before.same.life i) c.args.now item block u))
          ∙ sym (or_or (block_in s u) (block_in_items (digests_of s.table.lists) s.life c.args.now (take k items) blocks u) _)
          ∙ ap (option_or (block_in s u)) (sym (items_more (digests_of s.table.lists) s.life c.args.now items blocks k d [] u below (omega (arith, below, c.requires.few))));
      same = record {
        table = after.same.table ∙ before.same.table;
        life = after.same.life ∙ before.same.life;
        per_round = after.same.per_round ∙ before.same.per_round;
        wide = after.same.wide ∙ before.same.wide;
        round = after.same.round ∙ before.same.round;
      };
    }

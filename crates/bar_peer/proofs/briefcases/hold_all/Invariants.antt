use Rattle.std.proofs.Common.{◌≡◌, take}
use Rattle.std.specs.Option.{option_or}
use Rattle.bar_window.specs.declared.update.UpdateId.{UpdateId}
use Rattle.bar_terms.specs.Table.{digests_of}
use Rattle.bar_store.specs.Code.Held.{block_in, HasSame}
use Rattle.bar_peer.specs.Code.Opening.{block_in_items}
use Rattle.bar_peer.proofs.briefcases.hold_all.Given as goal

abbrev pub invariant-loop-place : goal.invariant-loop-place
invariant-loop-place l = record {
  held : (u : UpdateId) → block_in l.store u ≡ option_or (block_in l.initial.store u)
      (block_in_items (digests_of l.initial.store.table.lists) l.initial.store.life l.now (take l.place l.items) l.blocks u);
  same : HasSame l.initial.store l.store;
}

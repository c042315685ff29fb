use Rattle.std.proofs.Common.{◌≡◌, take, drop, length}
use Rattle.bar_case.specs.Keystream.{keystream, xor_bytes}
use Rattle.bar_case.specs.Items.{items_len, plaintext}
use Rattle.bar_case.proofs.sealing.seal_items.Given as goal

abbrev pub invariant-loop-item : goal.invariant-loop-item
invariant-loop-item g l = record {
  at_is : l.at ≡ items_len (take l.item-index l.items);
  plain : length (plaintext l.junk (g.B.Blocks.block_of l.blocks) (take l.item-index l.items)) ≡ l.at;
  value : take l.at l.out ≡ xor_bytes (plaintext l.junk (g.B.Blocks.block_of l.blocks) (take l.item-index l.items)) (keystream l.key l.at);
  rest : drop l.at l.out ≡ drop l.at l.initial.out;
}

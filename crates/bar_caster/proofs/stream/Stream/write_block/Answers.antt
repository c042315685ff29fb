-- The block with this index contains the piece of the stream with its number.
use Rattle.std.proofs.Common.{◌+◌, ◌-◌, ◌*◌, sym, ap, ◌∙◌}
use Rattle.std.specs.Prelude.{Some}
use Rattle.bar_rules.specs.Broadcaster.Stream.{block_bytes, piece_of}
use Rattle.bar_caster.proofs.Pieces.{block-at}
use Rattle.bar_caster.proofs.stream.Stream.write_block.Goals as goal

pub returns-clause-block : goal.returns-clause-block
returns-clause-block c = λ s same within.
    let bytes = c.args.self.now.bytes.items in
    block-at s bytes c.args.round c.args.index within
    ∙ ap (λ most. Some (block_bytes (piece_of bytes ((c.args.round - 1) * most + c.args.index)))) same
    ∙ ap (λ piece. Some (block_bytes piece)) (sym c.piece.ensures)
    ∙ ap Some (sym c.write_content.ensures)

-- The number of blocks that is computed is that of the round.
use Rattle.std.proofs.Common.{◌≡◌, ◌-◌, ◌*◌, length, sym, ap, ◌∙◌}
use Rattle.std.specs.Prelude.{min}
use Rattle.std.specs.Int.{div_ceil}
use Rattle.bar_caster.proofs.Pieces.{blocks-counted, count_from}
use Rattle.bar_caster.proofs.stream.Stream.blocks_in.Goals as goal

pub returns-clause-count : goal.returns-clause-count
returns-clause-count c = λ s same.
    let bytes = c.args.self.now.bytes.items in
    let at : c.saturating_sub-rest.result ≡ length bytes - (c.args.round - 1) * c.args.self.now.per_round * 1022 =
    c.saturating_sub-rest.ensures
    ∙ λ i. (c.len.ensures ∙ c.args.self.now.bytes.ok.0) i - c.saturating_sub.ensures i * c.from.ensures i * 1022 in
    let counted : c.min.result ≡ count_from (length bytes) c.args.self.now.per_round ((c.args.round - 1) * c.args.self.now.per_round) =
    c.min.ensures ∙ λ i. min ((c.div_ceil.ensures ∙ ap (λ rest. div_ceil rest 1022) at) i) (c.from-2.ensures i) in
    counted
    ∙ ap (λ most. count_from (length bytes) most ((c.args.round - 1) * most)) (sym same)
    ∙ sym (blocks-counted s bytes c.args.round)

use Rattle.std.proofs.Common.{◌∙◌}
use Rattle.bar_lms.specs.Schemes.{length_by}
use Rattle.bar_roster.proofs.ShapeLemmas.{shape_is}
use Rattle.bar_roster.proofs.types.shape_of.Goals as goal

pub returns : goal.returns
returns c = record {
  value = shape_is c.args.numbers.now c.args.peers c.signature_len.result _
      (c.signature_len.ensures ∙ (λ i. length_by (c.requires.top i) (c.requires.params i)));
}

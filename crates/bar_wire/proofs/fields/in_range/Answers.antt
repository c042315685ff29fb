use Rattle.std.proofs.Common.{◌∙◌, sym}
use Rattle.std.proofs.lemmas.Bool.{false≢true}
use Rattle.bar_wire.specs.Code.Views.{plain}
use Rattle.bar_wire.proofs.One.{none_in_range}
use Rattle.bar_wire.proofs.fields.in_range.Goals as goal

pub returns-else-is_in_range : goal.returns-else-is_in_range
returns-else-is_in_range c = λ body kind spelled.
    let raw = c.requires.has in
    none_in_range c.args.shape.now (plain c.args.body) c.args.bytes.now raw.form raw.is (λ range. false≢true (sym c.if-is_in_range.false ∙ c.is_in_range.ensures.1 range)) body (kind ∙ sym raw.kind_is) spelled

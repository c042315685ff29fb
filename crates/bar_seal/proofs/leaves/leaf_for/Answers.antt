use Rattle.std.proofs.Common.{◌∙◌, sym, ap}
use Rattle.bar_seal.specs.Leaves.{leaf_at}
use Rattle.bar_seal.proofs.Slots.{leaf_is}
use Rattle.bar_seal.proofs.leaves.leaf_for.Goals as goal

pub returns : goal.returns
returns c b kind part =
    c.leaf_at.ensures
    ∙ ap (λ step. leaf_at c.args.x.round c.args.x.kind c.args.role step c.args.seat) (c.step_of.ensures.step b kind)
    ∙ sym (leaf_is b (c.args.x.round, c.args.x.kind, c.args.role) c.args.seat part)

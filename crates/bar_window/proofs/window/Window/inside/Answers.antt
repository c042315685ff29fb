use Rattle.std.proofs.Common.{length, eqb, sym, ap, ◌∙◌}
use Rattle.bar_window.specs.Code.Window.{members}
use Rattle.bar_window.proofs.Sets.{inside_none}
use Rattle.bar_window.proofs.window.Window.inside.Goals as goal

pub returns : goal.returns
returns c = ap (λ n. eqb n 0) (c.size.ensures ∙ ap length c.minus.ensures.members) ∙ sym (inside_none (members c.args.self.now) (members c.args.other.now))

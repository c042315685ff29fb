use Rattle.std.proofs.Common.{◌≡◌, sym, subst, Some, IfOk}
use Rattle.bar_arguments.specs.Options.{texts}
use Rattle.bar_arguments.proofs.options.option_values.Goals as goal

pub returns-clause-ok : goal.returns-clause-ok
returns-clause-ok c = subst (λ given. IfOk c.values_in.result (λ values. given ≡ Some (texts values.items))) (sym c.in_ok-found.ensures.ok) c.values_in.ensures.ok

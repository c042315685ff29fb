use Rattle.std.proofs.Common.{◌∙◌, sym, ap}
use Rattle.bar_lms.specs.Schemes.{accepted_by}
use Rattle.bar_rules.specs.Member.{Session}
use Rattle.bar_caster.proofs.caster.Caster.start.Goals as goal

pub invariant_of-result-clause-verifies : goal.invariant_of-result-clause-verifies
invariant_of-result-clause-verifies g c key message sig =
    c.requires.verifies key message sig ∙ ap (λ (s : Session). accepted_by s.top s.params key message sig) (sym c.in_ok-memory.ensures.session)

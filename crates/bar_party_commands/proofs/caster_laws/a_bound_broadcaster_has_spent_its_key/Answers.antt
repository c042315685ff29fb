use Rattle.bar_party_commands.specs.CasterPlan.{caster_stages}
use Rattle.bar_party_commands.proofs.CasterBound.{bound-or_not}
use Rattle.bar_party_commands.proofs.CasterRows.{outcome}
use Rattle.bar_party_commands.proofs.caster_laws.a_bound_broadcaster_has_spent_its_key.Goals as goal

pub returns : goal.returns
returns c = λ names old new status run told.
    bound-or_not c.accepted_secrets_are_held.ensures names run.given old new told status
    (outcome names run.given old new status told
    (c.stages_go_in_order.ensures.goes (caster_stages names run.given) old new status run.ends told))

use Rattle.bar_party_commands.specs.CasterPlan.{caster_stages}
use Rattle.bar_party_commands.proofs.CasterRows.{outcome}
use Rattle.bar_party_commands.proofs.CasterRuns.{caster-stands}
use Rattle.bar_party_commands.proofs.caster_laws.a_broadcaster_stands.Goals as goal

pub returns : goal.returns
returns c = λ names old new status run told.
    caster-stands c.accepted_secrets_are_held.ensures c.paced_inputs_are_few.ensures names run.given old new run.heard told
    (run.reached told) (run.asked told) c.a_part_of_a_run_sent.ensures status
    (outcome names run.given old new status told
    (c.stages_go_in_order.ensures.goes (caster_stages names run.given) old new status run.ends told))

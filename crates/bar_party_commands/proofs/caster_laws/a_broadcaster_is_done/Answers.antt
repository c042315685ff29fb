use Rattle.bar_party_commands.specs.CasterPlan.{caster_stages}
use Rattle.bar_party_commands.proofs.CasterRows.{outcome}
use Rattle.bar_party_commands.proofs.CasterRuns.{caster-done}
use Rattle.bar_party_commands.proofs.caster_laws.a_broadcaster_is_done.Goals as goal

pub returns : goal.returns
returns c = λ names old new run told.
    caster-done c.accepted_secrets_are_held.ensures c.paced_inputs_are_few.ensures names run.given old new run.heard told
    (run.reached told) (run.asked told) c.accepted_sessions_are_in_range.ensures
    c.rules_give_the_run.ensures.sends c.a_whole_run_sent.ensures c.a_run_finds.ensures
    (outcome names run.given old new 0 told
    (c.stages_go_in_order.ensures.goes (caster_stages names run.given) old new 0 run.ends told))

use Rattle.bar_party_commands.specs.CasterPlan.{caster_stages}
use Rattle.bar_party_commands.proofs.CasterRows.{others-untouched, outcome}
use Rattle.bar_party_commands.proofs.caster_laws.only_its_files_are_changed_by_a_broadcaster.Goals as goal

pub returns : goal.returns
returns c = λ names path old new status run told none.
    others-untouched names run.given path old new status told none
    (outcome names run.given old new status told
    (c.stages_go_in_order.ensures.goes (caster_stages names run.given) old new status run.ends told))

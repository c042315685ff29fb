use Rattle.std.proofs.Common.{refl}
use Rattle.bar_cli.specs.Pack.{pack_stages}
use Rattle.bar_cli.proofs.PackRows.{outcome, refused_so}
use Rattle.bar_cli.proofs.pack.laws.a_bad_table_or_evidence_is_not_packed.Goals as goal

pub returns-clause-only : goal.returns-clause-only
returns-clause-only c = λ names old new ends told.
    (refused_so names old new 8 refl refl refl
    (outcome names old new 8 told (c.stages_go_in_order.ensures.goes (pack_stages names) old new 8 ends told))).1

use Rattle.std.proofs.Common.{refl}
use Rattle.bar_outside.proofs.StageRows.{named-within}
use Rattle.bar_cli.specs.Pack.{IsPackCall, pack_stages}
use Rattle.bar_cli.proofs.PackRows.{within}
use Rattle.bar_cli.proofs.pack.laws.packing_fails_only.Goals as goal

pub returns-clause-named : goal.returns-clause-named
returns-clause-named c = λ names old new ends told.
    named-within (IsPackCall names) (pack_stages names) new.files.failed (within names)
    ((c.stages_go_in_order.ensures.goes (pack_stages names) old new 3 ends told).named refl)

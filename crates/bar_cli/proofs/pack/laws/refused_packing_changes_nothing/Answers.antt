use Rattle.std.proofs.Common.{refl}
use Rattle.bar_cli.specs.Pack.{pack_stages}
use Rattle.bar_cli.proofs.PackRows.{outcome, refused_so}
use Rattle.bar_cli.proofs.pack.laws.refused_packing_changes_nothing.Goals as goal

pub returns : goal.returns
returns c =
    let goes = c.stages_go_in_order.ensures.goes in
    record {
      session = λ names old new ends told.
          (refused_so names old new 4 refl refl refl (outcome names old new 4 told (goes (pack_stages names) old new 4 ends told))).0.files;
      session_printed = λ names old new ends told.
          (refused_so names old new 4 refl refl refl (outcome names old new 4 told (goes (pack_stages names) old new 4 ends told))).0.out;
      input = λ names old new ends told.
          (refused_so names old new 8 refl refl refl (outcome names old new 8 told (goes (pack_stages names) old new 8 ends told))).0.files;
      input_printed = λ names old new ends told.
          (refused_so names old new 8 refl refl refl (outcome names old new 8 told (goes (pack_stages names) old new 8 ends told))).0.out;
    }

use Rattle.std.proofs.Common.{refl}
use Rattle.bar_cli.specs.Keygen.Plan.{keygen_stages}
use Rattle.bar_cli.proofs.KeygenRows.{refused}
use Rattle.bar_cli.proofs.keygen.laws.refused_keys_change_nothing.Goals as goal

pub returns : goal.returns
returns c =
    let goes = c.stages_go_in_order.ensures.goes in
    record {
      leaves = λ asked old new ends told. (refused asked old new 4 told (goes (keygen_stages asked) old new 4 ends told) refl refl).0.files;
      leaves_printed = λ asked old new ends told. (refused asked old new 4 told (goes (keygen_stages asked) old new 4 ends told) refl refl).0.out;
      secret = λ asked old new ends told. (refused asked old new 8 told (goes (keygen_stages asked) old new 8 ends told) refl refl).0.files;
      secret_printed = λ asked old new ends told. (refused asked old new 8 told (goes (keygen_stages asked) old new 8 ends told) refl refl).0.out;
    }

use Rattle.bar_cli.specs.Keygen.Types.{types_view}
use Rattle.std.proofs.Common.{◌≡◌, Some, ap, sym}
use Rattle.std.specs.Prelude.{option_map}
use Rattle.bar_cli.proofs.WordLemmas.{keygen-asked}
use Rattle.bar_cli.proofs.line.keygen.asked_of.Goals as goal

pub returns : goal.returns
returns c =
    let there : c.args.types ≡ Some c.in_ok-types.types = c.in_ok-types.was in
    keygen-asked c.args.most (option_map types_view c.args.types) c.args.party.now c.args.id.now c.args.rounds.now c.args.secret.now
    c.args.key.now c.in_ok-party.field-0 c.in_ok-id.id c.in_ok-rounds.field-0 (types_view c.in_ok-types.types) c.in_ok-party.ensures.value
    c.in_ok-id.ensures c.in_ok-rounds.ensures.value (ap (option_map types_view) (sym there))

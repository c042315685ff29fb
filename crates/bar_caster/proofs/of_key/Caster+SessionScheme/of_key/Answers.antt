-- A key signs as its session's scheme does.
use Rattle.std.proofs.Common.{◌∙◌, sym}
use Rattle.bar_caster.proofs.of_key.Caster+SessionScheme.of_key.Goals as goal

pub start-requires-clause-verifies : goal.start-requires-clause-verifies
start-requires-clause-verifies c = c.requires.signs.accepts

pub start-requires-clause-names : goal.start-requires-clause-names
start-requires-clause-names c =
    record { names = c.requires.signs.names; length_is = c.requires.signs.length ∙ sym c.shape-shape.ensures.session.signatures }

pub start-requires-clause-signs : goal.start-requires-clause-signs
start-requires-clause-signs c = record {
  signs = c.requires.signs.signs;
  leaves_are = c.requires.signs.leaves;
  length_is = c.requires.signs.length ∙ sym c.shape-shape.ensures.session.signatures;
}

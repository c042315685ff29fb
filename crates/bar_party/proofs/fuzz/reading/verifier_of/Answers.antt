use Rattle.std.proofs.Common.{◌∙◌, sym}
use Rattle.bar_party.proofs.fuzz.reading.verifier_of.Goals as goal

pub returns-clause-verifies : goal.returns-clause-verifies
returns-clause-verifies c = c.of.ensures.accepts

pub returns-clause-names : goal.returns-clause-names
returns-clause-names c = record { names = c.of.ensures.names; length_is = c.of.ensures.length ∙ sym c.shape.ensures.session.signatures }

use Rattle.bar_arguments.proofs.TakenLemmas.{taken-values, values-taken}
use Rattle.bar_arguments.proofs.laws.taken_words_have_values.Goals as goal

pub returns-clause-each : goal.returns-clause-each
returns-clause-each c = taken-values

pub returns-clause-values : goal.returns-clause-values
returns-clause-values c = values-taken

use Rattle.bar_roster.proofs.WrittenAnew.{reads-back, short-text}
use Rattle.bar_roster.proofs.laws.accepted_keys_are_read_back.Goals as goal

pub returns-clause-same : goal.returns-clause-same
returns-clause-same c = λ s caster fresh spent bytes k accepted. reads-back s caster fresh spent bytes k accepted

pub returns-clause-short : goal.returns-clause-short
returns-clause-short c = λ s caster fresh spent bytes k accepted. short-text s caster fresh spent bytes k accepted

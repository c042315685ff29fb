use Rattle.bar_laws.proofs.Memory.{sound}
use Rattle.bar_laws.proofs.memories.logs_are_sound.Goals as goal

pub returns : goal.returns
returns c = sound

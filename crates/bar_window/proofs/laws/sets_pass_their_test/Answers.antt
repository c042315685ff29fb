use Rattle.bar_window.proofs.Spelling.{set_test, set_passes}
use Rattle.bar_window.proofs.laws.sets_pass_their_test.Goals as goal

pub returns : goal.returns
returns c = λ words life round us. (set_test words life round us, set_passes words life round us)

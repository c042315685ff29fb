use Rattle.std.proofs.Common.{rules, ◌≡◌, ◌∷◌}
use Rattle.bar_told.specs.Event.{read}
use Rattle.bar_system.proofs.Told.{read-done}
use Rattle.bar_system.proofs.outside.RealFilesFiles.read.Goals as goal

pub returns-in-Ok : goal.returns-in-Ok
returns-in-Ok g c = λ was.
    let old = c.args.self.now in
    let is : c.then-self.result.events ≡ read c.args.path.now c.in-Ok.bytes.items ∷ old.log.events = search rules in
    read-done old.log.events c.then-self.result.events old.faults c.args.path.now c.in-Ok.bytes was is

use Rattle.std.proofs.Common.{◌≡◌, string_bytes, ap}
use Rattle.std.proofs.lemmas.List.Elements.{All-weaker}
use Rattle.bar_outside.specs.Disk.{with_file}
use Rattle.bar_outside.proofs.ActionLists.{with_file-others, with_file-same}
use Rattle.bar_system.specs.History.{made_of}
use Rattle.bar_system.proofs.outside.RealFilesFiles.create.Goals as goal

pub invariant_of-self : goal.invariant_of-self
invariant_of-self g c =
    let old = c.args.self.now in
    let path = c.args.path.now in
    let is : made_of c.then-self.result.events ≡ with_file (made_of old.log.events) path = ap made_of c.then-self.ensures in
    record {
      here = rw is (c.create_file.ensures.made (with_file (made_of old.log.events) path)
          (All-weaker _ _ (λ f h. with_file-others (made_of old.log.events) path (string_bytes f.path) h) _ old.here)
          (with_file-same (made_of old.log.events) path));
    }

pub invariant_of-self-in-Err-1 : goal.invariant_of-self-in-Err-1
invariant_of-self-in-Err-1 g c = record { here = rw c.in-Err.ensures.same c.args.self.now.here }

use Rattle.std.proofs.Common.{◌≡◌, ◌∙◌, ap, rules}
use Rattle.bar_outside.specs.Disk.{Disk, put_at}
use Rattle.bar_outside.specs.Code.MemFiles.{content_of, created_in, disk_of}
use Rattle.bar_outside.proofs.Contents.{content_of-put, created_in-kept}
use Rattle.bar_outside.proofs.mem_files.MemFiles.put.Goals as goal

pub returns-clause-put : goal.returns-clause-put
returns-clause-put c =
    let items : c.in_ok-bytes.bytes.items ≡ c.args.bytes.now = search rules in
    let content = content_of-put c.in_ok-name.name _ c.args.self.now.files c.insert.new.self _ _ c.in_ok-insert.ensures.updates
    c.in_ok-name.ensures.ok items in
    let here = created_in-kept c.in_ok-name.name c.args.path.now c.args.self.now.files c.insert.new.self _ c.in_ok-insert.ensures.updates
    c.in_ok-name.ensures.ok c.is_created-created.ensures in
    ap (λ holds. let d : Disk = record (disk_of c.args.self.now) { content = holds; created_here = created_in c.insert.new.self } in d) content
    ∙ ap (λ files. let d : Disk =
    record (disk_of c.args.self.now) { content = put_at (content_of c.args.self.now.files) c.args.path.now c.args.bytes.now; created_here = files } in d) here

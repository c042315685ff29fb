use Rattle.std.proofs.Common.{[], refl}
use Rattle.bar_outside.proofs.Contents.{content_of-put, created_in-made}
use Rattle.bar_outside.proofs.mem_files.put_empty.Goals as goal

pub returns-clause-made : goal.returns-clause-made
returns-clause-made c =
    content_of-put c.in_ok-name.name _ c.args.files.now c.insert.new.self _ [] c.in_ok-insert.ensures.updates
    c.in_ok-name.ensures.ok c.new-bytes.ensures.items

pub returns-clause-here : goal.returns-clause-here
returns-clause-here c =
    created_in-made c.in_ok-name.name c.args.path.now c.args.files.now c.insert.new.self _ c.in_ok-insert.ensures.updates
    c.in_ok-name.ensures.ok refl

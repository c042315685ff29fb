use Rattle.std.proofs.Common.{rules}
use Rattle.bar_outside.proofs.Contents.{content_of-add, content_of-left, created_in-left}
use Rattle.bar_outside.proofs.mem_files.add_bytes.Goals as goal

pub returns-in-Some-clause-added : goal.returns-in-Some-clause-added
returns-in-Some-clause-added c =
    λ done. content_of-add c.args.path.now c.args.bytes.now c.args.files.now (c.get_mut.follows.lender c.add.new.self) c.in-Some.file.now c.add.new.self
    ((c.get_mut.follows.holds c.add.new.self).3 (search rules)) c.in-Some.ensures.value (c.add.ensures.added done)

pub returns-in-Some-clause-left : goal.returns-in-Some-clause-left
returns-in-Some-clause-left c =
    λ none. content_of-left c.args.path.now c.args.files.now (c.get_mut.follows.lender c.add.new.self) c.in-Some.file.now c.add.new.self
    ((c.get_mut.follows.holds c.add.new.self).3 (search rules)) c.in-Some.ensures.value (c.add.ensures.left none)

pub returns-in-Some-clause-same : goal.returns-in-Some-clause-same
returns-in-Some-clause-same c =
    created_in-left c.args.path.now c.args.files.now (c.get_mut.follows.lender c.add.new.self) c.in-Some.file.now c.add.new.self
    ((c.get_mut.follows.holds c.add.new.self).3 (search rules)) c.in-Some.ensures.value c.add.ensures.created

use Rattle.std.proofs.Common.{◌∙◌, sym}
use Rattle.bar_peer.specs.Code.Memory.{member_of}
use Rattle.bar_peer.proofs.Admitting.Rows.{held_refused}
use Rattle.bar_peer.proofs.memory.Memory.is_new_block.Goals as goal

pub returns-then-holds : goal.returns-then-holds
returns-then-holds c k from to h =
    held_refused (member_of c.args.self.now.who) k c.args.self.now.store from to c.args.id c.args.block.now h.store
    (sym c.holds.ensures ∙ c.if-holds.true)

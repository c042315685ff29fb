use Rattle.std.proofs.Common.{◌∙◌, ap, arith}
use Rattle.std.specs.Prelude.{option_copied}
use Rattle.bar_peer.proofs.peer.Peer.give.Goals as goal

pub returns-then-case-buf : goal.returns-then-case-buf
returns-then-case-buf g c k d memory due = (
  c.put.ensures.front ∙ c.kept_case.ensures c.in-Some.case.now (ap option_copied c.in-Some.is) k d memory due,
  omega (arith, c.put.ensures.end_is, c.put.ensures.long, c.if-case-buf.true),
)

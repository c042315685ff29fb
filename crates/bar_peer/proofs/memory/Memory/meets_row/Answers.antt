use Rattle.std.proofs.Common.{◌∙◌, ap, arith, sym}
use Rattle.bar_wire.specs.Code.Views.{plain}
use Rattle.bar_wire.specs.Bodies.{request_round, query_round}
use Rattle.bar_rules.specs.Peer.Admission.{is_row_met}
use Rattle.bar_peer.specs.Code.Memory.{member_of}
use Rattle.bar_peer.proofs.Admitting.Rows.{of_others}
use Rattle.bar_peer.proofs.memory.Memory.meets_row.Goals as goal

pub returns-in_default-clause-row : goal.returns-in_default-clause-row
returns-in_default-clause-row g c k bytes h spelled is =
    let v = c.args.arrival.now.view in
    c.meets_row_of_exchange.ensures.row k bytes h spelled is
    ∙ of_others (member_of c.args.self.now.who) k v.from v.to v.body c.in_default.not-Manifest c.in_default.not-Block c.in_default.not-Evict

pub returns-in-Evict-clause-reached : goal.returns-in-Evict-clause-reached
returns-in-Evict-clause-reached g c ok = omega (arith, ap request_round (ap plain c.in-Evict.is), ap query_round (ap plain c.in-Evict.is))

pub returns-in-Block-clause-reached : goal.returns-in-Block-clause-reached
returns-in-Block-clause-reached g c ok = omega (arith, ap request_round (ap plain c.in-Block.is), ap query_round (ap plain c.in-Block.is))

pub returns-in-Block-clause-row : goal.returns-in-Block-clause-row
returns-in-Block-clause-row g c k bytes h spelled is =
    let v = c.args.arrival.now.view in
    c.is_new_block.ensures k v.from v.to h ∙ (λ i. is_row_met (member_of c.args.self.now.who) k v.from v.to (plain (sym c.in-Block.is i)))

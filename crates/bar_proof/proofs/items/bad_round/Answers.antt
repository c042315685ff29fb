use Rattle.std.proofs.Common.{ap, sym}
use Rattle.std.specs.Prelude.{is_some}
use Rattle.bar_terms.specs.Table.{digests_of}
use Rattle.bar_wire.specs.Bodies.{briefcase_in, key_in}
use Rattle.bar_wire.specs.Code.Views.{datagram, plain}
use Rattle.bar_judge.specs.Code.Parts.{plain_briefcase}
use Rattle.bar_proof.proofs.BadItems.{opened-valid, bad-told}
use Rattle.bar_proof.proofs.items.bad_round.Goals as goal

pub bad_round_by-requires-clause-windows : goal.bad_round_by-requires-clause-windows
bad_round_by-requires-clause-windows c = c.in_ok-case.ensures.windows c.args.session.now.shape c.requires.read.view.body.windows

pub bad_round_by-requires-clause-valid : goal.bad_round_by-requires-clause-valid
bad_round_by-requires-clause-valid c =
    let s = c.args.session.now in
    opened-valid s (digests_of c.args.table.now.lists) (datagram s.shape c.args.m.now).message (datagram s.shape c.args.n.now).message
    (plain_briefcase c.in_ok-case.case) c.exchange-x.result c.requires.opened (sym c.in_ok-case.ensures.told)
    (ap (λ b. is_some (key_in (plain b))) c.in-Key.is) c.exchange-x.ensures.value

pub returns : goal.returns
returns c =
    let s = c.args.session.now in
    bad-told s (digests_of c.args.table.now.lists) (datagram s.shape c.args.m.now).message (plain_briefcase c.in_ok-case.case) c.exchange-x.result
    c.bad_round_by.result (briefcase_in (plain c.args.m.now.body)) (key_in (plain c.args.n.now.body)) (sym c.in_ok-case.ensures.told)
    (ap (λ b. key_in (plain b)) c.in-Key.is) c.exchange-x.ensures.value c.bad_round_by.ensures

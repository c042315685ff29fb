use Rattle.std.proofs.Common.{◌∙◌, refl, sym}
use Rattle.bar_case.specs.Opened.{is_bad}
use Rattle.bar_terms.specs.Table.{digests_of}
use Rattle.bar_wire.specs.Code.Views.{datagram}
use Rattle.bar_rules.specs.Values.{is_unknown}
use Rattle.bar_judge.specs.Code.Parts.{plain_briefcase, plain_key}
use Rattle.bar_judge.proofs.Openings.{before_one, before_three, opening_told}
use Rattle.bar_judge.proofs.opening.opening_of.Goals as goal

pub returns-then-not-is_key_for-clause-bad : goal.returns-then-not-is_key_for-clause-bad
returns-then-not-is_key_for-clause-bad c =
    rw (← c.in_ok-case.ensures.told, ← c.in_ok-key.ensures) (rw (← c.is_key_for.ensures c.args.session.now.shape, c.if-not-is_key_for.true) refl)

pub returns-then-not-is_key_for-clause-unknown : goal.returns-then-not-is_key_for-clause-unknown
returns-then-not-is_key_for-clause-unknown c =
    rw (← c.in_ok-case.ensures.told, ← c.in_ok-key.ensures) (rw (← c.is_key_for.ensures c.args.session.now.shape, c.if-not-is_key_for.true) refl)

pub opening_by-requires-clause-windows : goal.opening_by-requires-clause-windows
opening_by-requires-clause-windows c = c.in_ok-case.ensures.windows c.args.session.now.shape c.requires.read.view.body.windows

pub returns-clause-bad : goal.returns-clause-bad
returns-clause-bad c =
    let s = c.args.session.now in
    rw (← c.in_ok-case.ensures.told, ← c.in_ok-key.ensures)
    (opening_told is_bad s (digests_of c.args.table.now.lists) (datagram s.shape c.args.m.now).message (plain_briefcase c.in_ok-case.case)
    (plain_key c.in_ok-key.key) c.exchange-x.result c.opening_by.result c.exchange-x.ensures.value c.opening_by.ensures
    ∙ before_one _ _ (sym (c.is_key_for.ensures s.shape) ∙ c.if-not-is_key_for.false))

pub returns-clause-unknown : goal.returns-clause-unknown
returns-clause-unknown c =
    let s = c.args.session.now in
    rw (← c.in_ok-case.ensures.told, ← c.in_ok-key.ensures)
    (opening_told is_unknown s (digests_of c.args.table.now.lists) (datagram s.shape c.args.m.now).message (plain_briefcase c.in_ok-case.case)
    (plain_key c.in_ok-key.key) c.exchange-x.result c.opening_by.result c.exchange-x.ensures.value c.opening_by.ensures
    ∙ before_three _ _ _ _ (sym (c.is_key_for.ensures s.shape) ∙ c.if-not-is_key_for.false))

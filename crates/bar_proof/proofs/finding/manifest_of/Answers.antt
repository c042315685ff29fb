use Rattle.std.proofs.Common.{sym, ◌∙◌, arith}
use Rattle.bar_proof.specs.ProofFile.{is_of_round}
use Rattle.bar_proof.proofs.ManifestFinding.{all-remain, found-here, fewer-remain, none-here, none-left}
use Rattle.bar_proof.proofs.finding.manifest_of.Goals as goal

pub entries-init : goal.entries-init
entries-init c = all-remain (is_of_round c.args.session.now c.args.round) c.args.table.now

pub returns-in_default : goal.returns-in_default
returns-in_default c =
    none-here (is_of_round c.args.session.now c.args.round) c.args.table.now c.entries.rest.now c.entries.counter c.entries.invariant c.first_of.result
    c.first_of.ensures c.in_default.not-Entry

pub returns-then-is_of_round : goal.returns-then-is_of_round
returns-then-is_of_round c =
    found-here (is_of_round c.args.session.now c.args.round) c.args.table.now c.entries.rest.now c.in-Entry.manifest.now c.in-Entry.others.now c.entries.counter
    c.entries.invariant (sym c.in-Entry.ensures) (sym (c.is_of_round.ensures c.args.session.now (sym c.shape-shape.ensures.value)) ∙ c.if-is_of_round.true)

pub entries-preserved : goal.entries-preserved
entries-preserved c =
    fewer-remain (is_of_round c.args.session.now c.args.round) c.args.table.now c.entries.rest.now c.in-Entry.manifest.now c.in-Entry.others.now c.entries.counter
    c.entries.invariant (sym c.in-Entry.ensures) (sym (c.is_of_round.ensures c.args.session.now (sym c.shape-shape.ensures.value)) ∙ c.if-is_of_round.false)

pub returns : goal.returns
returns c =
    none-left (is_of_round c.args.session.now c.args.round) c.args.table.now c.entries.rest.now c.entries.counter c.entries.invariant (omega (arith, c.entries-test.false))

use Rattle.std.proofs.Common.{◌≡◌, ◌∙◌, ◌+◌, length, refl, arith, sym}
use Rattle.bar_record.specs.Recording.{NoByte, NoEntry, End}
use Rattle.bar_wire.specs.Inputs.{plain_input}
use Rattle.bar_record.proofs.ReadLemmas.{read_none, read_by, read_late, read_more, read_out, read_end}
use Rattle.bar_record.proofs.reading.entries_of.Goals as goal

pub entries-init : goal.entries-init
entries-init c = rw c.new-paced.ensures (read_none c.args.bytes.now c.args.last)

pub returns-in-NoByte-clause-err : goal.returns-in-NoByte-clause-err
returns-in-NoByte-clause-err c =
    read_by c.args.bytes.now c.entries.rest.now c.args.last c.entries.left c.entries.ticks c.entries.paced NoByte c.entries.invariant c.entries-test.true (sym c.in-NoByte.ensures)

pub returns-then-is_empty-clause-ok : goal.returns-then-is_empty-clause-ok
returns-then-is_empty-clause-ok c =
    read_end c.args.bytes.now c.entries.rest.now c.in-End.others.now c.args.last c.entries.left c.entries.ticks c.entries.paced c.entries.invariant c.entries-test.true
    (sym c.in-End.ensures) (sym c.if-is_empty.ensures)

pub returns-in-End-clause-err : goal.returns-in-End-clause-err
returns-in-End-clause-err c =
    read_by c.args.bytes.now c.entries.rest.now c.args.last c.entries.left c.entries.ticks c.entries.paced (End c.in-End.others.now) c.entries.invariant c.entries-test.true (sym c.in-End.ensures)
    ∙ rw (← c.if-is_empty.ensures) refl

pub returns-in-NoEntry-clause-err : goal.returns-in-NoEntry-clause-err
returns-in-NoEntry-clause-err c =
    read_by c.args.bytes.now c.entries.rest.now c.args.last c.entries.left c.entries.ticks c.entries.paced NoEntry c.entries.invariant c.entries-test.true (sym c.in-NoEntry.ensures)

pub returns-then-last-ticks-clause-err : goal.returns-then-last-ticks-clause-err
returns-then-last-ticks-clause-err c =
    read_late c.args.bytes.now c.entries.rest.now c.in-Entry.others.now c.args.last c.entries.left c.entries.ticks c.entries.paced c.ticks_put-put.result
    (plain_input c.in-Entry.input) c.entries.invariant c.entries-test.true c.ticks_put-put.ensures.value c.if-last-ticks.true (sym c.in-Entry.ensures)

pub entries-preserved : goal.entries-preserved
entries-preserved c =
    rw (c.ticks_put-put.ensures.count, c.ticks_in-own.ensures.value)
    (read_more c.args.bytes.now c.entries.rest.now c.in-Entry.others.now c.args.last c.entries.left c.entries.ticks c.entries.paced c.ticks_put-put.result
    (plain_input c.in-Entry.input) c.entries.invariant c.entries-test.true c.ticks_put-put.ensures.value (omega (arith, c.if-last-ticks.false)) (sym c.in-Entry.ensures))

pub returns-clause-err : goal.returns-clause-err
returns-clause-err c =
    let all : c.entries.left ≡ length c.args.bytes.now + 1 = omega arith in
    read_out c.args.bytes.now c.entries.rest.now c.args.last c.entries.ticks c.entries.paced (rw all at c.entries.invariant)

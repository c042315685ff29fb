use Rattle.std.proofs.lemmas.Result.{err_from_is_err_and}
use Rattle.bar_bytes.specs.Code.Rooms.{kept_in}
use Rattle.bar_findings.proofs.Writing.{all-written, one-unwritten, one-written}
use Rattle.bar_party_commands.specs.Summaries.{shown_if}
use Rattle.bar_party_commands.proofs.Shown.{same-join}
use Rattle.bar_party_commands.proofs.summaries.show_parties.Goals as goal

pub returns-in_err-show_party : goal.returns-in_err-show_party
returns-in_err-show_party g c = λ w.
    let p = err_from_is_err_and c.from_residual.result c.from_residual.ensures.1 in
    rw (p.1, p.2)
    (one-unwritten (λ xs. xs) same-join (λ party. shown_if c.args.word.now party (kept_in c.args.evidence.now party))
    c.loop-before.before _ _ (c.loop-before.invariant w) _ c.args.peers _ c.loop-before-test.true (c.in_err-show_party.ensures w))

pub loop-before-preserved : goal.loop-before-preserved
loop-before-preserved g c = λ w.
    one-written (λ xs. xs) same-join (λ party. shown_if c.args.word.now party (kept_in c.args.evidence.now party))
    c.loop-before.before _ _ (c.loop-before.invariant w) _ (c.in_ok-show_party.ensures w)

pub returns : goal.returns
returns g c = λ w.
    all-written (λ xs. xs) same-join (λ party. shown_if c.args.word.now party (kept_in c.args.evidence.now party))
    c.loop-before.before _ _ (c.loop-before.invariant w) c.args.peers c.loop-before.auto.before-end c.loop-before-test.false

use Rattle.std.proofs.lemmas.Result.{err_from_is_err_and}
use Rattle.std.specs.Option.{option_to_list}
use Rattle.bar_bytes.specs.Code.Rooms.{kept_in}
use Rattle.bar_findings.proofs.Writing.{all-written, appended-entries, entries-join, one-written, one-unwritten}
use Rattle.bar_findings.proofs.table.append_entries.Goals as goal

pub returns-in_err-append_entry : goal.returns-in_err-append_entry
returns-in_err-append_entry g c = λ w was short.
    let p = err_from_is_err_and c.from_residual.result c.from_residual.ensures.1 in
    rw (p.1, p.2)
    (one-unwritten (appended-entries c.args.name.now) (entries-join c.args.name.now) (λ round. option_to_list (kept_in c.args.manifests.now round))
    c.loop-before.before _ _ (c.loop-before.invariant w was short) _ c.args.rounds _ c.loop-before-test.true
    (c.in_err-append_entry.ensures w was short))

pub loop-before-preserved : goal.loop-before-preserved
loop-before-preserved g c = λ w was short.
    one-written (appended-entries c.args.name.now) (entries-join c.args.name.now) (λ round. option_to_list (kept_in c.args.manifests.now round))
    c.loop-before.before _ _ (c.loop-before.invariant w was short) _ (c.in_ok-append_entry.ensures w was short)

pub returns : goal.returns
returns g c = λ w was short.
    all-written (appended-entries c.args.name.now) (entries-join c.args.name.now) (λ round. option_to_list (kept_in c.args.manifests.now round))
    c.loop-before.before _ _ (c.loop-before.invariant w was short) c.args.rounds c.loop-before.auto.before-end c.loop-before-test.false

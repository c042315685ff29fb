use Rattle.std.proofs.Common.{◌∙◌, sym}
use Rattle.bar_terms.specs.Table.{digests_of}
use Rattle.bar_wire.specs.Evidence.{datagrams_of}
use Rattle.bar_judge.proofs.judging.verdict.Goals as goal

pub returns-clause-stays : goal.returns-clause-stays
returns-clause-stays g c party fault new shown more =
    c.shown_stays_shown.ensures c.args.session.now (digests_of c.args.table.now.lists) new (datagrams_of c.args.evidence.now) party fault more
    (sym c.judge.ensures.exact ∙ shown)

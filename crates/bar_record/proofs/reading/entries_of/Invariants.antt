use Rattle.bar_record.proofs.ReadLemmas.{IsReadTo}
use Rattle.bar_record.proofs.reading.entries_of.Given as goal

abbrev pub invariant-entries : goal.invariant-entries
invariant-entries l = IsReadTo l.bytes l.last l.left l.ticks l.paced l.rest

use Rattle.bar_exchange.proofs.PartChanges.{part_changes}
use Rattle.bar_exchange.proofs.keep.keep_part.Goals as goal

pub returns-clause-changes : goal.returns-clause-changes
returns-clause-changes c may =
    part_changes c.args.ledger.now c.hear.new.self c.set.new.self c.args.x c.args.kind c.args.bytes.now c.args.terms c.args.complete c.in-Some.entry.now
    (record { found = c.hear.ensures.found; asked = c.hear.ensures.asked; opens = c.hear.ensures.opens; same = c.hear.ensures.same })
    (record {
      entry = c.in-Some.ensures.entry;
      own = c.find.ensures.own;
      found = c.set.ensures.found;
      counted = c.set.ensures.counted;
      opened = c.set.ensures.opened;
      same = c.set.ensures.same;
    })

use Rattle.std.proofs.Common.{◌∙◌}
use Rattle.std.proofs.lemmas.List.{length-set}
use Rattle.bar_ledger.specs.Code.Kept.{with_bytes}
use Rattle.bar_ledger.proofs.Changes.{bytes-entry, IsChange, bytes-named, change-found, change-kept, change-distinct, rooms-set}
use Rattle.bar_ledger.proofs.Counts.{change-asked, change-opens}
use Rattle.bar_ledger.proofs.ledger.Ledger.hear.Goals as goal

change : (c : goal.After-self-2-1) → IsChange c.args.x c.args.self.now.shape.life c.args.self.now.round c.args.self.now.slots.items c.in-Some.place c.index_mut.result.now c.hear.new.self (with_bytes c.args.kind c.args.bytes.now)
change c = record {
  at = record { inside = c.in-Some.ensures.inside; read = c.index_mut.ensures.value; has = c.in-Some.ensures.there; distinct = c.args.self.now.distinct };
  kept = c.hear.ensures.kept;
  named = bytes-named c.args.kind c.args.bytes.now c.args.x;
}

pub invariant_of-self : goal.invariant_of-self
invariant_of-self c =
    let l = c.args.self.now in
    record {
      cap_fits = l.cap_fits;
      signatures_fit = l.signatures_fit;
      count = length-set l.slots.items c.in-Some.place c.hear.new.self ∙ l.count;
      rooms = rooms-set l.shape l.slots.items c.in-Some.place c.index_mut.result.now c.hear.new.self c.in-Some.ensures.inside c.index_mut.ensures.value l.rooms (c.hear.ensures.rooms l.shape);
      distinct = change-distinct c.args.x l.shape.life l.round l.slots.items c.in-Some.place c.index_mut.result.now c.hear.new.self (with_bytes c.args.kind c.args.bytes.now) (record { at = record { inside = c.in-Some.ensures.inside; read = c.index_mut.ensures.value; has = c.in-Some.ensures.there; distinct = c.args.self.now.distinct }; kept = c.hear.ensures.kept; named = bytes-named c.args.kind c.args.bytes.now c.args.x });
    }

pub returns-clause-found : goal.returns-clause-found
returns-clause-found c =
    let l = c.args.self.now in
    change-found c.args.x l.shape.life l.round l.slots.items c.in-Some.place c.index_mut.result.now c.hear.new.self (with_bytes c.args.kind c.args.bytes.now) (change c)

pub returns-clause-kept : goal.returns-clause-kept
returns-clause-kept c =
    let l = c.args.self.now in
    change-kept c.args.x l.shape.life l.round l.slots.items c.in-Some.place c.index_mut.result.now c.hear.new.self (with_bytes c.args.kind c.args.bytes.now) (change c)

pub returns-clause-asked : goal.returns-clause-asked
returns-clause-asked c kind round =
    let l = c.args.self.now in
    change-asked kind round c.args.x l.shape.life l.round l.slots.items c.in-Some.place c.index_mut.result.now c.hear.new.self (with_bytes c.args.kind c.args.bytes.now) (change c) (bytes-entry c.args.kind c.args.bytes.now)

pub returns-clause-opens : goal.returns-clause-opens
returns-clause-opens c =
    let l = c.args.self.now in
    change-opens c.args.x l.shape.life l.round l.slots.items c.in-Some.place c.index_mut.result.now c.hear.new.self (with_bytes c.args.kind c.args.bytes.now) (change c) (bytes-entry c.args.kind c.args.bytes.now)

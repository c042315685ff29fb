use Rattle.std.proofs.Common.{◌∙◌, refl}
use Rattle.std.proofs.lemmas.List.{length-set}
use Rattle.bar_ledger.specs.Code.Kept.{with_new}
use Rattle.bar_ledger.proofs.Changes.{IsChange, change-found, change-kept, change-distinct, rooms-set}
use Rattle.bar_ledger.proofs.Counts.{put-asked, put-opens, same-asked, same-opens}
use Rattle.bar_ledger.proofs.ledger.Ledger.set.Goals as goal

change : (c : goal.After-self-2-1) → IsChange c.args.entry.x c.args.self.now.shape.life c.args.self.now.round c.args.self.now.slots.items c.in-Some.place c.index_mut.result.now c.put.new.self (with_new c.args.entry)
change c = record {
  at = record { inside = c.in-Some.ensures.inside; read = c.index_mut.ensures.value; has = c.in-Some.ensures.there; distinct = c.args.self.now.distinct };
  kept = c.put.ensures.kept;
  named = λ k e. refl;
}

pub invariant_of-self : goal.invariant_of-self
invariant_of-self c =
    let l = c.args.self.now in
    record {
      cap_fits = l.cap_fits;
      signatures_fit = l.signatures_fit;
      count = length-set l.slots.items c.in-Some.place c.put.new.self ∙ l.count;
      rooms = rooms-set l.shape l.slots.items c.in-Some.place c.index_mut.result.now c.put.new.self c.in-Some.ensures.inside c.index_mut.ensures.value l.rooms (c.put.ensures.rooms l.shape);
      distinct = change-distinct c.args.entry.x l.shape.life l.round l.slots.items c.in-Some.place c.index_mut.result.now c.put.new.self (with_new c.args.entry) (record { at = record { inside = c.in-Some.ensures.inside; read = c.index_mut.ensures.value; has = c.in-Some.ensures.there; distinct = c.args.self.now.distinct }; kept = c.put.ensures.kept; named = λ k e. refl });
    }

pub returns-clause-found : goal.returns-clause-found
returns-clause-found c =
    let l = c.args.self.now in
    change-found c.args.entry.x l.shape.life l.round l.slots.items c.in-Some.place c.index_mut.result.now c.put.new.self (with_new c.args.entry) (change c)

pub returns-clause-kept : goal.returns-clause-kept
returns-clause-kept c =
    let l = c.args.self.now in
    change-kept c.args.entry.x l.shape.life l.round l.slots.items c.in-Some.place c.index_mut.result.now c.put.new.self (with_new c.args.entry) (change c)

pub returns-clause-asked : goal.returns-clause-asked
returns-clause-asked c kind round =
    let l = c.args.self.now in
    put-asked kind round c.args.entry l.shape.life l.round l.slots.items c.in-Some.place c.index_mut.result.now c.put.new.self (change c)

pub returns-clause-opens : goal.returns-clause-opens
returns-clause-opens c =
    let l = c.args.self.now in
    put-opens c.args.entry l.shape.life l.round l.slots.items c.in-Some.place c.index_mut.result.now c.put.new.self (change c)

pub returns-clause-counted : goal.returns-clause-counted
returns-clause-counted c before kind round =
    let l = c.args.self.now in
    same-asked kind round c.args.entry l.shape.life l.round l.slots.items c.in-Some.place c.index_mut.result.now c.put.new.self (change c) before

pub returns-clause-opened : goal.returns-clause-opened
returns-clause-opened c before =
    let l = c.args.self.now in
    same-opens c.args.entry l.shape.life l.round l.slots.items c.in-Some.place c.index_mut.result.now c.put.new.self (change c) before

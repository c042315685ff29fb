use Rattle.std.proofs.Common.{◌∙◌}
use Rattle.std.proofs.lemmas.List.{length-set}
use Rattle.bar_ledger.proofs.Changes.{IsGiven, given-found, given-count, given-distinct, rooms-set}
use Rattle.bar_ledger.specs.Code.Asking.{is_asked}
use Rattle.bar_ledger.proofs.Counts.{given-counted, given-opens}
use Rattle.bar_ledger.proofs.ledger.Ledger.add.Goals as goal

given : (c : goal.After-self-2-1) → IsGiven c.args.self.now.shape.life c.args.self.now.round c.args.self.now.slots.items c.in-Some.place c.index_mut.result.now c.renew.new.self c.args.entry
given c = record {
  inside = c.in-Some.ensures.inside;
  read = c.index_mut.ensures.value;
  free = c.in-Some.ensures.free;
  is = c.renew.ensures.kept;
  new = c.requires.new;
}

pub invariant_of-self : goal.invariant_of-self
invariant_of-self c =
    let l = c.args.self.now in
    record {
      cap_fits = l.cap_fits;
      signatures_fit = l.signatures_fit;
      count = length-set l.slots.items c.in-Some.place c.renew.new.self ∙ l.count;
      rooms = rooms-set l.shape l.slots.items c.in-Some.place c.index_mut.result.now c.renew.new.self c.in-Some.ensures.inside c.index_mut.ensures.value l.rooms (c.renew.ensures.rooms l.shape);
      distinct = given-distinct l.shape.life l.round l.slots.items c.in-Some.place c.index_mut.result.now c.renew.new.self c.args.entry (record { inside = c.in-Some.ensures.inside; read = c.index_mut.ensures.value; free = c.in-Some.ensures.free; is = c.renew.ensures.kept; new = c.requires.new }) l.distinct;
    }

pub returns-clause-found : goal.returns-clause-found
returns-clause-found c =
    let l = c.args.self.now in
    given-found l.shape.life l.round l.slots.items c.in-Some.place c.index_mut.result.now c.renew.new.self c.args.entry (given c)

pub returns-clause-count : goal.returns-clause-count
returns-clause-count c =
    let l = c.args.self.now in
    given-count l.shape.life l.round l.slots.items c.in-Some.place c.index_mut.result.now c.renew.new.self c.args.entry (given c)

pub returns-clause-asked : goal.returns-clause-asked
returns-clause-asked c kind round =
    let l = c.args.self.now in
    given-counted (is_asked kind round) l.shape.life l.round l.slots.items c.in-Some.place c.index_mut.result.now c.renew.new.self c.args.entry (given c)

pub returns-clause-opens : goal.returns-clause-opens
returns-clause-opens c =
    let l = c.args.self.now in
    given-opens l.shape.life l.round l.slots.items c.in-Some.place c.index_mut.result.now c.renew.new.self c.args.entry (given c)

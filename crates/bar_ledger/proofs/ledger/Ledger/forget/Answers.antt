use Rattle.std.proofs.Common.{refl, ap, ◌∙◌}
use Rattle.std.specs.List.{find}
use Rattle.bar_ledger.specs.Code.Kept.{is_for, is_recent}
use Rattle.bar_ledger.specs.Code.Memory.{entries_in}
use Rattle.bar_ledger.specs.Code.Slots.{exchanges_of}
use Rattle.bar_ledger.proofs.Giving.{entries-later, found-passing, exchanges-passing, later-distinct}
use Rattle.bar_ledger.proofs.Recent.{keeps-recent}
use Rattle.bar_ledger.proofs.Recalled.{gives_up}
use Rattle.bar_ledger.proofs.ledger.Ledger.forget.Goals as goal

pub invariant_of-self : goal.invariant_of-self
invariant_of-self c =
    let l = c.args.self.now in
    record { cap_fits = l.cap_fits; signatures_fit = l.signatures_fit; count = l.count; rooms = l.rooms; distinct = later-distinct l.shape.life l.round c.args.round l.slots.items c.requires l.distinct }

pub returns-clause-found : goal.returns-clause-found
returns-clause-found c y =
    let l = c.args.self.now in
    ap (find (is_for y)) (entries-later l.shape.life l.round c.args.round l.slots.items c.requires) ∙ found-passing y (is_recent l.shape.life c.args.round) (entries_in l)

pub returns-clause-kept : goal.returns-clause-kept
returns-clause-kept c =
    let l = c.args.self.now in
    ap exchanges_of (entries-later l.shape.life l.round c.args.round l.slots.items c.requires) ∙ exchanges-passing (is_recent l.shape.life c.args.round) (entries_in l)

pub returns-clause-recent : goal.returns-clause-recent
returns-clause-recent c = keeps-recent c.args.self.now _ c.args.round (returns-clause-found c) (let l = c.args.self.now in entries-later l.shape.life l.round c.args.round l.slots.items c.requires)

pub returns-clause-keeps : goal.returns-clause-keeps
returns-clause-keeps c = gives_up c.args.self.now _ c.args.round refl refl refl refl (returns-clause-found c) (returns-clause-recent c)

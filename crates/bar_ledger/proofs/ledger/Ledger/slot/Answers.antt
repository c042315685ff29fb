use Rattle.std.proofs.Common.{sym, ap, ◌∙◌}
use Rattle.std.specs.Prelude.{is_some}
use Rattle.bar_ledger.proofs.Changes.{Keeps, keeps}
use Rattle.bar_ledger.proofs.ledger.Ledger.slot.Goals as goal

kept : (c : goal.After-index) → Keeps c.args.x c.args.self.now.shape.life c.args.self.now.round c.args.self.now.slots.items c.in_ok-slot_place.field-0 c.index.result.now
kept c =
    let l = c.args.self.now in
    keeps c.args.x l.shape.life l.round l.slots.items c.in_ok-slot_place.field-0 c.index.result.now
    (record { inside = c.in_ok-slot_place.ensures.inside; read = c.index.ensures; has = c.in_ok-slot_place.ensures.there; distinct = l.distinct })

pub returns-clause-kept : goal.returns-clause-kept
returns-clause-kept c = (kept c).is ∙ sym (kept c).found

pub returns-clause-some : goal.returns-clause-some
returns-clause-some c = ap (λ o. is_some o) (sym (kept c).found)

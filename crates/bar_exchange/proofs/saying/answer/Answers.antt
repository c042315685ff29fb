use Rattle.std.proofs.Common.{◌≡◌, sym, subst, ◌∙◌}
use Rattle.std.proofs.lemmas.Option.{same_Some}
use Rattle.bar_ledger.specs.declared.entry.Entry.{Entry}
use Rattle.bar_exchange.specs.Code.Answering.{IsAnsweredWith}
use Rattle.bar_exchange.proofs.Marks.{found_by}
use Rattle.bar_exchange.proofs.Begun.{answer_recalls}
use Rattle.bar_exchange.proofs.saying.answer.Goals as goal

pub returns-clause-learns : goal.returns-clause-learns
returns-clause-learns c me k d e h s own at a =
    let mine : Entry = c.in-Some.entry.now in
    let found = found_by c.args.ledger.now c.args.x c.in-Some.entry.now c.in-Some.ensures.entry in
    let same : e ≡ mine = same_Some _ _ (at ∙ sym c.in-Some.ensures.entry) in
    answer_recalls me k d c.args.x c.args.ledger.now c.set.new.self c.in-Some.entry.now c.args.terms c.is_told-complete.result h s own found
    (subst (λ (e : Entry). IsAnsweredWith me d c.args.x e.terms c.args.terms) same a)
    c.is_told-complete.ensures
    (record { found = c.set.ensures.found; asked = c.set.ensures.asked; opens = c.set.ensures.opens; same = c.set.ensures.same })

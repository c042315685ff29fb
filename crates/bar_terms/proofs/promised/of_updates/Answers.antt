use Rattle.std.proofs.Common.{◌≡◌, take, map, sym, ap, ◌∙◌, arith}
use Rattle.std.proofs.lemmas.List.{take_all}
use Rattle.bar_window.specs.Code.Window.{members}
use Rattle.bar_terms.specs.declared.items.Item.TheVariants.{Update}
use Rattle.bar_terms.proofs.promised.of_updates.Goals as goal

pub returns-clause-items : goal.returns-clause-items
returns-clause-items c =
    let all : c.loop-place.place ≡ c.list-listed.result.len = omega arith in
    let listed : take c.list-listed.result.len c.list-listed.result.ids ≡ members c.args.updates.now = c.list-listed.ensures.ids ∙ take_all 16 (members c.args.updates.now) c.requires in
    (λ t. take (sym all t) c.loop-place.items) ∙ c.loop-place.invariant.done ∙ ap (λ n. map Update (take n c.list-listed.result.ids)) all ∙ ap (map Update) listed

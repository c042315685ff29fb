use Rattle.std.proofs.Common.{◌∙◌, List, All, length, take, ap, sym, arith, subst}
use Rattle.bar_window.specs.Terms.{plain_terms}
use Rattle.bar_terms.specs.declared.items.Item.{Item}
use Rattle.bar_case.specs.Items.{items_len}
use Rattle.bar_case.specs.Sealed.{IsHeldItem}
use Rattle.bar_case.proofs.Laid.{promise_len, promise_held, promise_few, items_short, sealed_is}
use Rattle.bar_case.proofs.sealing.seal.Goals as goal

pub seal_items-requires-clause-held : goal.seal_items-requires-clause-held
seal_items-requires-clause-held g c =
    let same = ap (λ n. take n c.promise-promise.result.items) c.from.ensures ∙ c.promise-promise.ensures.items in
    let P : List Item → Type 0 = λ xs. All (IsHeldItem (g.B.Blocks.block_of c.args.blocks.now)) xs in
    subst P (sym same) (promise_held _ _ _ c.args.role c.requires.held)

pub seal_items-requires-clause-room : goal.seal_items-requires-clause-room
seal_items-requires-clause-room g c =
    let same = ap (λ n. take n c.promise-promise.result.items) c.from.ensures ∙ c.promise-promise.ensures.items in
    omega (arith, items_short (take c.from.result c.promise-promise.result.items), ap length same, promise_few c.args.cap (plain_terms c.args.terms.now) c.args.role c.requires.valid)

pub returns-clause-len : goal.returns-clause-len
returns-clause-len g c =
    let same = ap (λ n. take n c.promise-promise.result.items) c.from.ensures ∙ c.promise-promise.ensures.items in
    c.seal_items.ensures.len ∙ (ap items_len same ∙ promise_len c.args.cap (plain_terms c.args.terms.now) c.args.role)

pub returns-clause-value : goal.returns-clause-value
returns-clause-value g c =
    let same = ap (λ n. take n c.promise-promise.result.items) c.from.ensures ∙ c.promise-promise.ensures.items in
    sealed_is _ _ _ _ _ _ _ _ _ _ _ c.junk_key.ensures same c.seal_items.ensures.plain c.seal_items.ensures.value

pub returns-clause-fits : goal.returns-clause-fits
returns-clause-fits g c =
    let same = ap (λ n. take n c.promise-promise.result.items) c.from.ensures ∙ c.promise-promise.ensures.items in
    omega (arith, c.seal_items.ensures.len, items_short (take c.from.result c.promise-promise.result.items), ap length same, c.requires.cap, promise_few c.args.cap (plain_terms c.args.terms.now) c.args.role c.requires.valid)

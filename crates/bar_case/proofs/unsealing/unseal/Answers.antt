use Rattle.std.proofs.Common.{◌∙◌, length, take, ap, sym, arith}
use Rattle.bar_window.specs.Terms.{plain_terms}
use Rattle.bar_case.specs.Items.{items_len}
use Rattle.bar_case.proofs.Laid.{promise_len, promise_few, updates_few}
use Rattle.bar_case.proofs.Opens.{opening_is, blocks_are}
use Rattle.bar_case.proofs.unsealing.unseal.Goals as goal

pub unseal_items-requires-clause-few : goal.unseal_items-requires-clause-few
unseal_items-requires-clause-few c =
    let same = ap (λ n. take n c.promise-promise.result.items) c.from.ensures ∙ c.promise-promise.ensures.items in
    omega (arith, ap length same, promise_few c.args.cap (plain_terms c.args.terms.now) c.args.role c.requires.valid)

pub unseal_items-requires-clause-whole : goal.unseal_items-requires-clause-whole
unseal_items-requires-clause-whole c =
    let same = ap (λ n. take n c.promise-promise.result.items) c.from.ensures ∙ c.promise-promise.ensures.items in
    c.requires.whole ∙ sym (ap items_len same ∙ promise_len c.args.cap (plain_terms c.args.terms.now) c.args.role)

pub returns-clause-opening : goal.returns-clause-opening
returns-clause-opening c =
    let same = ap (λ n. take n c.promise-promise.result.items) c.from.ensures ∙ c.promise-promise.ensures.items in
    opening_is _ _ _ _ _ _ _ _ _ _ _ c.junk_key.ensures same c.unseal_items.ensures.opening

pub returns-clause-placed : goal.returns-clause-placed
returns-clause-placed c =
    let same = ap (λ n. take n c.promise-promise.result.items) c.from.ensures ∙ c.promise-promise.ensures.items in
    blocks_are c.args.cap (plain_terms c.args.terms.now) c.args.role _ _ _ _ _ same c.unseal_items.ensures.placed
    (omega (arith, c.unseal_items.ensures.places, c.requires.cap, updates_few c.args.cap (plain_terms c.args.terms.now) c.args.role c.requires.valid))

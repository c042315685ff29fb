use Rattle.std.proofs.Common.{◌∙◌, List, All, take, sym, ap, subst}
use Rattle.bar_window.specs.Terms.{plain_terms}
use Rattle.bar_terms.specs.declared.items.Item.{Item}
use Rattle.bar_case.specs.Sealed.{IsHeldItem}
use Rattle.bar_case.proofs.Blocks.{updates_held}
use Rattle.bar_case.proofs.Laid.{promise_held}
use Rattle.bar_store.specs.Code.Held.{block_in}
use Rattle.bar_exchange.proofs.sealing.can_seal.Goals as goal

pub returns : goal.returns
returns c =
    let same = ap (λ n. take n c.promise-promise.result.items) c.from.ensures ∙ c.promise-promise.ensures.items in
    let Held : List Item → Type 0 = λ items. All (IsHeldItem (block_in c.args.store.now)) items in (
      λ e. record {
        promise = sym c.can_promise.ensures ∙ c.if-not-can_promise.false;
        held = updates_held (block_in c.args.store.now) c.args.cap (plain_terms c.args.terms.now) c.args.role (subst Held same (c.are_held.ensures.0 e));
      },
      λ is. c.are_held.ensures.1
          (subst Held (sym same) (promise_held (block_in c.args.store.now) c.args.cap (plain_terms c.args.terms.now) c.args.role is.held)),
    )

use Rattle.std.proofs.Common.{ap, arith, length}
use Rattle.std.proofs.lemmas.Bool.{eqb-true, eq-eqb}
use Rattle.std.proofs.lemmas.List.{drop_all, length-drop}
use Rattle.bar_core.proofs.orders.Orders.is_empty.Goals as goal

pub returns : goal.returns
returns g c =
    let o = c.args.self.now in (
      λ h. drop_all o.given o.list.items (omega (arith, eqb-true o.given c.len.result h, c.len.ensures)),
      λ e. eq-eqb o.given c.len.result (omega (arith, ap length e, length-drop o.given o.list.items, o.given_fits, c.len.ensures)),
    )

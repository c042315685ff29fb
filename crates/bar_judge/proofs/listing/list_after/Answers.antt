use Rattle.std.proofs.Common.{◌/◌, length, ap, arith}
use Rattle.bar_wire.specs.declared.shape.Shape.{Shape}
use Rattle.bar_wire.specs.Code.Views.{plain}
use Rattle.bar_wire.proofs.Steps.{length_chunks}
use Rattle.bar_judge.specs.Code.TableViews.{plain_list}
use Rattle.bar_judge.proofs.TableLists.{is_listed}
use Rattle.bar_judge.proofs.listing.list_after.Goals as goal

pub returns-clause-place : goal.returns-clause-place
returns-clause-place g c =
    let list = c.in_ok-list.list in
    let same = c.shape-shape.ensures.value in
    let fits = is_listed c.shape-shape.result (plain c.in-Ok.view.body) (plain_list list) c.in-Ok.ensures.found.spelled.fits.range c.in_ok-list.ensures.value in
    let long = length_chunks 32 (length list.1.now / 32) list.1.now in
    record {
      after = omega arith;
      round = omega (arith, fits.round, ap (λ (s : Shape). s.rounds) same);
      whole = c.in_ok-list.ensures.whole;
      few = omega (arith, fits.few, long, ap (λ (s : Shape). s.per_round) same);
    }

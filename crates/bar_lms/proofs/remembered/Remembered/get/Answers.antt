use Rattle.std.proofs.Common.{rules, ◌<◌, length}
use Rattle.std.proofs.lemmas.Option.{IfSome_then}
use Rattle.bar_lms.specs.Code.Remembered.{AreValuesOf}
use Rattle.bar_lms.proofs.RememberedLemmas.{values_at}
use Rattle.bar_lms.proofs.remembered.Remembered.get.Goals as goal

pub returns : goal.returns
returns c =
    let inside : c.in_ok-place.place < length c.self.inside.places.items = search rules in
    let are : AreValuesOf c.self.inside.ots c.index.result.now =
    values_at c.self.inside.ots c.self.inside.places.items c.in_ok-place.place c.index.result.now c.index.ensures inside c.self.invariant
    in
    IfSome_then c.get.result c.get.ensures
    (λ values only. rw (← only.0, ← only.1, ← only.2) (are.kept values.now only.3))

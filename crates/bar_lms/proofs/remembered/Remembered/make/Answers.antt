use Rattle.std.proofs.lemmas.List.Elements.{All-push}
use Rattle.bar_lms.specs.Code.Remembered.{AreValuesOf}
use Rattle.bar_lms.proofs.RememberedLemmas.{none_kept}
use Rattle.bar_lms.proofs.remembered.Remembered.make.Goals as goal

pub places-preserved : goal.places-preserved
places-preserved c =
    let are : AreValuesOf c.args.ots c.in_ok-place.place = none_kept c.args.ots c.in_ok-place.place c.in_ok-place.ensures in
    rw c.in_ok-push.ensures.items (All-push (AreValuesOf c.args.ots) c.places.all.items c.in_ok-place.place c.places.invariant are)

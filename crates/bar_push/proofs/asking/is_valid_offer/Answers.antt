use Rattle.std.proofs.Common.{◌∙◌, sym}
use Rattle.bar_window.specs.Code.Window.{members}
use Rattle.bar_terms.specs.Table.{digests_of}
use Rattle.bar_terms.specs.Terms.{offer_ok}
use Rattle.bar_push.proofs.asking.is_valid_offer.Goals as goal

pub returns : goal.returns
returns c me k h allowed windows =
    c.offer_ok.ensures
    ∙ (λ i. offer_ok (allowed i) ((c.life-life.ensures.life ∙ h.life) i)
    (λ round. sym (h.table round ∙ (λ j. digests_of (sym c.table.ensures j).lists round)) i) c.args.offer.now.x.round
    (members c.args.offer.now.young) (members c.args.offer.now.aged))

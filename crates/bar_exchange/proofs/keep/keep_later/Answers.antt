use Rattle.std.proofs.Common.{◌∙◌, sym}
use Rattle.std.proofs.lemmas.Bool.{false≢true}
use Rattle.bar_exchange.proofs.Later.{later_learned, later_stays}
use Rattle.bar_exchange.proofs.keep.keep_later.Goals as goal

pub returns-then-not-may_hear-clause-learns : goal.returns-then-not-may_hear-clause-learns
returns-then-not-may_hear-clause-learns c me k d h now later is of =
    later_stays me k c.args.ledger.now d c.args.bytes.now c.args.x c.args.kind h now later is of
    (λ may. false≢true (sym c.if-not-may_hear.true ∙ c.may_hear.ensures.complete may))

pub returns-clause-learns : goal.returns-clause-learns
returns-clause-learns c me k d h now later is of =
    later_learned me k c.args.ledger.now _ d c.args.bytes.now c.args.x c.args.kind h now later is of (c.may_hear.ensures.sound c.if-not-may_hear.false)
    (record { found = c.hear.ensures.found; asked = c.hear.ensures.asked; opens = c.hear.ensures.opens; same = c.hear.ensures.same })

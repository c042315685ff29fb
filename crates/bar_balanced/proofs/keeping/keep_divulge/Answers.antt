use Rattle.bar_window.specs.declared.exchange.Role.TheVariants.{Initiator}
use Rattle.bar_window.specs.Code.Window.{members}
use Rattle.bar_exchange.proofs.PartKept.{no_entry}
use Rattle.bar_balanced.proofs.Kept.{divulge_of, divulge_learned, no_push}
use Rattle.bar_balanced.proofs.keeping.keep_divulge.Goals as goal

pub returns-in_default-clause-learns : goal.returns-in_default-clause-learns
returns-in_default-clause-learns c me k d r m body place window =
    let o = divulge_of me k c.args.ledger.now d c.args.bytes.now c.args.x r c.args.nonce (members c.args.ha) m body place in
    absurd (no_entry c.find.result _ o.kept c.find.ensures.entry c.in_default.not-Some o.at.found)

pub returns-in_default-terms-clause-learns : goal.returns-in_default-terms-clause-learns
returns-in_default-terms-clause-learns c me k d r m body place window =
    let o = divulge_of me k c.args.ledger.now d c.args.bytes.now c.args.x r c.args.nonce (members c.args.ha) m body place in
    absurd (no_push me k c.args.ledger.now d c.args.x Initiator c.in-Some.entry.now _ _ _ _ _ o c.in-Some.ensures.entry c.in_default-terms.is)

pub returns-clause-learns : goal.returns-clause-learns
returns-clause-learns c me k d r m body place window =
    divulge_learned me k c.args.ledger.now _ d c.args.bytes.now c.args.x r c.args.nonce c.in-Balanced.nonce c.args.ha c.in-Balanced.ha c.in-Balanced.hb c.in-Some.entry.now m body place window
    c.in-Some.ensures.entry c.in-Balanced.is c.keep_part.ensures.changes

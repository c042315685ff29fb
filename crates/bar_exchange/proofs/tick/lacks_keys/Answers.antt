use Rattle.std.proofs.Common.{◌∙◌, ◌||◌, is_some, sym, ap}
use Rattle.std.specs.Prelude.{not}
use Rattle.bar_wire.specs.declared.kind.Kind.TheVariants as kinds
use Rattle.bar_ledger.specs.Code.Lookups.{heard_in}
use Rattle.bar_exchange.proofs.CasesAgain.{keys_known}
use Rattle.bar_exchange.proofs.tick.lacks_keys.Goals as goal

pub returns-then-not-has_said : goal.returns-then-not-has_said
returns-then-not-has_said c me k h recent own =
    sym (ap (λ said. not (said || c.has_heard.result)) c.if-not-has_said.true)
    ∙ keys_known me k c.args.ledger.now c.args.x c.args.role c.has_said.result c.has_heard.result h recent own c.has_said.ensures
    (c.has_heard.ensures ∙ ap (λ role. is_some (heard_in c.args.ledger.now kinds.Key c.args.x role)) c.other.ensures)

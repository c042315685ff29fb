use Rattle.std.proofs.Common.{◌∙◌, ◌&&◌, sym, ap}
use Rattle.std.specs.List.{list_any}
use Rattle.bar_ledger.specs.Code.Debts.{is_owed, owes_by}
use Rattle.bar_ledger.specs.Code.Memory.{entries_in}
use Rattle.bar_ledger.proofs.Owed.{owes-known}
use Rattle.bar_ledger.proofs.ledger.Ledger.owes.Goals as goal

pub returns-then-not-is_third-clause-is : goal.returns-then-not-is_third-clause-is
returns-then-not-is_third-clause-is c =
    let l = c.args.self.now in
    sym (ap (λ b. b && list_any (is_owed l.shape.life c.args.party c.args.round) (entries_in l)) (sym c.is_third.ensures ∙ c.if-not-is_third.true))

pub returns-then-not-is_third-clause-owes : goal.returns-then-not-is_third-clause-owes
returns-then-not-is_third-clause-owes c me k h now =
    let l = c.args.self.now in
    returns-then-not-is_third-clause-is c ∙ ap (owes_by l c.args.party) now ∙ owes-known me k l c.args.party h l.distinct

pub returns-clause-is : goal.returns-clause-is
returns-clause-is c =
    let l = c.args.self.now in
    c.has_debt.ensures
    ∙ sym (ap (λ b. b && list_any (is_owed l.shape.life c.args.party c.args.round) (entries_in l)) (sym c.is_third.ensures ∙ c.if-not-is_third.false))

pub returns-clause-owes : goal.returns-clause-owes
returns-clause-owes c me k h now =
    let l = c.args.self.now in
    returns-clause-is c ∙ ap (owes_by l c.args.party) now ∙ owes-known me k l c.args.party h l.distinct

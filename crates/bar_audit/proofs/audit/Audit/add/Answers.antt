use Rattle.std.proofs.Common.{rules, ◌≡◌, ◌∙◌, ◌||◌, ℕ, sym, ap, eqb, false, Err}
use Rattle.std.proofs.lemmas.Result.{err_from_is_err_and}
use Rattle.bar_record.specs.Code.Inputs.{inputs_left}
use Rattle.bar_audit.specs.declared.fault.AuditFault.TheVariants.{Twice, NoMemory}
use Rattle.bar_audit.specs.Code.Findings.{has_number}
use Rattle.bar_audit.proofs.Added.{audits-more, not-twice, nat-tells}
use Rattle.bar_audit.proofs.Sides.{kept-key}
use Rattle.bar_audit.proofs.audit.Audit.add.Goals as goal

pub returns-in_err-insert-clause-twice : goal.returns-in_err-insert-clause-twice
returns-in_err-insert-clause-twice g c = λ s recordings at.
    let fresh : has_number c.args.self.parties.keys c.args.party ≡ false = search rules in
    let p = err_from_is_err_and c.from_residual.result c.from_residual.ensures.1 in
    not-twice s recordings c.args.self c.args.party _ at fresh (λ e. let clash : Err NoMemory ≡ Err Twice = sym (p.1 ∙ ap Err p.2) ∙ e in cc)

pub returns-in_err-give_all-clause-twice : goal.returns-in_err-give_all-clause-twice
returns-in_err-give_all-clause-twice g c = λ s recordings at.
    let fresh : has_number c.args.self.parties.keys c.args.party ≡ false = search rules in
    let p = err_from_is_err_and c.from_residual-in_err-give_all.result c.from_residual-in_err-give_all.ensures.1 in
    not-twice s recordings c.args.self c.args.party _ at fresh (λ e. let clash : Err NoMemory ≡ Err Twice = sym (p.1 ∙ ap Err p.2) ∙ e in cc)

pub returns-in_err-list_recorded-clause-twice : goal.returns-in_err-list_recorded-clause-twice
returns-in_err-list_recorded-clause-twice g c = λ s recordings at.
    let fresh : has_number c.args.self.parties.keys c.args.party ≡ false = search rules in
    let p = err_from_is_err_and c.from_residual-in_err-list_recorded.result c.from_residual-in_err-list_recorded.ensures.1 in
    not-twice s recordings c.args.self c.args.party _ at fresh (λ e. let clash : Err NoMemory ≡ Err Twice = sym (p.1 ∙ ap Err p.2) ∙ e in cc)

pub returns-clause-twice : goal.returns-clause-twice
returns-clause-twice g c = λ s recordings at.
    let fresh : has_number c.args.self.parties.keys c.args.party ≡ false = search rules in
    not-twice s recordings c.args.self c.args.party _ at fresh (λ e. cc)

pub returns-clause-added : goal.returns-clause-added
returns-clause-added g c = λ recordings at.
    let fresh : has_number c.args.self.parties.keys c.args.party ≡ false = search rules in
    let added : (p : ℕ) → has_number c.insert.new.self.keys p ≡ (eqb c.args.party p || has_number c.args.self.parties.keys p) =
    (λ p. kept-key _ eqb nat-tells c.args.self.parties.keys c.insert.new.self.keys c.args.party p (c.in_ok-insert.ensures.updates.0 p)) in
    audits-more c.args.session.now recordings c.args.self _ c.args.party (inputs_left c.args.items) at (sym (at.parties c.args.party) ∙ fresh)
    added c.in_ok-give_all.ensures.cases c.in_ok-give_all.ensures.keys c.in_ok-give_all.ensures.windows c.in_ok-give_all.ensures.exchanges
    c.in_ok-list_recorded.ensures.listed c.in_ok-list_recorded.ensures.rising

use Rattle.std.proofs.Common.{◌∙◌, sym}
use Rattle.bar_lms.specs.declared.params.Height.{Height}
use Rattle.bar_lms.specs.Schemes.{upper_types}
use Rattle.bar_session.specs.SessionData.{SessionData}
use Rattle.bar_hss.proofs.FileLemmas.{double_verifies, no_top, single_verifies, some_top}
use Rattle.bar_hss.proofs.chosen.SessionVerifier.of.Goals as goal

pub returns-in-None : goal.returns-in-None
returns-in-None c =
    let s : SessionData = c.args.session.now in
    let none = no_top (λ (height : Height). upper_types height s.params) s.top (sym c.upper.ensures.value ∙ c.in-None.is) in
    single_verifies s c.new.result none (c.new.ensures ∙ c.params-params.ensures)

pub returns-in-Some : goal.returns-in-Some
returns-in-Some c =
    let s : SessionData = c.args.session.now in
    let p = some_top (λ (height : Height). upper_types height s.params) s.top c.in-Some.top (sym c.upper.ensures.value ∙ c.in-Some.is) in
    double_verifies s p.0 c.new-in-Some.result p.1
    (c.new-in-Some.ensures ∙ (λ i. record { top = sym p.2 i; low = c.params-params.ensures i }))

use Rattle.std.proofs.Common.{◌∙◌, sym}
use Rattle.bar_lms.specs.Params.{lms_type}
use Rattle.bar_session.specs.SessionData.{SessionData}
use Rattle.bar_hss.proofs.FileLemmas.{is_there, no_top}
use Rattle.bar_hss.proofs.party_key.PartyKey.read.Goals as goal

pub returns-in_ok-file-in-None-clause-fits : goal.returns-in_ok-file-in-None-clause-fits
returns-in_ok-file-in-None-clause-fits c =
    let s : SessionData = c.args.session.now in
    let none = no_top lms_type s.top (sym c.top.ensures ∙ c.in-None.is) in
    c.single.ensures.fits s c.args.caster none c.in_ok-file-in-None.ensures.fits

pub returns-in_ok-file-in-Some-clause-fits : goal.returns-in_ok-file-in-Some-clause-fits
returns-in_ok-file-in-Some-clause-fits c =
    let s : SessionData = c.args.session.now in
    let some = is_there lms_type s.top c.in-Some.field-0 (sym c.top.ensures ∙ c.in-Some.is) in
    c.double.ensures.fits s c.args.caster some c.in_ok-file-in-Some.ensures.fits

use Rattle.std.proofs.Common.{◌∙◌, sym}
use Rattle.bar_hss.proofs.FileLemmas.{hss_key_file_of_session}
use Rattle.bar_hss.proofs.key_file.HssKeyFile.read.Goals as goal

pub returns-clause-fits : goal.returns-clause-fits
returns-clause-fits c =
    hss_key_file_of_session c.args.session.now c.args.caster c.args.bytes.now c.in_ok-key.key c.in_ok-file.file
    c.in_ok-key.ensures.ok c.in_ok-file.ensures (sym c.fits.ensures ∙ c.if-not-fits.false)

use Rattle.std.proofs.Common.{◌∙◌}
use Rattle.bar_hss.proofs.FileLemmas.{key_double, there_top}
use Rattle.bar_hss.proofs.key_file.HssKeyFile.public_in.Goals as goal

pub returns : goal.returns
returns c =
    let there = there_top c.args.session.now.top c.requires.double in
    c.public.ensures
    ∙ key_double c.args.session.now there.0 c.args.self.now.secrets.secret c.args.self.now.signer there.1 (c.requires.made.signer there.0 there.1)

use Rattle.std.proofs.Common.{◌∙◌, sym, ap}
use Rattle.bar_lms.specs.Secret.{Secret, public_key}
use Rattle.bar_roster.proofs.KeyLemmas.{key_single}
use Rattle.bar_roster.proofs.key_file.KeyFile.public_in.Goals as goal

pub returns : goal.returns
returns c =
    c.public.ensures.value
    ∙ ap (λ (s : Secret). public_key s) c.requires.made.signer
    ∙ sym (key_single c.args.session.now c.args.self.now.secrets.secret c.requires.single)

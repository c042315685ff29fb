use Rattle.std.proofs.Common.{◌∙◌, refl}
use Rattle.bar_roster.proofs.KeyLemmas.{file_held}
use Rattle.bar_hss.proofs.FileLemmas.{party_key, single_signs}
use Rattle.bar_hss.proofs.party_key.PartyKey.single.Goals as goal

pub returns-clause-fits : goal.returns-clause-fits
returns-clause-fits c s caster none is =
    party_key s caster c.args.file.secrets c.args.file.chain _ (file_held s caster c.args.file is) is.made.secrets is.made.chain
    (single_signs s c.args.file.secrets.secret c.new.result none (c.new.ensures ∙ is.made.signer)) refl refl

use Rattle.std.proofs.Common.{◌∙◌, refl}
use Rattle.bar_hss.proofs.FileLemmas.{double_signs, party_key, there_top}
use Rattle.bar_hss.proofs.party_key.PartyKey.double.Goals as goal

pub returns-clause-fits : goal.returns-clause-fits
returns-clause-fits c s caster some is =
    let there = there_top s.top some in
    party_key s caster c.args.file.secrets c.args.file.chain _ is.held is.made.secrets is.made.chain
    (double_signs s there.0 c.args.file.secrets.secret c.new.result there.1 (c.new.ensures ∙ is.made.signer there.0 there.1)) refl refl

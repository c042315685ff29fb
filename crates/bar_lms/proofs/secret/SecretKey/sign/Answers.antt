use Rattle.std.proofs.Common.{◌≡◌, take, arith}
use Rattle.bar_lms.specs.Secret.{signed}
use Rattle.std.proofs.lemmas.Grind.{common_steps}
use Rattle.bar_lms.proofs.Decided.{made_accepted}
use Rattle.bar_lms.proofs.secret.SecretKey.sign.Goals as goal

pub returns-clause-accepted_under : goal.returns-clause-accepted_under
unfolding signed
returns-clause-accepted_under c =
    let value : take c.sign_from.result c.sign_from.new.out ≡ signed c.args.self.now c.args.leaf c.args.message.now = grind (arith, common_steps) in
    rw value (made_accepted c.args.self.now c.args.leaf c.args.message.now c.requires.leaf)

use Rattle.std.proofs.Common.{◌∙◌, sym, ap, Option}
use Rattle.bar_lms.specs.Hss.{HssSecret, hss_public_key}
use Rattle.bar_lms.specs.Schemes.{public_by}
use Rattle.bar_lms.specs.declared.params.Height.{Height}
use Rattle.bar_cli.specs.Keygen.Plan.{public_of}
use Rattle.bar_cli.proofs.keygen.double_key.Goals as goal

pub returns : goal.returns
unfolding public_of public_by
returns c =
    c.public.ensures
    ∙ ap (λ (s : HssSecret). hss_public_key s) c.in_ok-key.ensures
    ∙ ap (λ (top : Option Height). public_by top c.args.asked.now.types.params c.args.asked.now.id c.args.secret.now) (sym c.requires)

-- The signature follows the message.
use Rattle.std.proofs.Common.{◌∙◌, ◌+◌, ◌++◌, take, sym, ap}
use Rattle.std.proofs.Math.Seq.{take-append-add}
use Rattle.bar_caster.proofs.signing.sign_behind.Goals as goal

pub returns-clause-signed : goal.returns-clause-signed
returns-clause-signed g c =
    let front = c.split_at_mut-message.result.0.now in
    let split = c.split_at_mut-message.ensures in
    let signed = c.sign.ensures.value ∙ ap (g.S.Scheme.signed c.args.scheme.now c.args.leaf) split.front in
    (λ i. take (sym split.front_len i + c.sign.result) (front ++ c.sign.new.out))
    ∙ take-append-add front c.sign.new.out c.sign.result
    ∙ (λ i. split.front i ++ signed i)

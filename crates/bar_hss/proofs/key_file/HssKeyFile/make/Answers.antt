use Rattle.std.proofs.Common.{◌∙◌, ap}
use Rattle.bar_hss.proofs.key_file.HssKeyFile.make.Goals as goal

pub returns : goal.returns
returns c =
    let shape = c.shape-rounds.ensures.value in
    record {
      secrets = ap (λ s. record { id = s.id; party = c.args.key.now.party; secret = c.args.key.now.secret }) shape;
      signer = λ height is.
          let upper = c.upper_types.ensures.value height is in
          c.in_ok-signer.ensures
          ∙ (λ i. record { top = upper i; low = c.params.ensures i; id = (shape i).id; secret = c.args.key.now.secret });
      chain = c.in_ok-chain.ensures ∙ ap (λ s. record {
        secrets = record { id = s.id; party = c.args.key.now.party; secret = c.args.key.now.secret };
        rounds = s.rounds;
      }) shape;
    }

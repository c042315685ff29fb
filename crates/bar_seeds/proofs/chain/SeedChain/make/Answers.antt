use Rattle.std.proofs.Common.{◌≡◌, ◌++◌, ◌∷◌, [], ◌+◌, refl, arith}
use Rattle.std.proofs.lemmas.Grind.{common_steps}
use Rattle.bar_seeds.specs.declared.secrets.Secrets.{Secrets}
use Rattle.bar_seeds.proofs.SeedLemmas.{chain_back-first, chain_back-more, values_more}
use Rattle.bar_seeds.proofs.chain.SeedChain.make.Goals as goal

pub loop-back-init : goal.loop-back-init
loop-back-init c =
    let s : Secrets = record { id = c.args.id.now; party = c.args.party; secret = c.args.secret.now } in
    let first = chain_back-first s c.args.rounds c.last_value-value.result c.last_value-value.ensures in
    let items : c.push.new.self.items ≡ [] ++ c.last_value-value.result ∷ [] = grind (arith, common_steps) in
    record {
      long = grind (arith, common_steps);
      value = first;
      values = rw items (values_more s c.args.rounds 0 [] c.last_value-value.result refl (λ k below. absurd (omega arith)) first);
    }

pub loop-back-preserved : goal.loop-back-preserved
loop-back-preserved c =
    let s : Secrets = record { id = c.args.id.now; party = c.args.party; secret = c.args.secret.now } in
    let next = chain_back-more s c.args.rounds c.loop-back.back c.loop-back.value c.chain_step-value.result c.loop-back.invariant.value c.chain_step-value.ensures in
    let items : c.push-in-loop-back.new.self.items ≡ c.loop-back.values.items ++ c.chain_step-value.result ∷ [] = grind (arith, common_steps) in
    record {
      long = grind (arith, common_steps);
      value = next;
      values = rw items (values_more s c.args.rounds (c.loop-back.back + 1) c.loop-back.values.items c.chain_step-value.result c.loop-back.invariant.long c.loop-back.invariant.values next);
    }

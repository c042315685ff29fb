use Rattle.std.proofs.Common.{◌≡◌, ◌-◌, arith}
use Rattle.std.proofs.lemmas.Grind.{common_steps}
use Rattle.bar_seeds.specs.Seeds.{chain_back}
use Rattle.bar_seeds.proofs.SeedLemmas.{own_seed}
use Rattle.bar_seeds.proofs.chain.SeedChain.seed.Goals as goal

pub returns-clause-meets_anchor : goal.returns-clause-meets_anchor
returns-clause-meets_anchor c =
    let s = c.args.self.now in
    let value : c.index.result.now ≡ chain_back s.secrets s.rounds (s.rounds - c.args.round) = grind (arith, common_steps) in
    rw value (own_seed s.secrets s.rounds c.args.round c.requires.last)

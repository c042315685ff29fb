use Rattle.std.proofs.Common.{◌≡◌, ℕ, ◌+◌, ◌<◌, [], length, get_or}
use Rattle.bar_seeds.specs.Seeds.{chain_back}
use Rattle.bar_seeds.proofs.chain.SeedChain.make.Given as goal

abbrev pub invariant-loop-back : goal.invariant-loop-back
invariant-loop-back l = record {
  long : length l.values.items ≡ l.back + 1;
  value : l.value ≡ chain_back (record { id = l.id; party = l.party; secret = l.secret }) l.rounds l.back;
  values : (k : ℕ) → k < l.back + 1 → get_or l.values.items k [] ≡ chain_back (record { id = l.id; party = l.party; secret = l.secret }) l.rounds k;
}

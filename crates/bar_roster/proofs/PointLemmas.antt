-- The checkpoints of the peers' seeds after a test of one seed.
use Rattle.std.proofs.Common.{◌≡◌, ℕ, ◌+◌, ◌==◌, true, false, List, Option, None, refl, ap, ◌∙◌, subst, arith}
use Rattle.std.proofs.lemmas.Bool.Decides.{nat_tests}
use Rattle.std.specs.Option.{option_map_or}
use Rattle.bar_seeds.specs.declared.checkpoints.KeptSeed.{KeptSeed}
use Rattle.bar_seeds.specs.declared.checkpoints.Checkpoints.{Checkpoints}
use Rattle.std.proofs.lemmas.Slice.Eq.{bytes_eq-Decides}
use Rattle.std.proofs.lemmas.Bool.{eqb-false}
use Rattle.bar_seeds.specs.Seeds.{is_seed, chain_start}
use Rattle.bar_seeds.specs.Code.Checkpoints.{kept_of, kept_round, kept_value, parties_in, MovesOn}
use Rattle.bar_session.specs.SessionData.{SessionData}
use Rattle.bar_session.specs.Points.{anchor_in, AreSeeds}

abbrev IsSeedOf : SessionData → Checkpoints → ℕ → Type 0
IsSeedOf s points peer = is_seed s.shape.id (anchor_in s peer) peer (kept_round points peer) (kept_value points (anchor_in s peer) peer) ≡ true

same_number : (m n : ℕ) → (m == n) ≡ true → n ≡ m
same_number m n e = grind (arith, nat_tests, e)

other_stays : (s : SessionData) (old new : Checkpoints) (peer : ℕ) → kept_of new peer ≡ kept_of old peer → IsSeedOf s old peer → IsSeedOf s new peer
other_stays s old new peer same was =
    ap (λ (o : Option KeptSeed). is_seed s.shape.id (anchor_in s peer) peer (option_map_or (λ k. k.round) o 0) (option_map_or (λ k. k.seed) o (anchor_in s peer))) same ∙ was

pub seeds_stay : (s : SessionData) (old new : Checkpoints) (peer : ℕ) → AreSeeds s old → MovesOn peer old new → IsSeedOf s new peer → AreSeeds s new
seeds_stay s old new peer seeds moves own = record {
  room = moves.room ∙ seeds.room;
  seeds = λ p low high.
      (elim (p == peer) as (λ b. (p == peer) ≡ b → IsSeedOf s new p) [
        | true ↦ λ t. subst (IsSeedOf s new) (same_number p peer t) own
        | false ↦ λ t. other_stays s old new p (moves.others p (eqb-false p peer t)) (seeds.seeds p low high)
      ]) refl;
}

-- the anchor is the seed of round 0
anchor_first : (id anchor : List ℕ) (peer : ℕ) → is_seed id anchor peer 0 anchor ≡ true
unfolding is_seed chain_start
anchor_first id anchor peer = (bytes_eq-Decides anchor anchor).1 refl

pub no_seeds : (s : SessionData) (points : Checkpoints) → parties_in points ≡ s.shape.peers + 1 → ((peer : ℕ) → kept_of points peer ≡ None)
    → AreSeeds s points
no_seeds s points room none = record {
  room = room;
  seeds = λ p low high.
      ap (λ (o : Option KeptSeed). is_seed s.shape.id (anchor_in s p) p (option_map_or (λ k. k.round) o 0) (option_map_or (λ k. k.seed) o (anchor_in s p)))
      (none p)
      ∙ anchor_first s.shape.id (anchor_in s p) p;
}

-- How consecutive steps change a guard.
use Rattle.std.proofs.Common.{◌≡◌, ◌∙◌, ℕ, refl, sym, ap, subst, arith, inl}
use Rattle.bar_seeds.specs.declared.checkpoints.Checkpoints.{Checkpoints}
use Rattle.bar_seeds.proofs.CheckpointLemmas.{moves_none, moves_both}
use Rattle.bar_session.specs.Points.{AreSeeds}
use Rattle.bar_session.specs.SessionData.{SessionData}
use Rattle.bar_rules.specs.Verifiers.{IsVerifierOf, NamesLeavesOf}
use Rattle.bar_seal.specs.declared.checker.Checker.{Checker}
use Rattle.bar_seal.specs.declared.scheme.Verifier.{Ghosts}
use Rattle.bar_peer.specs.declared.guard.Guard.{Guard}
use Rattle.bar_peer.specs.Code.Checking.{Checks, ChecksSeed, FollowsSeed, IsCheckedOnce, IsGuardOf, Remembers, Shown}

pub follows_none : (s : SessionData) (d : Shown) (points : Checkpoints) (n : ℕ) → AreSeeds s points → FollowsSeed s d points points n n
follows_none s d points n seeds = record { seeds = seeds; moves = moves_none d.sender points; most = omega arith }

-- a verifier of the session and the peers' seeds form a guard
pub made_guards : {V : Type 0} {g : Ghosts V} (s : SessionData) (checker : Checker V g) (verifier : V) (points : Checkpoints)
    → checker.verifier ≡ verifier → IsVerifierOf s (g.is_accepted verifier) → NamesLeavesOf s (g.leaf_named verifier) (g.signature_len verifier)
    → AreSeeds s points → IsGuardOf s (record { checker = checker; points = points })
made_guards {V} {g} s checker verifier points same verifies names seeds = record {
  verifies = subst (λ (v : V). IsVerifierOf s (g.is_accepted v)) (sym same) verifies;
  names = subst (λ (v : V). NamesLeavesOf s (g.leaf_named v) (g.signature_len v)) (sym same) names;
  seeds = seeds;
}

-- it is still a guard if the verifier is the same
still_guards : {V : Type 0} {g : Ghosts V} (s : SessionData) (old new : Guard V g) → IsGuardOf s old
    → new.checker.verifier ≡ old.checker.verifier → AreSeeds s new.points → IsGuardOf s new
still_guards s old new is same seeds = made_guards s new.checker old.checker.verifier new.points same is.verifies is.names seeds

-- an unchanged guard and count satisfy `Checks`
pub checks_none : {V : Type 0} {g : Ghosts V} (s : SessionData) (d : Shown) (ways : ℕ) (guard : Guard V g) (n : ℕ) → IsGuardOf s guard
    → Checks s d ways guard guard n n
checks_none s d ways guard n is = record {
  guards = is;
  verifier = refl;
  memo = inl refl;
  moves = moves_none d.sender guard.points;
  most = omega arith;
  remembered = λ has. omega arith;
}

-- a check that takes the way along the seeds once also satisfies the bound for twice; so do a check and a search after it
pub checks_more : {V : Type 0} {g : Ghosts V} {s : SessionData} {d : Shown} {old new : Guard V g} {before after : ℕ}
    → Checks s d 1 old new before after → Checks s d 2 old new before after
checks_more one = record {
  guards = one.guards;
  verifier = one.verifier;
  memo = one.memo;
  moves = one.moves;
  most = omega (arith, one.most);
  remembered = λ has. omega (arith, one.remembered has);
}

pub checks_again : {V : Type 0} {g : Ghosts V} {s : SessionData} {d : Shown} {old mid new : Guard V g} {before between after : ℕ}
    → Checks s d 1 old mid before between → ChecksSeed s d mid new between after → Checks s d 2 old new before after
checks_again {V} {g} {s} {d} {old} {mid} {new} one two = record {
  guards = still_guards s mid new one.guards (ap (λ (c : Checker V g). c.verifier) two.checker) two.follows.seeds;
  verifier = ap (λ (c : Checker V g). c.verifier) two.checker ∙ one.verifier;
  memo = subst (λ (c : Checker V g). IsCheckedOnce d.pair old.checker.memo c.memo) (sym two.checker) one.memo;
  moves = moves_both d.sender old.points mid.points new.points one.moves two.follows.moves;
  most = omega (arith, one.most, two.follows.most);
  remembered = λ has. omega (arith, one.remembered has, two.follows.most);
}

-- what is remembered stays remembered
pub remembers_still : {V : Type 0} {g : Ghosts V} {s : SessionData} {d : Shown} {old mid new : Guard V g} {before after : ℕ}
    → Remembers d old mid → ChecksSeed s d mid new before after → Remembers d old new
remembers_still {V} {g} is then = record {
  first = λ signed. ap (λ (c : Checker V g). c.memo) then.checker ∙ is.first signed;
  reached = omega (arith, is.reached, then.follows.moves.on);
}

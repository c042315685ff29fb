-- Theorems about the simulation of every seed.
use Rattle.std.specs.Prelude.{◌≡◌, ℕ, ◌≤◌, Bool, nat_le, Contains}
use Rattle.bar_rules.specs.World.World.{IsSetup, AreUnforged, initial, run}
use Rattle.bar_world.specs.Sim.{setup, sim}
use Rattle.bar_world.specs.Ends.{sim_end}

-- every party except the liar, peer 5
abbrev pub is_honest : ℕ → Bool
is_honest party = nat_le party 4

-- its session contains the keys and anchors derived from its parties' secrets
abbrev pub SimsAreSetups : Type 0
SimsAreSetups = (seed : ℕ) → IsSetup (setup seed)

-- its world is the result of its moves from the setup
abbrev pub SimsAreRuns : Type 0
SimsAreRuns = (seed : ℕ) → (sim seed).world ≡ run (setup seed) (initial (setup seed)) (sim seed).moves

-- its moves forge nothing of the honest parties
abbrev pub SimsForgeNothing : Type 0
SimsForgeNothing = (seed : ℕ) → AreUnforged (setup seed) is_honest (initial (setup seed)) (sim seed).moves

-- no honest peer is among the evicted peers at its end
abbrev pub HonestPeersStay : Type 0
HonestPeersStay = (seed peer : ℕ) → 1 ≤ peer → peer ≤ 4 → Contains (sim_end seed).evicted peer → ⊥

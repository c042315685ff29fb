-- The result of a simulation that the code returns.
use Rattle.std.specs.Prelude.{◌≡◌, ℕ, ◌≤◌, List, take, Contains}
use Rattle.bar_world.specs.Ends.{sim_end}
use Rattle.bar_world.specs.declared.sim_end.SimEnd.{SimEnd}
use Rattle.bar_world.specs.declared.small_list.SmallList.{SmallList}

-- the parties of a `SmallList`
abbrev pub parties_of : SmallList → List ℕ
parties_of small = take small.len small.list

-- A `SmallList` contains exactly these parties.
pub record Lists (small : SmallList) (parties : List ℕ) : Type 0 where
  pub few : small.len ≤ 5
  pub all : parties_of small ≡ parties

-- The result is that of the seed's simulation.
pub record IsEnd (seed : ℕ) (end : SimEnd) : Type 0 where
  pub played : end.played ≡ (sim_end seed).played
  pub delivered : end.delivered ≡ (sim_end seed).delivered
  pub lost : end.lost ≡ (sim_end seed).lost
  pub repeated : end.repeated ≡ (sim_end seed).repeated
  pub evicted : Lists end.evicted (sim_end seed).evicted

-- none of peers 1 to 4 is among the evicted peers
abbrev pub SparesHonest : SimEnd → Type 0
SparesHonest end = (peer : ℕ) → 1 ≤ peer → peer ≤ 4 → Contains (parties_of end.evicted) peer → ⊥

-- The names that a session gives to its peers' files.
use Rattle.std.specs.Prelude.{ℕ, List, ◌++◌, codes}
use Rattle.bar_node.specs.Stops.{IsFront}
use Rattle.bar_child_processes.specs.Names.{SessionNames}
use Rattle.bar_child_processes.specs.Words.{named}
use Rattle.bar_party_commands.specs.PeerPlan.{PeerNames}
use Rattle.bar_party_commands.specs.PeerStands.{HasOwnNames}

-- the file names in the arguments of a peer that begins at this time
abbrev pub names_of_peer : SessionNames → ℕ → ℕ → PeerNames
names_of_peer names begin_ms peer =
    record {
      session = names.session;
      key = named names.keys peer;
      begin_ms = begin_ms;
      played = named names.results peer ++ codes ".played";
      recording = named names.results peer ++ codes ".recording";
      found = named names.results peer;
    }

-- neither is a prefix of the other
pub record AreUnlike (one other : List ℕ) : Type 0 where
  pub first : IsFront one other → ⊥
  pub second : IsFront other one → ⊥

-- If neither the prefix of key names nor that of result names is a prefix of the other, the names of each peer's files differ.
abbrev pub PeersHaveOwnNames : Type 0
PeersHaveOwnNames =
    (names : SessionNames) (begin_ms peer : ℕ) → AreUnlike names.keys names.results → HasOwnNames (names_of_peer names begin_ms peer)

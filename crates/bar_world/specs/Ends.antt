-- The result of a simulation.
use Rattle.std.specs.Prelude.{ℕ, List, [], map, length, unwrap_or, slice_get}
use Rattle.std.specs.List.{range_with_len}
use Rattle.bar_rules.specs.Broadcaster.Sending.{evicted}
use Rattle.bar_rules.specs.Peer.Log.{Log}
use Rattle.bar_rules.specs.World.World.{World}
use Rattle.bar_world.specs.Network.{Play}
use Rattle.bar_world.specs.Sim.{setup, sim}

-- How many bytes each of peers 1 to 5 played; how many entries of the queue were delivered, how many were lost, and how many were delivered
-- twice; and which peers the broadcaster evicted.
pub record End : Type 0 where
  pub played : List ℕ
  pub delivered : ℕ
  pub lost : ℕ
  pub repeated : ℕ
  pub evicted : List ℕ

abbrev pub bytes_played : World → ℕ → ℕ
bytes_played w party = length (unwrap_or (slice_get w.played party) [])

abbrev pub caster_log : World → Log
caster_log w = unwrap_or (slice_get w.logs 0) []

unfoldable pub sim_end : ℕ → End
sim_end seed =
    let play : Play = sim seed in
    record {
      played = map (bytes_played play.world) (range_with_len 1 5);
      delivered = play.delivered;
      lost = play.lost;
      repeated = play.repeated;
      evicted = evicted (setup seed).session (caster_log play.world);
    }

-- The secrets of a simulation, as its parties hold them.
use Rattle.std.specs.Prelude.{ℕ, List, map}
use Rattle.std.specs.List.{range_with_len}
use Rattle.bar_bytes.specs.Bytes.{u64_bytes}
use Rattle.bar_seeds.specs.declared.secrets.Secrets.{Secrets}
use Rattle.bar_world.specs.Sim.{secret_of}

abbrev pub held_by : ℕ → ℕ → Secrets
held_by seed party = record { id = u64_bytes seed; party = party; secret = secret_of seed party }

abbrev pub all_held : ℕ → List Secrets
all_held seed = map (held_by seed) (range_with_len 0 6)

use Rattle.std.proofs.Common.{◌∙◌}
use Rattle.bar_world.specs.Sim.{setup, sim}
use Rattle.bar_world.proofs.SimEnds.{end-played, end-counts, who-was-evicted}
use Rattle.bar_world.proofs.network.Network.end.Goals as goal

pub returns : goal.returns
returns c = λ seed is.
    let counts = end-counts seed in
    let who =
    who-was-evicted seed c.args.self.now c.evicted.result.now c.parties_run_alone.ensures.broadcaster is
    (λ log at. c.evicted.ensures.listed (setup seed) (sim seed).moves log is.world at)
    in
    record {
      played =
          end-played seed _ _ _ _ _ (c.played_len.ensures seed is) (c.played_len-2.ensures seed is) (c.played_len-3.ensures seed is)
          (c.played_len-4.ensures seed is) (c.played_len-5.ensures seed is);
      delivered = is.delivered ∙ counts.0;
      lost = is.lost ∙ counts.1;
      repeated = is.repeated ∙ counts.2;
      evicted = record { few = c.of.ensures.few; all = c.of.ensures.all who.1 ∙ who.0 };
    }

use Rattle.std.proofs.Common.{ap, sym, ◌∙◌, arith}
use Rattle.sha2.specs.Sha256.{digest_bytes}
use Rattle.bar_lanes.specs.Code.Lane.{digest_lane, hash_lane}
use Rattle.bar_lanes.proofs.TailLemmas.{seen_lane}
use Rattle.bar_lanes.proofs.digests.Digests.to_bytes.Goals as goal

pub returns : goal.returns
unfolding digest_lane
returns c j below =
    c.write.invariant.1 j (omega arith)
    ∙ (ap (λ words. digest_bytes (hash_lane j words) 8) (c.lanes_of-lanes.ensures ∙ c.words.ensures)
    ∙ sym (seen_lane (digest_lane c.self.inside.state) c.args.self.now j c.self.view_is below))

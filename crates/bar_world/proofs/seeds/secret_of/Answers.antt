use Rattle.std.proofs.Common.{◌++◌, ap, ◌∙◌}
use Rattle.std.specs.Prelude.{codes}
use Rattle.sha2.specs.Sha256.{sha256}
use Rattle.bar_bytes.specs.Bytes.{u16_bytes, u64_bytes}
use Rattle.bar_world.specs.Sim.{secret_of}
use Rattle.bar_world.proofs.seeds.secret_of.Goals as goal

pub returns : goal.returns
unfolding secret_of u16_bytes u64_bytes
returns c =
    c.finalize.ensures _ (c.update-3.ensures _ (c.update-2.ensures _ (c.update.ensures _ c.new-hasher.ensures)))
    ∙ ap (λ x. sha256 ((x ++ c.to_be_bytes.result) ++ c.to_be_bytes-2.result)) c.as_slice.ensures
    ∙ ap (λ x. sha256 ((codes "SIMS" ++ x) ++ c.to_be_bytes-2.result)) c.to_be_bytes.ensures
    ∙ ap (λ x. sha256 ((codes "SIMS" ++ u64_bytes c.args.seed) ++ x)) c.to_be_bytes-2.ensures

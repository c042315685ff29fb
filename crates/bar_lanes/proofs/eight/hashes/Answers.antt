use Rattle.std.proofs.Common.{List, ℕ, [], slice_index_or, ap, ◌∙◌, arith}
use Rattle.sha2.specs.Sha256.{compress}
use Rattle.bar_lanes.proofs.eight.hashes.Goals as goal

pub returns : goal.returns
returns c j below =
    let block = slice_index_or c.args.blocks.now j [] in
    let done = c.compress.ensures j block below (λ k lt. c.load.invariant.1 k (omega arith) j below) in
    rw c.lanes_of.ensures (done ∙ ap (λ (h : List ℕ). compress h block) (c.initial_hash.ensures j below))

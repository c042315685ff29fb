use Rattle.std.proofs.Common.{◌≡◌, ◌+◌, ◌-◌, ◌*◌, ◌<◌, ◌++◌, [], slice_index_or, replicate, arith, ◌∙◌, inl, inr}
use Rattle.std.proofs.lemmas.Bool.{cases_lt}
use Rattle.std.proofs.lemmas.List.{get_or-replicate}
use Rattle.std.specs.Int.{w32, to_be_bytes}
use Rattle.bar_lms.specs.Chains.{place, chain_step, chain}
use Rattle.bar_lms.specs.Tree.{value, whole_value}
use Rattle.bar_lms.proofs.tree.ends_of_eight.Goals as goal

pub chains-preserved : goal.chains-preserved
unfolding whole_value value chain
chains-preserved g c = record {
  held = λ i j less below.
      elim (cases_lt i c.chains.i) [
        | inl before ↦ c.put_ends.ensures.kept (8 * i + j) (omega (arith, before, below)) ∙ c.chains.invariant.held i j before below
        | inr not_before ↦
            let key = c.args.key.now in
            let last_one : i ≡ c.chains.i = omega (arith, less, not_before) in
            let leaf = c.args.q + j in
            let head = rw (c.leaves_from.ensures j below) at (c.heads_of-heads.ensures j below) in
            let seed : slice_index_or (replicate 8 key.seed) j [] ≡ key.seed = get_or-replicate 8 j _ [] below in
            let seeds = c.new-seeds.ensures j below ∙ seed in
            let start : slice_index_or c.chain_of_leaves-starts.result j [] ≡ chain_step (place key.ident leaf c.chains.i) 255 key.seed =
            rw seeds at (c.chain_of_leaves-starts.ensures.value key.ident leaf j below (omega arith) head)
            in
            let end = rw (start, c.last.ensures) at (c.chain_of_leaves-values.ensures.value key.ident leaf j below (omega arith) head) in
            rw last_one (c.put_ends.ensures.put j below ∙ (c.to_bytes.ensures j below ∙ end))
      ];
  cost = omega (arith, c.chain_of_leaves-starts.ensures.cost, c.chain_of_leaves-values.ensures.cost, c.last.ensures);
}

use Rattle.std.proofs.Common.{◌≡◌, ◌+◌, ◌*◌, take, [], slice_index_or, refl, arith, ◌∙◌}
use Rattle.bar_lms.proofs.ListLemmas.{later}
use Rattle.bar_lms.proofs.SignLemmas.{row_none, row_more}
use Rattle.bar_lms.proofs.signing.put_row.Goals as goal

pub hashes-init : goal.hashes-init
hashes-init c = record { written = λ f each. row_none c.args.out.now f 40; rest = refl }

pub hashes-preserved : goal.hashes-preserved
hashes-preserved c = record {
  written = λ f each.
      row_more c.hashes.out c.put_hash.new.out (take 40 c.args.out.now) (slice_index_or c.args.row.now c.hashes.i []) f 40 c.hashes.i
      (c.hashes.invariant.written f each) c.put_hash.ensures.grown (each c.hashes.i (omega arith));
  rest =
      later c.hashes.out c.put_hash.new.out (40 + 32 * c.hashes.i + 32) (40 + 32 * c.args.n) c.put_hash.ensures.rest (omega arith)
      ∙ c.hashes.invariant.rest;
}

pub returns-clause-grown : goal.returns-clause-grown
returns-clause-grown c = λ f each. let all : c.hashes.i ≡ c.args.n = omega arith in rw all at (c.hashes.invariant.written f each)

use Rattle.std.proofs.Common.{◌≡◌, ◌*◌, bit_xor, refl, arith, ap, take}
use lib.Lanes.{chunk}
use Rattle.bar_lanes.proofs.Rows.{wide_more, wide_rest, narrow_more, narrow_rest, rest_at, zip_chunks}
use Rattle.bar_lanes.proofs.bytes.xor_into.Goals as goal

pub wide-preserved : goal.wide-preserved
wide-preserved c =
    let at = 32 * c.wide.i in
    let same : chunk at 32 c.wide.dst ≡ chunk at 32 c.args.dst.now = ap (take 32) c.wide.invariant.rest in
    record {
      done = wide_more bit_xor c.wide.dst c.args.dst.now c.args.src.now _ at 32 _
          (omega arith) (omega arith) (omega arith) (omega arith) c.wide.invariant.done (rw same refl);
      rest = wide_rest c.wide.dst c.args.dst.now _ at 32 _ (omega arith) (omega arith)
          (zip_chunks bit_xor c.wide.dst c.args.src.now at 32 (omega arith) (omega arith)) c.wide.invariant.rest;
    }

pub narrow-preserved : goal.narrow-preserved
narrow-preserved c = record {
  done = narrow_more bit_xor c.narrow.dst c.args.dst.now c.args.src.now c.narrow.k _ _ _
      (omega arith) (omega arith) (omega arith) c.narrow.invariant.done
      (rest_at c.narrow.dst c.args.dst.now c.narrow.k c.narrow.invariant.rest) refl refl;
  rest = narrow_rest c.narrow.dst c.args.dst.now c.narrow.k _ c.narrow.invariant.rest;
}

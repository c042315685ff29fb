use Rattle.std.proofs.Common.{◌≡◌, ◌*◌, ◌+◌, ◌/◌, ◌∙◌, length, take, count_ones, sum_by, refl, ap, arith}
use Rattle.std.specs.Int.{w64}
use Rattle.std.proofs.lemmas.List.{take_all}
use Rattle.std.proofs.lemmas.List.Sums.{sum_by_more}
use Rattle.std.proofs.lemmas.Simd.{adds_fit, fold-sum, length-zip2, sum-zip2, sum_fits}
use Rattle.bar_lanes.proofs.Sums.{bits_of, few_bits, long_lanes, sums_more}
use lib.Lanes.{chunk}
use Rattle.bar_lanes.proofs.words.count.Goals as goal

pub wide-init : goal.wide-init
wide-init c = (refl, refl)

pub overflow_add-sums : goal.overflow_add-sums
overflow_add-sums c =
    let more = sums_more c.args.a.now c.wide.sums (4 * c.wide.i) 4 (4 * c.wide.i + 4) refl (omega arith) c.wide.invariant.0 c.wide.invariant.1 in
    adds_fit w64 c.wide.sums (bits_of (chunk (4 * c.wide.i) 4 c.args.a.now))
    (omega (arith, more, few_bits c.args.a.now (4 * c.wide.i + 4) c.type_inv.a c.requires))

pub wide-preserved : goal.wide-preserved
wide-preserved c =
    let at = 4 * c.wide.i in
    let a = c.args.a.now in
    let sums = c.wide.sums in
    let lanes = bits_of (chunk at 4 a) in
    let even = long_lanes a sums at 4 (omega arith) c.wide.invariant.0 in (
      length-zip2 (λ x y. x + y) sums lanes even ∙ c.wide.invariant.0,
      sum-zip2 sums lanes even ∙ sums_more a sums at 4 (4 * (c.wide.i + 1)) (omega arith) (omega arith) c.wide.invariant.0 c.wide.invariant.1,
    )

pub overflow_cast-sum : goal.overflow_cast-sum
overflow_cast-sum c = record { fits = omega (arith, fold-sum 0 c.wide.sums, c.wide.invariant.1, few_bits c.args.a.now (4 * c.wide.i) c.type_inv.a c.requires) }

pub narrow-init : goal.narrow-init
narrow-init c =
    let whole : c.wide.i ≡ length c.args.a.now / 4 = omega arith in
    let done = c.wide.invariant.1 ∙ ap (λ i. sum_by count_ones (take (4 * i) c.args.a.now)) whole in
    omega (arith, fold-sum 0 c.wide.sums, done)

pub overflow_add-sum : goal.overflow_add-sum
overflow_add-sum c = sum_fits w64 0 c.wide.sums (omega (arith, c.wide.invariant.1, few_bits c.args.a.now (4 * c.wide.i) c.type_inv.a c.requires))

pub overflow_add-sum-in-narrow : goal.overflow_add-sum-in-narrow
overflow_add-sum-in-narrow c = record {
  fits = omega (arith, c.narrow.invariant, sum_by_more count_ones c.args.a.now c.narrow.k 0 (omega arith), few_bits c.args.a.now (c.narrow.k + 1) c.type_inv.a c.requires);
}

pub narrow-preserved : goal.narrow-preserved
narrow-preserved c = omega (arith, c.narrow.invariant, sum_by_more count_ones c.args.a.now c.narrow.k 0 (omega arith))

pub returns : goal.returns
returns c = c.narrow.invariant ∙ ap (sum_by count_ones) (take_all c.narrow.k c.args.a.now (omega arith))

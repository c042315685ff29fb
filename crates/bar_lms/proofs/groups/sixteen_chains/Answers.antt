use Rattle.std.proofs.Common.{◌≡◌, ◌==◌, ◌+◌, ◌≤◌, ◌++◌, List, ℕ, arith, ap, ◌∙◌, drop, length, length-append, nat_lt, replicate, slice_index, slice_index_or, []}
use Rattle.std.proofs.lemmas.List.{get_or-replicate}
use Rattle.std.specs.Int.{w32, to_be_bytes}
use Rattle.sha2.specs.Sha256.{sha256}
use Rattle.bar_lms.specs.Chains.{most_of}
use Rattle.bar_lms.specs.Code.Lanes.{Leg, leg_of, lane_steps}
use Rattle.bar_lms.proofs.ChainLemmas.{place_length}
use Rattle.bar_lms.proofs.GroupLemmas.{most_above, most_same}
use Rattle.bar_lms.proofs.LaneLemmas.{held_none, begun_by, end_kept, held_more, second_whole}
use Rattle.bar_lms.proofs.TailLemmas.{behind_goes, behind_if, behind_value, starts_so}
use Rattle.bar_lms.proofs.groups.sixteen_chains.Goals as goal

pub steps-init : goal.steps-init
steps-init g c = record {
  held = λ ident q j heads below.
      let a : Leg = leg_of ident q c.args.first.now j in
      let b : Leg = leg_of ident q c.args.second.now j in
      held_none a b 0 _ (c.tails_of-tails.ensures.bytes j below) (omega arith)
      (starts_so ident q (slice_index c.args.first.now.numbers j) a.from a.value _ _ (c.tails_of-tails.ensures.held j below)
      (c.new.ensures j below));
  ended = λ ident q j heads below less. absurd (omega (arith, less));
  cost = omega arith;
}

pub steps-preserved : goal.steps-preserved
steps-preserved g c =
    record {
      held = λ ident q j heads below.
          let head = ident ++ to_be_bytes w32 q in
          let long : length head ≡ 20 = length-append ident (to_be_bytes w32 q) ∙ omega (arith, heads.0) in
          let a : Leg = leg_of ident q c.args.first.now j in
          let b : Leg = leg_of ident q c.args.second.now j in
          let none : slice_index (replicate 8 0) j ≡ 0 = get_or-replicate 8 j 0 0 below in
          let firsts : slice_index c.lane_steps-firsts.result j ≡ a.count = omega (arith, c.lane_steps-firsts.ensures j below, none) in
          let tail = slice_index_or c.steps.tails j [] in
          let second = slice_index_or c.tails_of-seconds.result j [] in
          let taken = slice_index_or c.take-in-steps.new.self j [] in
          let next = slice_index_or c.go_on.new.self j [] in
          let hash = slice_index_or c.hash-hashes.result j [] in
          let begins =
          starts_so ident q (slice_index c.args.second.now.numbers j) b.from b.value second _ (c.tails_of-seconds.ensures.held j below)
          (c.new-2.ensures j below)
          in
          let takes = ap (λ t. head ++ t) (rw firsts at (c.take-in-steps.ensures j below)) ∙ behind_if (a.count == c.steps.n) head second tail in
          let begun =
          begun_by a b c.steps.n (head ++ tail) (head ++ second) (head ++ taken) (c.tails_of-seconds.ensures.bytes j below)
          (c.steps.invariant.held ident q j heads below) begins takes
          in
          let hashed : hash ≡ sha256 (head ++ taken) = rw (heads.1 j below) at (c.hash-hashes.ensures j below) in
          let goes =
          ap (λ t. head ++ t) (c.go_on.ensures j below)
          ∙ behind_goes (nat_lt c.steps.n (slice_index c.lane_steps-counts.result j)) head taken hash long
          in
          held_more a b c.steps.n (head ++ taken) hash (head ++ next) (place_length ident q (slice_index c.args.first.now.numbers j) heads.0)
          (place_length ident q (slice_index c.args.second.now.numbers j) heads.0) (c.requires.first j below)
          (c.requires.second j below) begun hashed (rw (c.lane_steps-counts.ensures j below) at goes);
      ended = λ ident q j heads below less.
          let head = ident ++ to_be_bytes w32 q in
          let long : length head ≡ 20 = length-append ident (to_be_bytes w32 q) ∙ omega (arith, heads.0) in
          let a : Leg = leg_of ident q c.args.first.now j in
          let b : Leg = leg_of ident q c.args.second.now j in
          let none : slice_index (replicate 8 0) j ≡ 0 = get_or-replicate 8 j 0 0 below in
          let firsts : slice_index c.lane_steps-firsts.result j ≡ a.count = omega (arith, c.lane_steps-firsts.ensures j below, none) in
          let tail = slice_index_or c.steps.tails j [] in
          let value = c.values.ensures j below ∙ behind_value head tail long in
          end_kept a b c.steps.n (head ++ tail) (slice_index_or c.steps.kept j []) (slice_index_or c.take.new.self j [])
          (place_length ident q (slice_index c.args.first.now.numbers j) heads.0) (c.steps.invariant.held ident q j heads below)
          (c.steps.invariant.ended ident q j heads below) (rw (firsts, value) at (c.take.ensures j below)) (omega (arith, less));
      cost = omega arith;
    }

pub returns-clause-first : goal.returns-clause-first
returns-clause-first g c = λ ident q j heads below.
    let head = ident ++ to_be_bytes w32 q in
    let long : length head ≡ 20 = length-append ident (to_be_bytes w32 q) ∙ omega (arith, heads.0) in
    let a : Leg = leg_of ident q c.args.first.now j in
    let b : Leg = leg_of ident q c.args.second.now j in
    let none : slice_index (replicate 8 0) j ≡ 0 = get_or-replicate 8 j 0 0 below in
    let firsts : slice_index c.lane_steps-firsts.result j ≡ a.count = omega (arith, c.lane_steps-firsts.ensures j below, none) in
    let place : 0 + j ≡ j = omega arith in
    let above = rw place at (most_above (slice_index c.lane_steps-counts.result) 0 8 j below) in
    let whole : c.most-most.result ≡ c.steps.n = omega arith in
    let over : a.count ≤ c.steps.n = omega (arith, above, c.most-most.ensures, c.lane_steps-counts.ensures j below, whole) in
    let tail = slice_index_or c.steps.tails j [] in
    let value = c.values-2.ensures j below ∙ behind_value head tail long in
    c.to_bytes.ensures j below
    ∙ end_kept a b c.steps.n (head ++ tail) (slice_index_or c.steps.kept j []) (slice_index_or c.take-2.new.self j [])
    (place_length ident q (slice_index c.args.first.now.numbers j) heads.0) (c.steps.invariant.held ident q j heads below)
    (c.steps.invariant.ended ident q j heads below) (rw (firsts, value, whole) at (c.take-2.ensures j below)) over

pub returns-clause-second : goal.returns-clause-second
returns-clause-second g c = λ ident q j heads below.
    let head = ident ++ to_be_bytes w32 q in
    let long : length head ≡ 20 = length-append ident (to_be_bytes w32 q) ∙ omega (arith, heads.0) in
    let a : Leg = leg_of ident q c.args.first.now j in
    let b : Leg = leg_of ident q c.args.second.now j in
    let none : slice_index (replicate 8 0) j ≡ 0 = get_or-replicate 8 j 0 0 below in
    let firsts : slice_index c.lane_steps-firsts.result j ≡ a.count = omega (arith, c.lane_steps-firsts.ensures j below, none) in
    let place : 0 + j ≡ j = omega arith in
    let above = rw place at (most_above (slice_index c.lane_steps-counts.result) 0 8 j below) in
    let whole : c.most-most.result ≡ c.steps.n = omega arith in
    let over : a.count + b.count ≤ c.steps.n = omega (arith, above, c.most-most.ensures, c.lane_steps-counts.ensures j below, whole) in
    let tail = slice_index_or c.steps.tails j [] in
    let second = slice_index_or c.tails_of-seconds.result j [] in
    let taken = slice_index_or c.take-3.new.self j [] in
    let begins =
    starts_so ident q (slice_index c.args.second.now.numbers j) b.from b.value second _ (c.tails_of-seconds.ensures.held j below)
    (c.new-2.ensures j below)
    in
    let takes = ap (λ t. head ++ t) (rw (firsts, whole) at (c.take-3.ensures j below)) ∙ behind_if (a.count == c.steps.n) head second tail in
    let begun =
    begun_by a b c.steps.n (head ++ tail) (head ++ second) (head ++ taken) (c.tails_of-seconds.ensures.bytes j below)
    (c.steps.invariant.held ident q j heads below) begins takes
    in
    c.to_bytes-2.ensures j below
    ∙ (c.values-3.ensures j below
    ∙ (behind_value head taken long
    ∙ second_whole a b c.steps.n (head ++ taken) (place_length ident q (slice_index c.args.second.now.numbers j) heads.0) over begun))

pub returns-clause-cost : goal.returns-clause-cost
returns-clause-cost g c =
    let counts = slice_index c.lane_steps-counts.result in
    let both = lane_steps c.args.first.now c.args.second.now in
    let longest : most_of counts 0 8 ≡ most_of both 0 8 =
    most_same counts both 0 0 8 (λ j below. let at : 0 + j ≡ j = omega arith in rw at (c.lane_steps-counts.ensures j below))
    in
    let whole : c.most-most.result ≡ c.steps.n = omega arith in
    omega (arith, longest, c.most-most.ensures, c.steps.invariant.cost, whole)

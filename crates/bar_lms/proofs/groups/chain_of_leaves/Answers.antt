use Rattle.std.proofs.Common.{◌≡◌, ◌+◌, ◌<◌, ◌++◌, [], drop, length, min, nat_lt, replicate, slice_index, slice_index_or, arith, refl, ap, ◌∙◌, length-append}
use Rattle.std.proofs.lemmas.List.{get_or-replicate}
use Rattle.std.specs.Int.{w32, to_be_bytes}
use Rattle.sha2.specs.Sha256.{sha256}
use Rattle.bar_lms.specs.Chains.{place}
use Rattle.bar_lms.proofs.ChainLemmas.{buffer_more, buffer_none, buffer_value, place_length}
use Rattle.bar_lms.proofs.TailLemmas.{behind_goes, behind_value, starts_so}
use Rattle.bar_lms.proofs.groups.chain_of_leaves.Goals as goal

pub steps-init : goal.steps-init
steps-init g c = record {
  held = λ ident q j below long head.
      let start = slice_index_or c.args.starts.now j [] in
      let number : slice_index (replicate 8 c.args.i) j ≡ c.args.i = get_or-replicate 8 j c.args.i 0 below in
      let from : slice_index (replicate 8 c.args.from) j ≡ c.args.from = get_or-replicate 8 j c.args.from 0 below in
      let tail = rw (number, from) at (c.tails_of-tails.ensures.held j below) in
      let small : c.args.from < 256 = c.ranges.from.fits in
      starts_so ident q c.args.i c.args.from start (slice_index_or c.tails_of-tails.result j []) start tail refl
      ∙ buffer_none (place ident q c.args.i) c.args.from (min 0 c.args.count) start small (omega arith);
  cost = omega arith;
}

pub steps-preserved : goal.steps-preserved
steps-preserved g c = record {
  held = λ ident q j below long head.
      let front = ident ++ to_be_bytes w32 q in
      let tail = slice_index_or c.steps.tails j [] in
      let hash = slice_index_or c.hash-hashes.result j [] in
      let front_long : length front ≡ 20 = length-append ident (to_be_bytes w32 q) ∙ omega (arith, long) in
      let hashed : hash ≡ sha256 (front ++ tail) = rw head at (c.hash-hashes.ensures j below) in
      let count : slice_index (replicate 8 c.args.count) j ≡ c.args.count = get_or-replicate 8 j c.args.count 0 below in
      let goes = ap (λ t. front ++ t) (c.go_on.ensures j below) ∙ behind_goes (nat_lt c.steps.n (slice_index (replicate 8 c.args.count) j)) front tail hash front_long in
      buffer_more (place ident q c.args.i) c.args.from c.steps.n c.args.count (slice_index_or c.args.starts.now j []) (front ++ tail) hash
      (front ++ slice_index_or c.go_on.new.self j []) (place_length ident q c.args.i long) c.requires
      (c.steps.invariant.held ident q j below long head) hashed (rw count at goes);
  cost = omega arith;
}

pub returns-clause-value : goal.returns-clause-value
returns-clause-value g c = λ ident q j below long head.
    let front = ident ++ to_be_bytes w32 q in
    let front_long : length front ≡ 20 = length-append ident (to_be_bytes w32 q) ∙ omega (arith, long) in
    let whole : min c.steps.n c.args.count ≡ c.args.count = omega arith in
    c.values.ensures j below
    ∙ (behind_value front (slice_index_or c.steps.tails j []) front_long
    ∙ (ap (drop 23) (rw whole at (c.steps.invariant.held ident q j below long head))
    ∙ buffer_value (place ident q c.args.i) c.args.from c.args.count (slice_index_or c.args.starts.now j []) (place_length ident q c.args.i long)))

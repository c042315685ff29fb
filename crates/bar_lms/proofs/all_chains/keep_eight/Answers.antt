use Rattle.std.proofs.Common.{◌<◌, [], length, slice_index, slice_index_or, arith, ◌∙◌, inl, inr}
use Rattle.std.proofs.lemmas.Bool.{cases_eq}
use Rattle.std.proofs.lemmas.List.{length-set}
use Rattle.bar_lms.proofs.OrderLemmas.{set_right, set_there}
use Rattle.bar_lms.proofs.all_chains.keep_eight.Goals as goal

pub hashes-init : goal.hashes-init
hashes-init c = record { long = omega arith; kept = λ f each i held. held; written = λ f each j below. absurd (omega (arith, below)) }

pub hashes-preserved : goal.hashes-preserved
hashes-preserved c =
    let row = c.hashes.row in
    let at = slice_index c.args.numbers.now c.hashes.j in
    let hash = slice_index_or c.args.hashes.now c.hashes.j [] in
    let here : c.hashes.j < 8 = omega arith in
    let room : at < length row = omega (arith, c.requires c.hashes.j here, c.hashes.invariant.long) in
    record {
      long = length-set row at hash ∙ c.hashes.invariant.long;
      kept = λ f each i held. set_right row at hash f i room (each c.hashes.j here) (c.hashes.invariant.kept f each i held);
      written = λ f each j below.
          elim (cases_eq j c.hashes.j) [
            | inl same ↦ rw same (set_there row at hash f room (each c.hashes.j here))
            | inr other ↦
                set_right row at hash f (slice_index c.args.numbers.now j) room (each c.hashes.j here)
                (c.hashes.invariant.written f each j (omega (arith, below, other)))
          ];
    }

pub returns : goal.returns
returns c = λ f each. (c.hashes.invariant.kept f each, λ j below. c.hashes.invariant.written f each j (omega arith))

use Rattle.std.proofs.Common.{◌++◌, ◌*◌, ◌/◌, ◌%◌, ◌^◌, ap, bit_or, length, slice_index, sym, ◌∙◌}
use Rattle.sha2.specs.Sha256.{padded_message}
use Rattle.bar_lanes.specs.Code.Lane.{tail_lane}
use Rattle.bar_lanes.proofs.LaneLemmas.{splat_lane}
use Rattle.bar_lanes.proofs.TailLemmas.{IsWords, scheduled_tail, seen_lane, tail_length, word_10, word_11, word_12, word_13, word_14, word_15, word_5, word_6, word_7, word_8, word_9}
use Rattle.bar_lanes.proofs.head.put_tails.Goals as goal

pub returns-clause-long : goal.returns-clause-long
returns-clause-long c j below =
    let place = c.tails.inside.place in
    let values = c.tails.inside.values in
    ap length (seen_lane (tail_lane place values) c.args.tails.now j c.tails.view_is below) ∙ tail_length place values j

pub returns-clause-words : goal.returns-clause-words
returns-clause-words c j head below long =
    let place = c.tails.inside.place in
    let values = c.tails.inside.values in
    let words : IsWords values j = record {
      a = (c.between.ensures.words j below).0;
      b = (c.between.ensures.words j below).1;
      c = (c.between-2.ensures.words j below).1;
      d = (c.between-3.ensures.words j below).1;
      e = (c.between-4.ensures.words j below).1;
      f = (c.between-5.ensures.words j below).1;
      g = (c.between-6.ensures.words j below).1;
      h = (c.between-7.ensures.words j below).1;
    } in
    let five = word_5 head place values j long words (c.place_word.ensures.words j below).0 (c.tails.invariant j below) in
    rw (seen_lane (tail_lane place values) c.args.tails.now j c.tails.view_is below)
    (scheduled_tail (padded_message (head ++ tail_lane place values j)) j c.args.words.now c.place_word.result c.between.result
    c.between-2.result c.between-3.result c.between-4.result c.between-5.result c.between-6.result c.between-7.result c.between-8.result _ _
    c.told-words
    (c.place_word.ensures.is j below ∙ sym five)
    (c.between.ensures.is j below ∙ sym (word_6 head place values j long words))
    (c.between-2.ensures.is j below ∙ sym (word_7 head place values j long words))
    (c.between-3.ensures.is j below ∙ sym (word_8 head place values j long words))
    (c.between-4.ensures.is j below ∙ sym (word_9 head place values j long words))
    (c.between-5.ensures.is j below ∙ sym (word_10 head place values j long words))
    (c.between-6.ensures.is j below ∙ sym (word_11 head place values j long words))
    (c.between-7.ensures.is j below ∙ sym (word_12 head place values j long words))
    (c.between-8.ensures.is j below ∙ ap (λ n. bit_or (slice_index values.h j * 2 ^ 8 % 2 ^ 32) (n / 2 ^ 24)) (splat_lane 0x80000000 j below)
    ∙ sym (word_13 head place values j long words))
    (splat_lane 0 j below ∙ sym (word_14 head place values j long words))
    (splat_lane 440 j below ∙ sym (word_15 head place values j long words)))

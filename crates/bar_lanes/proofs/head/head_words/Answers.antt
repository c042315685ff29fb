use Rattle.std.proofs.Common.{[], slice_index_or}
use Rattle.bar_lanes.proofs.HeadLemmas.{head_of_bytes}
use Rattle.bar_lanes.proofs.head.head_words.Goals as goal

pub returns-clause-bytes : goal.returns-clause-bytes
returns-clause-bytes c j below =
    head_of_bytes _ j (slice_index_or c.args.bytes.now j []) (λ i. c.words_at.ensures.bytes j i below) (c.words_at.ensures.long j below)
    (record {
      first = c.words_at.ensures.is j below;
      second = c.words_at-2.ensures.is j below;
      third = c.words_at-3.ensures.is j below;
      fourth = c.words_at-4.ensures.is j below;
      fifth = c.words_at-5.ensures.is j below;
    })

use Rattle.std.proofs.Common.{◌+◌, arith, ◌∙◌}
use Rattle.bar_lanes.proofs.ScheduleLemmas.{scheduled_more, scheduled_word, scheduled_fewer}
use Rattle.bar_lanes.proofs.TailLemmas.{long_set}
use Rattle.bar_lanes.proofs.rounds.four_words.Goals as goal

pub returns : goal.returns
returns c j block below had =
    let ws = c.args.words.now in
    let t = c.args.t in
    let l1 = long_set ws t c.next_word.result c.told-words in
    let l2 = long_set _ (t + 1) c.next_word-2.result l1 in
    let l3 = long_set _ (t + 2) c.next_word-3.result l2 in
    let s1 = scheduled_more block j t ws c.next_word.result (omega (arith, c.told-words))
    (c.next_word.ensures j below ∙ scheduled_word block j t ws (omega arith) (omega arith) c.told-words had) had in
    let s2 = scheduled_fewer block j _ _ (t + 2) (omega arith) (scheduled_more block j (t + 1) _ c.next_word-2.result (omega (arith, l1))
    (c.next_word-2.ensures j below ∙ scheduled_word block j (t + 1) _ (omega arith) (omega arith) l1 s1) s1) in
    let s3 = scheduled_fewer block j _ _ (t + 3) (omega arith) (scheduled_more block j (t + 2) _ c.next_word-3.result (omega (arith, l2))
    (c.next_word-3.ensures j below ∙ scheduled_word block j (t + 2) _ (omega arith) (omega arith) l2 s2) s2) in
    scheduled_fewer block j _ _ (t + 4) (omega arith) (scheduled_more block j (t + 3) _ c.next_word-4.result (omega (arith, l3))
    (c.next_word-4.ensures j below ∙ scheduled_word block j (t + 3) _ (omega arith) (omega arith) l3 s3) s3)

use Rattle.std.proofs.Common.{arith}
use Rattle.bar_lanes.proofs.ScheduleLemmas.{scheduled_more}
use Rattle.bar_lanes.proofs.TailLemmas.{long_set}
use Rattle.bar_lanes.proofs.head.put_late.Goals as goal

pub returns : goal.returns
returns c j block head working below had begun =
    let ws = c.args.words.now in
    let l1 = long_set ws 16 c.next_word.result c.told-words in
    let l2 = long_set _ 17 c.next_word-2.result l1 in
    let l3 = long_set _ 18 c.next_word-3.result l2 in
    let s1 = scheduled_more block j 16 ws c.next_word.result (omega (arith, c.told-words)) (c.next_word.ensures j block below had begun.first) had in
    let s2 = scheduled_more block j 17 _ c.next_word-2.result (omega (arith, l1)) (c.next_word-2.ensures j block below s1 begun.second) s1 in
    let s3 = scheduled_more block j 18 _ c.next_word-3.result (omega (arith, l2)) (c.next_word-3.ensures j block below s2 begun.third) s2 in
    scheduled_more block j 19 _ c.next_word-4.result (omega (arith, l3)) (c.next_word-4.ensures j block below s3 begun.fourth) s3

use Rattle.std.proofs.Common.{◌≡◌, ◌++◌, [], ap, ◌∙◌, take, length, length-append, slice_index_or, arith}
use Rattle.sha2.specs.Sha256.{compress, initial_hash_256, padded_message}
use Rattle.bar_lanes.specs.Code.Lane.{digest_lane, hash_lane, head_lane, state_lane}
use Rattle.bar_lanes.proofs.HeadLemmas.{head_length}
use Rattle.bar_lanes.proofs.LaneLemmas.{sha256_block}
use Rattle.bar_lanes.proofs.TailLemmas.{begun_alike, of_lanes_at, seen_lane}
use Rattle.bar_lanes.proofs.head.Heads.hash.Goals as goal

pub returns : goal.returns
unfolding digest_lane
returns c j below =
    let own = c.self.inside in
    let head = head_lane own.words j in
    let tail = slice_index_or c.args.tails.now j [] in
    let block = padded_message (head ++ tail) in
    let long = head_length own.words j in
    let same : take 20 block ≡ head = begun_alike head tail long in
    let begun = c.self.invariant j block below same in
    let five = c.put_head.ensures j block below begun.begins in
    let sixteen = c.put_tails.ensures.words j head below long five in
    let twenty = c.put_late.ensures j block own.words own.working below sixteen begun in
    let all = c.fill_words.ensures j block below (c.put_near.ensures j block below twenty) in
    let state = c.three_steps-working.ensures j block below all (ap (hash_lane j) c.words.ensures ∙ begun.state) in
    let start = c.initial_hash.ensures j below in
    let hash : hash_lane j c.last_steps.result ≡ compress initial_hash_256 block = rw start at (c.last_steps.ensures j block below all (rw start state)) in
    let words : state_lane j c.of-state.result ≡ compress initial_hash_256 block = ap (hash_lane j) c.of-state.ensures ∙ hash in
    let whole : length (head ++ tail) ≡ 55 = length-append head tail ∙ omega (arith, long, c.put_tails.ensures.long j below) in
    rw (seen_lane (head_lane own.words) c.args.self.now j c.self.view_is below)
    (of_lanes_at (digest_lane c.of-state.result) j below ∙ sha256_block (head ++ tail) (state_lane j c.of-state.result) whole words)

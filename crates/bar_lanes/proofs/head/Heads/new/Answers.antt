use Rattle.std.proofs.Common.{ap, ◌∙◌}
use Rattle.bar_lanes.specs.Code.Lane.{hash_lane}
use Rattle.bar_lanes.proofs.HeadLemmas.{begins_alike}
use Rattle.bar_lanes.proofs.head.Heads.new.Goals as goal

pub invariant_of-result : goal.invariant_of-result
invariant_of-result c = λ j block below same.
    let head = c.head_words-head.result in
    let begins = begins_alike block _ j head (same ∙ c.head_words-head.ensures.bytes j below) (c.head_words-head.ensures.words j below) in
    let five = c.put_head.ensures j block below begins in
    record {
      begins = begins;
      first = c.late_words.ensures.first j block below five;
      second = c.late_words.ensures.second j block below five;
      third = c.late_words.ensures.third j block below five;
      fourth = c.late_words.ensures.fourth j block below five;
      state = ap (hash_lane j) c.of.ensures ∙ c.first_steps.ensures j block below five;
    }

use Rattle.bar_lanes.proofs.head.put_near.Goals as goal

pub returns : goal.returns
returns c j block below had =
    c.four_words-3.ensures j block below (c.four_words-2.ensures j block below (c.four_words.ensures j block below had))

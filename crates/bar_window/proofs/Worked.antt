-- Worked sets of the window of round 6, if updates live for four rounds.
use Rattle.std.proofs.Common.{◌≡◌, List, [], ◌∷◌, refl}
use Rattle.bar_window.specs.declared.update.UpdateId.{UpdateId}
use Rattle.bar_window.specs.Updates.{minus, both}
use Rattle.bar_window.specs.WindowBytes.{number_of_bits, window_words}

abbrev ha : List UpdateId
ha = record { round = 3; index = 0 } ∷ record { round = 3; index = 2 } ∷ record { round = 5; index = 1 } ∷ record { round = 5; index = 3 } ∷ []

abbrev hb : List UpdateId
hb = record { round = 3; index = 2 } ∷ record { round = 4; index = 7 } ∷ []

words_of_ha : window_words 1 4 6 ha ≡ 5 ∷ 0 ∷ 10 ∷ 0 ∷ []
unfolding number_of_bits
words_of_ha = refl

words_of_hb : window_words 1 4 6 hb ≡ 4 ∷ 128 ∷ 0 ∷ 0 ∷ []
unfolding number_of_bits
words_of_hb = refl

hb_without_ha : minus hb ha ≡ record { round = 4; index = 7 } ∷ []
hb_without_ha = refl

ha_and_hb : both ha hb ≡ record { round = 3; index = 2 } ∷ []
ha_and_hb = refl

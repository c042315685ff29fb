-- The bytes of a set of updates of a window: the words of as many rounds as an update lives, with the lowest index in the lowest bit.
use Rattle.std.specs.Prelude.{ℕ, zero, suc, ◌+◌, ◌*◌, ◌^◌, Bool, if◌then◌else◌, List, map, flat_map}
use Rattle.std.specs.List.{range_with_len}
use Rattle.bar_bytes.specs.Bytes.{u64_bytes}
use Rattle.bar_window.specs.declared.update.UpdateId.{UpdateId}
use Rattle.bar_window.specs.Places.{update_at}
use Rattle.bar_window.specs.Updates.{first_round, has_update}

-- the number of n bits whose bit i is 1 if and only if the test holds for i
unfoldable pub number_of_bits : (ℕ → Bool) → ℕ → ℕ
number_of_bits test zero = 0
number_of_bits test (suc n) = (if test n then 2 ^ n else 0) + number_of_bits test n

-- word j has the places from 64 * j on
abbrev pub word_of : ℕ → ℕ → List UpdateId → ℕ → ℕ
word_of base places us j = number_of_bits (λ i. has_update us (update_at base places (64 * j + i))) 64

-- the words of a set, if the window has `words` words for each round and updates live for `life` rounds
abbrev pub window_words : ℕ → ℕ → ℕ → List UpdateId → List ℕ
window_words words life round us = map (word_of (first_round life round) (64 * words) us) (range_with_len 0 (words * life))

-- the bytes of words, one after another
unfoldable pub words_bytes : List ℕ → List ℕ
words_bytes ws = flat_map u64_bytes ws

unfoldable pub window_bytes : ℕ → ℕ → ℕ → List UpdateId → List ℕ
window_bytes words life round us = words_bytes (window_words words life round us)

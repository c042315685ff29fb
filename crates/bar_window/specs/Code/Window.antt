-- The set of updates that a window of the code represents.
use Rattle.std.specs.Prelude.{◌≡◌, ℕ, ◌+◌, ◌*◌, ◌<◌, ◌≤◌, List, map}
use Rattle.bar_window.specs.declared.update.UpdateId.{UpdateId}
use Rattle.bar_window.specs.declared.window.Window.{Window}
use Rattle.bar_window.specs.Places.{set_places, update_at, words_in}
use Rattle.bar_window.specs.Updates.{first_round}

-- how many words and how many places a window has for each round
abbrev pub round_words : Window → ℕ
round_words w = words_in w.wide

abbrev pub round_places : Window → ℕ
round_places w = 64 * round_words w

-- the updates of a window, in order
unfoldable pub members : Window → List UpdateId
members w = map (update_at w.base (round_places w)) (set_places w.words (round_places w * w.used))

-- The window has room for the update: the update's round is one of the window's rounds, and its index has a place there.
pub record HasRoom (w : Window) (id : UpdateId) : Type 0 where
  pub after : w.base ≤ id.round
  pub before : id.round < w.base + w.used
  pub index : id.index < round_places w

-- Two windows have the same rounds and the same width.
pub record IsAligned (w v : Window) : Type 0 where
  pub base : w.base ≡ v.base
  pub used : w.used ≡ v.used
  pub wide : w.wide ≡ v.wide

-- It is the window of a round, if updates live for `life` rounds.
pub record IsWindowOf (life round : ℕ) (w : Window) : Type 0 where
  pub base : w.base ≡ first_round life round
  pub used : w.base + w.used ≡ round + 1

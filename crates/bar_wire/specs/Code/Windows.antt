-- Windows as they are read.
use Rattle.std.specs.Prelude.{◌≡◌, ℕ, ◌+◌, ◌-◌, ◌*◌, ◌≤◌, List, ◌++◌, length, slice_index, Option, Some, None}
use Rattle.std.specs.Borrow.{Bor}
use Rattle.bar_window.specs.declared.update.UpdateId.{UpdateId}
use Rattle.bar_window.specs.declared.window.Window.{Window}
use Rattle.bar_window.specs.Updates.{first_round}
use Rattle.bar_window.specs.Code.Window.{members}
use Rattle.bar_wire.specs.declared.shape.Shape.{Shape}
use Rattle.bar_wire.specs.Grammar.{words_of, set_bytes, IsWindowSet, IsRound}
use Rattle.bar_wire.specs.Code.Views.{IsWindowIn}
use Rattle.bar_wire.specs.Places.{window_len}

-- the words past the round are zero
abbrev pub FitsWindow : Shape → ℕ → List ℕ → Type 0
FitsWindow s round words = (j : ℕ) → words_of s * (round + 1 - first_round s.life round) ≤ j → slice_index words j ≡ 0

-- the words are those of a window of the round
pub record IsWindowFound (s : Shape) (round : ℕ) (words : List ℕ) (w : Window) : Type 0 where
  pub in_session : IsRound s round
  pub words_are : w.words ≡ words
  pub window : IsWindowIn s round w

-- the bytes begin with the window, and `left` is the rest
pub record IsWindowAt (s : Shape) (round : ℕ) (bytes : List ℕ) (w : Window) (left : List ℕ) : Type 0 where
  pub window : IsWindowIn s round w
  pub set : IsWindowSet s round (members w)
  pub is : bytes ≡ set_bytes s round (members w) ++ left
  pub len : length left + window_len s ≡ length bytes

-- if the round is one of the session, the bytes don't begin with a set of it
abbrev pub NoWindowAt : Shape → ℕ → List ℕ → Type 0
NoWindowAt s round bytes =
    IsRound s round → (us : List UpdateId) (after : List ℕ) → IsWindowSet s round us → bytes ≡ set_bytes s round us ++ after → ⊥

abbrev pub ReadsWindow : Shape → ℕ → List ℕ → Option (Window × Bor (List ℕ)) → Type 0
ReadsWindow s round bytes (Some found) = IsWindowAt s round bytes found.0 found.1.now
ReadsWindow s round bytes None = NoWindowAt s round bytes

-- the bytes begin with two windows, and `left` is the rest
pub record AreWindowsAt (s : Shape) (round : ℕ) (bytes : List ℕ) (w v : Window) (left : List ℕ) : Type 0 where
  pub first : IsWindowIn s round w
  pub second : IsWindowIn s round v
  pub first_set : IsWindowSet s round (members w)
  pub second_set : IsWindowSet s round (members v)
  pub is : bytes ≡ set_bytes s round (members w) ++ (set_bytes s round (members v) ++ left)
  pub len : length left + 2 * window_len s ≡ length bytes

abbrev pub NoWindowsAt : Shape → ℕ → List ℕ → Type 0
NoWindowsAt s round bytes =
    IsRound s round → (us vs : List UpdateId) (after : List ℕ) → IsWindowSet s round us → IsWindowSet s round vs
    → bytes ≡ set_bytes s round us ++ (set_bytes s round vs ++ after) → ⊥

abbrev pub ReadsWindows : Shape → ℕ → List ℕ → Option (Window × Window × Bor (List ℕ)) → Type 0
ReadsWindows s round bytes (Some found) = AreWindowsAt s round bytes found.0 found.1 found.2.now
ReadsWindows s round bytes None = NoWindowsAt s round bytes

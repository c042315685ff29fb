-- The time of a session: rounds, and the slots of each.
use Rattle.std.specs.Prelude.{ℕ, ◌+◌, ◌-◌, ◌*◌, ◌/◌, ◌%◌}
use Rattle.bar_window.specs.Limits.{most_life}
use Rattle.bar_session.specs.Limits.{most_long_rounds}
use Rattle.bar_session.specs.SessionData.{SessionData}

-- how many ticks a round has, each a slot of its own, from 0 on
abbrev pub slots_a_round : ℕ
slots_a_round = 8

-- Ticks are counted from 1. Before the first tick the round is 0. Divisions round down.
abbrev pub round_after : ℕ → ℕ
round_after ticks = (ticks + (slots_a_round - 1)) / slots_a_round

abbrev pub slot_after : ℕ → ℕ
slot_after ticks = (ticks + (slots_a_round - 1)) % slots_a_round

-- the most ticks of any session
abbrev pub most_ticks : ℕ
most_ticks = slots_a_round * (most_long_rounds + most_life + 1)

-- The last tick that a party takes, which is the last one of a round. The last updates are played in the round before, at its first slot.
abbrev pub last_tick : SessionData → ℕ
last_tick s = slots_a_round * (s.shape.rounds + s.shape.life + 1)

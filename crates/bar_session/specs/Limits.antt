-- The limits of a session's numbers.
use Rattle.std.specs.Prelude.{ℕ, ◌*◌, ◌≤◌, Bool, Option, IfSome, nat_le, if◌then◌else◌}
use Rattle.bar_window.specs.Places.{words_in}

-- the most peers of a session
abbrev pub most_peers : ℕ
most_peers = 200

-- the most rounds of a session whose signatures have one level
abbrev pub most_rounds : ℕ
most_rounds = 1820

-- the most rounds of any session, allowed if its signatures have two levels
abbrev pub most_long_rounds : ℕ
most_long_rounds = 7200

-- the range of party 0's port; party p uses that port plus p
abbrev pub lowest_port : ℕ
lowest_port = 1024

abbrev pub highest_port : ℕ
highest_port = 65335

-- the most milliseconds between two ticks
abbrev pub longest_tick : ℕ
longest_tick = 60000

-- by whether signatures have two levels: the most rounds, the last type of a message's tree, the first type of one-time signatures
abbrev pub rounds_by : Bool → ℕ
rounds_by two = if two then most_long_rounds else most_rounds

abbrev pub last_lms_by : Bool → ℕ
last_lms_by two = if two then 5 else 7

abbrev pub first_ots_by : Bool → ℕ
first_ots_by two = if two then 3 else 1

-- the most updates of a round in a version; a window has a flag for each
abbrev pub most_per_round : ℕ → ℕ
most_per_round version = 64 * words_in (nat_le 2 version)

-- the type of an upper tree
abbrev pub IsTop : Option ℕ → Type 0
IsTop top = IfSome top (λ t. (5 ≤ t) × (t ≤ 7))

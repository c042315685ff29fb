-- Which streams fit a session, and how others are refused.
use Rattle.std.specs.Prelude.{ℕ, ◌*◌, ◌++◌, List, Result, Ok, Err, codes, length, nat_le, if◌then◌else◌}
use Rattle.std.specs.Fmt.{decimal}
use Rattle.bar_wire.specs.Limits.{largest_content}
use Rattle.bar_session.specs.SessionData.{SessionData}

-- how many bytes of a stream a session's rounds carry
abbrev pub room_of : SessionData → ℕ
room_of s = s.shape.rounds * s.shape.per_round * largest_content

-- the stream if it fits, or its length
abbrev pub stream_in : SessionData → List ℕ → Result (List ℕ) ℕ
stream_in s bytes = if nat_le (length bytes) (room_of s) then Ok bytes else Err (length bytes)

-- the line printed if a stream is too long for a session
abbrev pub stream_refused : ℕ → ℕ → List ℕ
stream_refused have room =
    codes "bar: input refused: stream have " ++ (decimal have ++ (codes " room " ++ (decimal room ++ codes "\n")))

-- the line by which a session refuses a stream of this length
abbrev pub no_room : SessionData → ℕ → List ℕ
no_room s have = stream_refused have (room_of s)

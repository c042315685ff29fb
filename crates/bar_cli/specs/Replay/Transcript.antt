-- The transcript of a replay: a line for each datagram that is sent.
use Rattle.std.specs.Prelude.{ℕ, List, [], ◌∷◌, ◌++◌, map}
use Rattle.std.specs.List.{flat_map}
use Rattle.std.specs.Fmt.{decimal}
use Rattle.hex.specs.Hex.{encode_lower}
use Rattle.bar_wire.specs.Datagram.{Datagram}
use Rattle.bar_rules.specs.Member.{Session}
use Rattle.bar_rules.specs.Values.{datagram_bytes}

-- the number of an input and a receiver, each followed by a blank, then the bytes in hex, and a newline
abbrev pub line_of_bytes : ℕ → ℕ → List ℕ → List ℕ
line_of_bytes number to bytes = decimal number ++ (32 ∷ (decimal to ++ (32 ∷ (encode_lower bytes ++ 10 ∷ []))))

-- the line of a datagram that is sent, with its input's number and its receiver
abbrev pub line_of_sent : Session → ℕ × ℕ × Datagram → List ℕ
line_of_sent s sent = line_of_bytes sent.0 sent.1 (datagram_bytes s sent.2)

abbrev pub transcript : Session → List (ℕ × ℕ × Datagram) → List ℕ
transcript s sends = flat_map (line_of_sent s) sends

-- the lines of what one input sends
abbrev pub lines_of_sends : Session → ℕ → List (ℕ × Datagram) → List (List ℕ)
lines_of_sends s number sends = map (λ send. line_of_sent s (number, send.0, send.1)) sends

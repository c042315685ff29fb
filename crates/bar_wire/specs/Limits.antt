-- The limits of every datagram, and those of a session's own parameters.
use Rattle.std.specs.Prelude.{◌≡◌, ℕ, ◌+◌, ◌*◌, ◌<◌, ◌≤◌, List, length}
use Rattle.bar_window.specs.Limits.{most_life}

-- the most bytes of a datagram
abbrev pub largest_datagram : ℕ
largest_datagram = 65507

-- how many bytes precede the fields of a datagram
abbrev pub header_len : ℕ
header_len = 16

-- the receiver that means all peers
abbrev pub everyone : ℕ
everyone = 65535

-- the most bytes of content in a block; the content follows its length of two bytes
abbrev pub largest_content : ℕ
largest_content = 1022

-- how many requests of each kind of exchange a peer admits in a round; each takes a seat
abbrev pub seats_a_round : ℕ
seats_a_round = 2

-- how many exchanges a peer has in a round: for each of the two kinds, its own and one for each seat
abbrev pub exchanges_a_round : ℕ
exchanges_a_round = 2 * (1 + seats_a_round)

-- how many messages a peer may sign in a round, each with a leaf of its own: three in an exchange
abbrev pub leaves_a_round : ℕ
leaves_a_round = 3 * exchanges_a_round

-- An id has eight bytes, and an update lives for at least one round.
pub record IsShape (id : List ℕ) (life : ℕ) : Type 0 where
  pub id_long : length id ≡ 8
  pub alive : 0 < life
  pub few : life ≤ most_life

-- The simulation of a seed: its parameters, secrets, stream, draws, and the play.
use Rattle.std.specs.Prelude.{◌≡◌, ℕ, ◌+◌, true, List, ◌++◌, map, codes, refl}
use Rattle.std.specs.List.{range_with_len}
use Rattle.sha2.specs.Sha256.{sha256}
use Rattle.rand_chacha.specs.ChaCha.{word_at, key_of}
use Rattle.bar_bytes.specs.Bytes.{u16_bytes, u64_bytes}
use Rattle.bar_lms.specs.declared.params.Height.TheVariants.{H10}
use Rattle.bar_lms.specs.declared.params.Ots.TheVariants.{W4}
use Rattle.bar_lms.specs.Params.{signature_len}
use Rattle.bar_case.specs.Keystream.{keystream}
use Rattle.bar_wire.specs.declared.shape.Shape.{Shape}
use Rattle.bar_roster.specs.Shapes.{is_shaped, shaped}
use Rattle.bar_rules.specs.World.World.{Setup}
use Rattle.bar_world.specs.declared.numbers.Numbers.{Numbers}
use Rattle.bar_world.specs.Made.{made_setup}
use Rattle.bar_world.specs.Network.{Game, Play, begun, played_on}

-- ---- the setup

-- LMS type 6 and LM-OTS type 3. The port and the length of a tick aren't used: they are the least that a session may have.
abbrev pub numbers : Numbers
numbers = record { cap = 4; fanout = 2; port = 1024; tick_ms = 1; params = record { height = H10; ots = W4 } }

-- the eight bytes of a seed are an id, and four rounds are a valid life of updates
pub seed_is_shaped : (seed : ℕ) → is_shaped (u64_bytes seed) 4 ≡ true
unfolding u64_bytes
seed_is_shaped seed = refl

-- the id is the seed
abbrev pub shape : ℕ → Shape
shape seed = record {
  version = 1;
  id = u64_bytes seed;
  peers = 5;
  rounds = 10;
  life = 4;
  per_round = 8;
  sig_len = signature_len numbers.params;
  shaped = shaped (u64_bytes seed) 4 (seed_is_shaped seed);
}

unfoldable pub secret_of : ℕ → ℕ → List ℕ
secret_of seed party = sha256 (codes "SIMS" ++ u64_bytes seed ++ u16_bytes party)

-- the secrets of the broadcaster and of five peers
abbrev pub secrets : ℕ → List (List ℕ)
secrets seed = map (secret_of seed) (range_with_len 0 6)

-- the key of the ChaCha20 words for the stream and the draws
unfoldable pub source : ℕ → List ℕ
source seed = sha256 (codes "SIMW" ++ u64_bytes seed)

-- the first 20,440 words, four bytes each
unfoldable pub stream : ℕ → List ℕ
stream seed = keystream (source seed) 81760

abbrev pub setup : ℕ → Setup
setup seed = made_setup (shape seed) numbers (secrets seed) (stream seed)

-- ---- the play

-- the words after those of the stream
unfoldable pub draw : ℕ → ℕ → ℕ
draw seed number = word_at 10 (key_of (source seed)) 0 (20440 + number)

-- peer 5 is the liar
abbrev pub game : ℕ → Game
game seed = record { setup = setup seed; liar = 5; drawn = draw seed }

-- 120 ticks, and after each at most 4,096 entries of the queue are served
unfoldable pub sim : ℕ → Play
sim seed = played_on (game seed) 4096 120 (begun (game seed))

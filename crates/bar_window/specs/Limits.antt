-- The limits of updates and of what is exchanged.
use Rattle.std.specs.Prelude.{ℕ, ◌*◌}

-- the most rounds that an update lives
abbrev pub most_life : ℕ
most_life = 16

-- the most items of a briefcase, updates and pieces of junk together; also the highest cap, and the most junk items of terms
abbrev pub most_items : ℕ
most_items = 16

-- how many bytes a block has: the length of its content, the content and zeros
abbrev pub block_size : ℕ
block_size = 1024

-- how many bytes a piece of junk has
abbrev pub junk_size : ℕ
junk_size = 1280

-- the most bytes of a briefcase: those of one full of junk
abbrev pub largest_cipher : ℕ
largest_cipher = most_items * junk_size

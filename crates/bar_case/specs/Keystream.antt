-- The ChaCha20 keystream under a key of 32 bytes (RFC 8439, 2.3): the words of stream 0 from place 0 on, each with its low byte first.
use Rattle.std.specs.Prelude.{ℕ, zero, suc, ◌+◌, ◌/◌, List, [], ◌++◌, take, bit_xor}
use Rattle.std.specs.Simd.Lanes.{zip2}
use Rattle.std.specs.Int.{w32, to_le_bytes}
use Rattle.rand_chacha.specs.ChaCha.{word_at, key_of}

-- the bytes of the first n words
unfoldable pub keystream_words : List ℕ → ℕ → List ℕ
keystream_words key zero = []
keystream_words key (suc n) = keystream_words key n ++ to_le_bytes w32 (word_at 10 (key_of key) 0 n)

-- the first n bytes
unfoldable pub keystream : List ℕ → ℕ → List ℕ
keystream key n = take n (keystream_words key ((n + 3) / 4))

-- bytes XOR other bytes, one by one
abbrev pub xor_bytes : List ℕ → List ℕ → List ℕ
xor_bytes xs ys = zip2 bit_xor xs ys

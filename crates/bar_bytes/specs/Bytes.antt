-- Numbers as bytes, the highest byte first.
use Rattle.std.specs.Prelude.{ℕ, ◌+◌, ◌*◌, List, [], ◌∷◌, slice_index}
use Rattle.std.specs.Int.{w16, w32, w64, to_be_bytes}

abbrev pub u8_bytes : ℕ → List ℕ
u8_bytes n = n ∷ []

unfoldable pub u16_bytes : ℕ → List ℕ
u16_bytes n = to_be_bytes w16 n

unfoldable pub u32_bytes : ℕ → List ℕ
u32_bytes n = to_be_bytes w32 n

unfoldable pub u64_bytes : ℕ → List ℕ
u64_bytes n = to_be_bytes w64 n

-- the number in the first two bytes; bytes past the end count as zero
abbrev pub first_u16 : List ℕ → ℕ
first_u16 bytes = 256 * slice_index bytes 0 + slice_index bytes 1

-- The numbers of the LM-OTS and LMS types (RFC 8554, 4.1 and 5.1).
use Rattle.std.specs.Prelude.{ℕ, ◌+◌, ◌-◌, ◌*◌, ◌^◌, ◌<◌, ◌⊎◌}
use Rattle.bar_lms.specs.declared.params.Ots.{Ots}
use Rattle.bar_lms.specs.declared.params.Ots.TheVariants.{W1, W2, W4, W8}
use Rattle.bar_lms.specs.declared.params.Height.{Height}
use Rattle.bar_lms.specs.declared.params.Height.TheVariants.{H5, H10, H15}
use Rattle.bar_lms.specs.declared.params.Params.{Params}

-- w, the bits of a digit
abbrev pub digit_bits : Ots → ℕ
digit_bits W1 = 1
digit_bits W2 = 2
digit_bits W4 = 4
digit_bits W8 = 8

-- p, the chains of a key
abbrev pub chains : Ots → ℕ
chains W1 = 265
chains W2 = 133
chains W4 = 67
chains W8 = 34

-- ls, the bits that the checksum is shifted by
abbrev pub checksum_shift : Ots → ℕ
checksum_shift W1 = 7
checksum_shift W2 = 6
checksum_shift W4 = 4
checksum_shift W8 = 0

abbrev pub ots_type : Ots → ℕ
ots_type W1 = 1
ots_type W2 = 2
ots_type W4 = 3
ots_type W8 = 4

abbrev pub lms_type : Height → ℕ
lms_type H5 = 5
lms_type H10 = 6
lms_type H15 = 7

-- h, the levels of the tree above its leaves
abbrev pub levels : Height → ℕ
levels H5 = 5
levels H10 = 10
levels H15 = 15

-- 2 ^ w - 1, the last value of a digit, and the steps of a whole chain
abbrev pub last : Ots → ℕ
last ots = 2 ^ digit_bits ots - 1

-- a signature's length
abbrev pub signature_len : Params → ℕ
signature_len p = 12 + 32 * (chains p.ots + 1) + 32 * levels p.height

-- the most hashes that acceptance takes: all steps of all chains, the message, the one-time key, the leaf and the path to the root
abbrev pub most_steps : Params → ℕ
most_steps p = chains p.ots * last p.ots + levels p.height + 3

-- numbers that aren't those of an LMS type and an LM-OTS type
abbrev pub NameNoTypes : ℕ → ℕ → Type 0
NameNoTypes lms ots = ((lms < 5) ⊎ (7 < lms)) ⊎ ((ots < 1) ⊎ (4 < ots))

-- Parsing of an option's value as a number or an id.
use Rattle.std.specs.Prelude.{◌&&◌, nat_le, ℕ, Bool, false, List, [], ◌∷◌, Option, None, Some, if◌then◌else◌}
use Rattle.std.specs.Result.{result_ok}
use Rattle.std.specs.List.{list_all}
use Rattle.std.specs.Str.Parse.{digits_value}
use Rattle.std.specs.Char.{is_ascii_digit}
use Rattle.hex.specs.Hex.{decode_sized}

-- only ASCII digits, and at least one
abbrev pub is_numeral : List ℕ → Bool
is_numeral [] = false
is_numeral (digit ∷ digits) = list_all is_ascii_digit (digit ∷ digits)

-- the number that an argument represents, if it is in the range; leading zeros are allowed
abbrev pub number_in : ℕ → ℕ → List ℕ → Option ℕ
number_in low high word =
    if is_numeral word && (nat_le low (digits_value 10 word) && nat_le (digits_value 10 word) high)
    then Some (digits_value 10 word)
    else None

-- the eight bytes that sixteen hex digits encode
abbrev pub id_of : List ℕ → Option (List ℕ)
id_of word = result_ok (decode_sized word 8)

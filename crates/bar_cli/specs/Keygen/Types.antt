-- The types of signatures that arguments name.
use Rattle.std.specs.Prelude.{ℕ, List, Option, Some, None}
use Rattle.std.specs.Option.{option_and_then, option_map}
use Rattle.bar_lms.specs.declared.params.Height.{Height}
use Rattle.bar_lms.specs.declared.params.Params.{Params}
use Rattle.bar_roster.specs.Shapes.{height_of, params_of}
use Rattle.bar_arguments.specs.Numbers.{number_in}
use Rattle.bar_cli.specs.declared.keygen.key_types.KeyTypes.{KeyTypes}

-- the types of one level for two numbers
abbrev pub types_of : List ℕ → List ℕ → Option (Option Height × Params)
types_of lms ots = option_and_then (λ l. option_map (λ o. (None, params_of l o)) (number_in 1 4 ots)) (number_in 5 7 lms)

-- the types of two levels for two numbers: that of the upper tree, and that of the one-time signatures of both; lower trees have type 5
abbrev pub levels_of : List ℕ → List ℕ → Option (Option Height × Params)
levels_of top ots = option_and_then (λ t. option_map (λ o. (Some (height_of t), params_of 5 o)) (number_in 3 4 ots)) (number_in 5 7 top)

abbrev pub types_view : KeyTypes → Option Height × Params
types_view types = (types.top, types.params)

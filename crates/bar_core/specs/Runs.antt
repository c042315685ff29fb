-- What a list of inputs sends and plays by the rules of a core, after the inputs that it took before.
use Rattle.std.specs.Prelude.{ℕ, List, [], ◌∷◌, ◌++◌}
use Rattle.bar_wire.specs.Inputs.{Input}
use Rattle.bar_core.specs.Rules.{Rules, Send}

abbrev pub sends_over : Rules → List Input → List Input → List Send
sends_over r before [] = []
sends_over r before (input ∷ inputs) = r.sends before input ++ sends_over r (before ++ input ∷ []) inputs

abbrev pub contents_over : Rules → List Input → List Input → List (List ℕ)
contents_over r before [] = []
contents_over r before (input ∷ inputs) = r.contents before input ++ contents_over r (before ++ input ∷ []) inputs

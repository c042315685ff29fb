-- What rules send and play over a list of inputs if they depend only on a state that each input updates, and how that state counts ticks.
use Rattle.std.proofs.Common.{◌≡◌, ◌≤◌, ◌∙◌, ℕ, ◌+◌, min, List, [], ◌∷◌, ◌++◌, map, refl, sym, ap, arith}
use Rattle.std.specs.List.{concat, flat_map}
use Rattle.std.proofs.lemmas.List.{map-append}
use Rattle.std.proofs.lemmas.List.Folds.{concat-append}
use Rattle.bar_wire.specs.Inputs.{Input}
use Rattle.bar_record.specs.Pacing.{ticks_in, ticks_of}
use Rattle.bar_core.specs.Rules.{Rules, Send}
use Rattle.bar_core.specs.Runs.{contents_over, sends_over}

-- showing a list whose elements are numbered
shown-numbered : {A B : Type 0} (shown : A → Send) (numbered : A → B) (given : B → Send)
    → ((a : A) → given (numbered a) ≡ shown a) → (xs : List A)
    → map shown xs ≡ map given (map numbered xs)
shown-numbered shown numbered given same [] = refl
shown-numbered shown numbered given same (x ∷ xs) = λ i. sym (same x) i ∷ shown-numbered shown numbered given same xs i

-- the state before an input, and how an input updates it
module _ {S : Type 0} (r : Rules) (state : List Input → S) (next : S → Input → S)
    (goes : (before : List Input) (input : Input) → state (before ++ input ∷ []) ≡ next (state before) input) where
  -- the runs put a number before each send of an input
  pub sends-stepwise : {A B : Type 0} (gives : S → Input → List A) (shown : A → Send) (numbered : ℕ → A → B) (given : B → Send)
      (runs : S → ℕ → List Input → List B)
      → ((before : List Input) (input : Input) → r.sends before input ≡ map shown (gives (state before) input))
      → ((n : ℕ) (a : A) → given (numbered n a) ≡ shown a)
      → ((s : S) (n : ℕ) → runs s n [] ≡ [])
      → ((s : S) (n : ℕ) (input : Input) (inputs : List Input)
      → runs s n (input ∷ inputs) ≡ map (numbered n) (gives s input) ++ runs (next s input) (n + 1) inputs)
      → (before : List Input) (n : ℕ) (inputs : List Input) → sends_over r before inputs ≡ map given (runs (state before) n inputs)
  sends-stepwise gives shown numbered given runs is same none some before n [] = ap (map given) (sym (none (state before) n))
  sends-stepwise gives shown numbered given runs is same none some before n (input ∷ inputs) =
      let sent : List _ = map (numbered n) (gives (state before) input) in
      (λ i. (is before input ∙ shown-numbered shown (numbered n) given (same n) (gives (state before) input)) i
      ++ sends-stepwise gives shown numbered given runs is same none some (before ++ input ∷ []) (n + 1) inputs i)
      ∙ (λ i. map given sent ++ map given (runs (goes before input i) (n + 1) inputs))
      ∙ sym (map-append given sent (runs (next (state before) input) (n + 1) inputs))
      ∙ ap (map given) (sym (some (state before) n input inputs))

  -- the runs list the contents of each input
  pub contents-stepwise : (plays : S → Input → List (List ℕ)) (runs : S → List Input → List (List (List ℕ)))
      → ((before : List Input) (input : Input) → r.contents before input ≡ plays (state before) input)
      → ((s : S) → runs s [] ≡ [])
      → ((s : S) (input : Input) (inputs : List Input) → runs s (input ∷ inputs) ≡ plays s input ∷ runs (next s input) inputs)
      → (before : List Input) (inputs : List Input) → concat (contents_over r before inputs) ≡ flat_map concat (runs (state before) inputs)
  contents-stepwise plays runs is none some before [] = ap (flat_map concat) (sym (none (state before)))
  contents-stepwise plays runs is none some before (input ∷ inputs) =
      concat-append (r.contents before input) (contents_over r (before ++ input ∷ []) inputs)
      ∙ (λ i. concat (is before input i) ++ contents-stepwise plays runs is none some (before ++ input ∷ []) inputs i)
      ∙ (λ i. concat (plays (state before) input) ++ flat_map concat (runs (goes before input i) inputs))
      ∙ ap (flat_map concat) (sym (some (state before) input inputs))

-- each input counts its ticks, up to the last one
pub ticks-stepwise : {S : Type 0} (time : S → ℕ) (last : ℕ) (next : S → Input → S) (after : S → List Input → S)
    → ((s : S) → after s [] ≡ s)
    → ((s : S) (input : Input) (inputs : List Input) → after s (input ∷ inputs) ≡ after (next s input) inputs)
    → ((s : S) (input : Input) → time s ≤ last → time (next s input) ≡ min (time s + ticks_in input) last)
    → (s : S) (inputs : List Input) → time s ≤ last → time (after s inputs) ≡ min (time s + ticks_of inputs) last
ticks-stepwise time last next after none some counts s [] early = ap time (none s) ∙ omega arith
ticks-stepwise time last next after none some counts s (input ∷ inputs) early =
    let one : time (next s input) ≡ min (time s + ticks_in input) last = counts s input early in
    let others : time (after (next s input) inputs) ≡ min (time (next s input) + ticks_of inputs) last =
    ticks-stepwise time last next after none some counts (next s input) inputs (omega arith) in
    ap time (some s input inputs) ∙ others ∙ omega arith

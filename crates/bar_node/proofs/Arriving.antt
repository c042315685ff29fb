-- What is taken and done at one arrival after others.
use Rattle.std.proofs.Common.{◌≡◌, ℕ, Some, List, [], ◌∷◌, ◌++◌, refl, sym, ap, ◌∙◌, subst, append-nil, append_assoc, Result, Ok}
use Rattle.bar_wire.specs.Inputs.{Input}
use Rattle.bar_record.specs.Pacing.{paced_from, ticks_of}
use Rattle.bar_outside.specs.Wire.{Arrival}
use Rattle.bar_outside.specs.declared.fault.Fault.{Fault}
use Rattle.bar_outside.specs.Plan.{Outside}
use Rattle.bar_outside.specs.Plan.Action.{link}
use Rattle.bar_outside.specs.Plan.LinkCall.{receive}
use Rattle.bar_outside.specs.Code.Follows.{Follows}
use Rattle.bar_outside.proofs.Following.{followed}
use Rattle.bar_core.specs.Rules.{Rules}
use Rattle.bar_node.specs.Code.Turns.{Layout, turns}
use Rattle.bar_node.specs.Runs.{input_of, inputs_of, due_if, run_if, node_from, taken_of}
use Rattle.bar_node.proofs.TurnLists.{paced-step}

-- ---- arrival by arrival

-- everything that is taken over some arrivals, after what was taken before
abbrev pub taken_from : ℕ → List Input → ℕ → List Arrival → List Input
taken_from last before run [] = before
taken_from last before run (a ∷ arrivals) =
    taken_from last (before ++ due_if last (ticks_of before) run (input_of a)) (run_if run (input_of a)) arrivals

-- how many datagrams were then taken in a row
abbrev pub run_from : ℕ → List Arrival → ℕ
run_from run [] = run
run_from run (a ∷ arrivals) = run_from (run_if run (input_of a)) arrivals

taken_from-append : (last : ℕ) (before : List Input) (run : ℕ) (xs ys : List Arrival) →
    taken_from last before run (xs ++ ys) ≡ taken_from last (taken_from last before run xs) (run_from run xs) ys
taken_from-append last before run [] ys = refl
taken_from-append last before run (x ∷ xs) ys =
    taken_from-append last (before ++ due_if last (ticks_of before) run (input_of x)) (run_if run (input_of x)) xs ys

pub run_from-append : (run : ℕ) (xs ys : List Arrival) → run_from run (xs ++ ys) ≡ run_from (run_from run xs) ys
run_from-append run [] ys = refl
run_from-append run (x ∷ xs) ys = run_from-append (run_if run (input_of x)) xs ys

node_from-append : (lay : Layout) (r : Rules) (before : List Input) (run : ℕ) (xs ys : List Arrival) →
    node_from lay r before run (xs ++ ys)
    ≡ node_from lay r before run xs ++ node_from lay r (taken_from r.last before run xs) (run_from run xs) ys
node_from-append lay r before run [] ys = refl
node_from-append lay r before run (x ∷ xs) ys =
    let now : List Input = due_if r.last (ticks_of before) run (input_of x) in
    let next : ℕ = run_if run (input_of x) in
    ap (λ rest. link (receive (Some x)) ∷ (turns lay r before now ++ rest)) (node_from-append lay r (before ++ now) next xs ys)
    ∙ ap (λ rest. link (receive (Some x)) ∷ rest)
    (sym (append_assoc (turns lay r before now) (node_from lay r (before ++ now) next xs)
    (node_from lay r (taken_from r.last (before ++ now) next xs) (run_from next xs) ys)))

-- ---- it is what the link gave, paced

taken_from-is : (last : ℕ) (before : List Input) (run : ℕ) (given : List Arrival) →
    taken_from last before run given ≡ before ++ paced_from last (ticks_of before) run (inputs_of given)
taken_from-is last before run [] = sym (append-nil before)
taken_from-is last before run (a ∷ given) =
    let now : List Input = due_if last (ticks_of before) run (input_of a) in
    let rest : List Input = paced_from last (ticks_of (before ++ now)) (run_if run (input_of a)) (inputs_of given) in
    taken_from-is last (before ++ now) (run_if run (input_of a)) given
    ∙ append_assoc before now rest
    ∙ ap (λ xs. before ++ xs) (sym (paced-step last before run a given))

taken-is : (r : Rules) (given : List Arrival) → taken_from r.last [] 0 given ≡ taken_of r given
taken-is r given = taken_from-is r.last [] 0 given

-- ---- one more arrival

module _ (lay : Layout) (r : Rules) (given : List Arrival) (a : Arrival) where
  -- what is due at this arrival
  abbrev pub due_next : List Input
  due_next = due_if r.last (ticks_of (taken_of r given)) (run_from 0 given) (input_of a)

  pub taken-next : taken_of r (given ++ a ∷ []) ≡ taken_of r given ++ due_next
  taken-next =
      sym (taken-is r (given ++ a ∷ []))
      ∙ taken_from-append r.last [] 0 given (a ∷ [])
      ∙ ap (λ taken. taken ++ due_if r.last (ticks_of taken) (run_from 0 given) (input_of a)) (taken-is r given)

  pub node-next : node_from lay r [] 0 (given ++ a ∷ [])
      ≡ node_from lay r [] 0 given ++ link (receive (Some a)) ∷ turns lay r (taken_of r given) due_next
  node-next =
      node_from-append lay r [] 0 given (a ∷ [])
      ∙ ap (λ taken. node_from lay r [] 0 given ++ node_from lay r taken (run_from 0 given) (a ∷ [])) (taken-is r given)
      ∙ ap (λ rest. node_from lay r [] 0 given ++ link (receive (Some a)) ∷ rest) (append-nil (turns lay r (taken_of r given) due_next))

  -- the arrival is received, and then the turns of what is due are done
  pub arrive : {R S T : Type 0} (old mid late new : Outside) (x : R) (y : S) (q : Result T Fault) →
      Follows (node_from lay r [] 0 given) old mid (Ok x) → Follows (link (receive (Some a)) ∷ []) mid late (Ok y) →
      Follows (turns lay r (taken_of r given) due_next) late new q → Follows (node_from lay r [] 0 (given ++ a ∷ [])) old new q
  arrive old mid late new x y q first second third =
      subst (λ plan. Follows plan old new q) (sym node-next)
      (followed (node_from lay r [] 0 given) (link (receive (Some a)) ∷ turns lay r (taken_of r given) due_next) old mid new x first q
      (followed (link (receive (Some a)) ∷ []) (turns lay r (taken_of r given) due_next) mid late new y second q third))

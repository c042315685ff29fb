-- What actions give, such as datagrams or bytes of a file, if it is known for each turn.
use Rattle.std.proofs.Common.{◌≡◌, ℕ, List, [], ◌∷◌, ◌++◌, refl, sym, ap, ◌∙◌, subst, append-nil, append_assoc, Option}
use Rattle.std.specs.List.{flat_map}
use Rattle.std.proofs.lemmas.Grind.{flat_map-append}
use Rattle.bar_wire.specs.Inputs.{Input}
use Rattle.bar_record.specs.Pacing.{paced_from, ticks_of}
use Rattle.bar_outside.specs.Wire.{Arrival}
use Rattle.bar_outside.specs.Plan.{Action, Begun, IsPartOfNext}
use Rattle.bar_outside.specs.Plan.Action.{append, create, link, read, show}
use Rattle.bar_outside.specs.Plan.LinkCall.{bind, receive, send}
use Rattle.bar_core.specs.Rules.{Rules}
use Rattle.bar_node.specs.Code.Turns.{Layout, turn, turns}
use Rattle.bar_node.specs.Runs.{due_if, input_of, inputs_of, node_from, run_if, taken_of}
use Rattle.bar_node.specs.Stops.{IsFront}
use Rattle.bar_node.proofs.TurnLists.{paced-step, turns-append}

-- ---- prefixes

pub front-behind : {X : Type 0} (first xs ys : List X) → IsFront xs ys → IsFront (first ++ xs) (first ++ ys)
front-behind first xs ys f = record { rest = f.rest; is = ap (λ zs. first ++ zs) f.is ∙ sym (append_assoc first xs f.rest) }

pub front-longer : {X : Type 0} (xs ys more : List X) → IsFront xs ys → IsFront xs (ys ++ more)
front-longer xs ys more f = record { rest = f.rest ++ more; is = ap (λ zs. zs ++ more) f.is ∙ append_assoc xs f.rest more }

pub front-none : {X : Type 0} (xs : List X) → IsFront [] xs
front-none xs = record { rest = xs; is = refl }

pub front-same : {X : Type 0} (xs : List X) → IsFront xs xs
front-same xs = record { rest = []; is = sym (append-nil xs) }

pub front-trans : {X : Type 0} (xs ys zs : List X) → IsFront xs ys → IsFront ys zs → IsFront xs zs
front-trans xs ys zs f g = record {
  rest = f.rest ++ g.rest;
  is = g.is ∙ ap (λ vs. vs ++ g.rest) f.is ∙ append_assoc xs f.rest g.rest;
}

pub cons-nil : {X : Type 0} (x : X) (xs : List X) → x ∷ xs ≡ [] → ⊥
cons-nil x xs e = cc

pub front-of-none : {X : Type 0} (front all : List X) → IsFront front all → all ≡ [] → front ≡ []
front-of-none [] all f e = refl
front-of-none (x ∷ xs) all f e = absurd (cons-nil x (xs ++ f.rest) (sym f.is ∙ e))

-- ---- what is given input by input

-- what a list of inputs gives, if each gives this after the inputs before it
abbrev pub over : {X : Type 0} → (List Input → Input → List X) → List Input → List Input → List X
over one before [] = []
over one before (input ∷ inputs) = one before input ++ over one (before ++ input ∷ []) inputs

-- Each turn gives this. A call that asks the link gives nothing, and a partial action gives a prefix of what the whole action gives.
pub record Yields {X : Type 0} (lay : Layout) (r : Rules) (gives : Action → List X) (one : List Input → Input → List X) : Type 0 where
  pub turn_is : (before : List Input) (input : Input) → flat_map gives (turn lay r before input) ≡ one before input
  pub none : (came : Option Arrival) → gives (link (receive came)) ≡ []
  pub front : (part rest : List Action) → IsPartOfNext part rest → IsFront (flat_map gives part) (flat_map gives rest)

-- ---- all actions except the calls that ask the link

abbrev pub own_of : Action → List Action
own_of (link (receive came)) = []
own_of (link (bind to)) = link (bind to) ∷ []
own_of (link (send to bytes)) = link (send to bytes) ∷ []
own_of (read path) = read path ∷ []
own_of (create path) = create path ∷ []
own_of (append path bytes) = append path bytes ∷ []
own_of (show bytes) = show bytes ∷ []

abbrev pub own : List Action → List Action
own acts = flat_map own_of acts

pub own-behind : (front xs ys : List Action) → own xs ≡ own ys → own (front ++ xs) ≡ own (front ++ ys)
own-behind front xs ys e =
    flat_map-append own_of front xs ∙ ap (λ zs. own front ++ zs) e ∙ sym (flat_map-append own_of front ys)

-- some turns, and then others
pub own-then : (lay : Layout) (r : Rules) (before xs ys : List Input) (done more part : List Action) →
    own done ≡ own (turns lay r before xs ++ more) → own more ≡ own (turns lay r (before ++ xs) ys ++ part) →
    own done ≡ own (turns lay r before (xs ++ ys) ++ part)
own-then lay r before xs ys done more part e f =
    e ∙ own-behind (turns lay r before xs) more (turns lay r (before ++ xs) ys ++ part) f
    ∙ ap own (sym (append_assoc (turns lay r before xs) (turns lay r (before ++ xs) ys) part))
    ∙ ap (λ acts. own (acts ++ part)) (sym (turns-append lay r before xs ys))

-- over some arrivals the turns of the paced inputs are done
pub own-node : (lay : Layout) (r : Rules) (before : List Input) (run : ℕ) (given : List Arrival) →
    own (node_from lay r before run given) ≡ own (turns lay r before (paced_from r.last (ticks_of before) run (inputs_of given)))
own-node lay r before run [] = refl
own-node lay r before run (a ∷ given) =
    let now : List Input = due_if r.last (ticks_of before) run (input_of a) in
    let next : ℕ = run_if run (input_of a) in
    let later : List Input = paced_from r.last (ticks_of (before ++ now)) next (inputs_of given) in
    own-behind (turns lay r before now) _ _ (own-node lay r (before ++ now) next given)
    ∙ ap own (sym (turns-append lay r before now later) ∙ ap (turns lay r before) (sym (paced-step r.last before run a given)))

-- a whole run does the turns of everything that is taken, and then what follows them
pub own-run : (lay : Layout) (r : Rules) (given : List Arrival) (tail : List Action) →
    own (node_from lay r [] 0 given ++ tail) ≡ own (turns lay r [] (taken_of r given) ++ tail)
own-run lay r given tail =
    flat_map-append own_of (node_from lay r [] 0 given) tail
    ∙ ap (λ xs. xs ++ own tail) (own-node lay r [] 0 given)
    ∙ sym (flat_map-append own_of (turns lay r [] (taken_of r given)) tail)

module _ {X : Type 0} (gives : Action → List X) where
  own-gives : ((came : Option Arrival) → gives (link (receive came)) ≡ []) → (acts : List Action) →
      flat_map gives acts ≡ flat_map gives (own acts)
  own-gives none [] = refl
  own-gives none (link (receive came) ∷ acts) = ap (λ xs. xs ++ flat_map gives acts) (none came) ∙ own-gives none acts
  own-gives none (link (bind to) ∷ acts) = ap (λ xs. gives (link (bind to)) ++ xs) (own-gives none acts)
  own-gives none (link (send to bytes) ∷ acts) = ap (λ xs. gives (link (send to bytes)) ++ xs) (own-gives none acts)
  own-gives none (read path ∷ acts) = ap (λ xs. gives (read path) ++ xs) (own-gives none acts)
  own-gives none (create path ∷ acts) = ap (λ xs. gives (create path) ++ xs) (own-gives none acts)
  own-gives none (append path bytes ∷ acts) = ap (λ xs. gives (append path bytes) ++ xs) (own-gives none acts)
  own-gives none (show bytes ∷ acts) = ap (λ xs. gives (show bytes) ++ xs) (own-gives none acts)

  -- plans that differ only in calls that ask the link give the same
  pub same-gives : ((came : Option Arrival) → gives (link (receive came)) ≡ []) → (xs ys : List Action) → own xs ≡ own ys →
      flat_map gives xs ≡ flat_map gives ys
  same-gives none xs ys e = own-gives none xs ∙ ap (flat_map gives) e ∙ sym (own-gives none ys)

module _ {X : Type 0} (lay : Layout) (r : Rules) (gives : Action → List X) (one : List Input → Input → List X)
    (y : Yields lay r gives one) where
  pub turns-give : (before inputs : List Input) → flat_map gives (turns lay r before inputs) ≡ over one before inputs
  turns-give before [] = refl
  turns-give before (x ∷ xs) =
      flat_map-append gives (turn lay r before x) (turns lay r (before ++ x ∷ []) xs)
      ∙ ap (λ ys. ys ++ flat_map gives (turns lay r (before ++ x ∷ []) xs)) (y.turn_is before x)
      ∙ ap (λ ys. one before x ++ ys) (turns-give (before ++ x ∷ []) xs)

  pub run-gives : (given : List Arrival) (tail : List Action) →
      flat_map gives (node_from lay r [] 0 given ++ tail) ≡ over one [] (taken_of r given) ++ flat_map gives tail
  run-gives given tail =
      same-gives gives y.none (node_from lay r [] 0 given ++ tail) (turns lay r [] (taken_of r given) ++ tail) (own-run lay r given tail)
      ∙ flat_map-append gives (turns lay r [] (taken_of r given)) tail
      ∙ ap (λ xs. xs ++ flat_map gives tail) (turns-give [] (taken_of r given))

  pub front-gives : (plan done : List Action) → Begun plan done → IsFront (flat_map gives done) (flat_map gives plan)
  front-gives plan done b =
      subst (λ xs. IsFront xs (flat_map gives plan)) (sym (ap (flat_map gives) b.done_is ∙ flat_map-append gives b.front b.part))
      (subst (IsFront _) (sym (ap (flat_map gives) b.plan_is ∙ flat_map-append gives b.front b.rest))
      (front-behind (flat_map gives b.front) (flat_map gives b.part) (flat_map gives b.rest) (y.front b.part b.rest b.part_is)))

-- The turns of inputs: of one, and of several, one after the other.
use Rattle.std.proofs.Common.{◌≡◌, ℕ, ◌+◌, List, [], ◌∷◌, ◌++◌, length, refl, sym, ap, ◌∙◌, subst, arith, append-nil, append_assoc, length-append, Result, Ok, Err}
use Rattle.std.specs.List.{concat, flat_map}
use Rattle.std.proofs.lemmas.List.Folds.{concat-append}
use Rattle.bar_wire.specs.Inputs.{Input}
use Rattle.bar_outside.specs.declared.fault.Fault.{Fault}
use Rattle.bar_outside.specs.Plan.{Outside, Action}
use Rattle.bar_outside.specs.Code.Follows.{Follows}
use Rattle.bar_outside.proofs.Following.{followed, stopped, handed}
use Rattle.bar_core.specs.Rules.{Rules}
use Rattle.bar_core.specs.Runs.{sends_over, contents_over}
use Rattle.bar_core.proofs.OverLists.{sends_over-append, contents_over-append}
use Rattle.bar_node.specs.Code.Turns.{Layout, turn, turns}
use Rattle.bar_node.specs.Code.Counting.{capped, counts_over, both}
use Rattle.bar_node.specs.Code.Taking.{Took}
use Rattle.bar_node.specs.declared.counts.Counts.{Counts}
use Rattle.bar_node.proofs.TurnLists.{turns-append}

-- ---- counts

capped-both : (a b n : ℕ) → n ≡ a + b → capped (capped a + capped b) ≡ capped n
capped-both a b n e = omega arith

pub counts_over-append : (r : Rules) (before xs ys : List Input) →
    both (counts_over r before xs) (counts_over r (before ++ xs) ys) ≡ counts_over r before (xs ++ ys)
counts_over-append r before xs ys =
    let i = capped-both (length xs) (length ys) (length (xs ++ ys)) (length-append xs ys) in
    let s =
    capped-both (length (sends_over r before xs)) (length (sends_over r (before ++ xs) ys)) (length (sends_over r before (xs ++ ys)))
    (ap length (sends_over-append r before xs ys) ∙ length-append (sends_over r before xs) (sends_over r (before ++ xs) ys))
    in
    let p =
    capped-both (length (concat (contents_over r before xs))) (length (concat (contents_over r (before ++ xs) ys)))
    (length (concat (contents_over r before (xs ++ ys))))
    (ap (λ cs. length (concat cs)) (contents_over-append r before xs ys)
    ∙ ap length (concat-append (contents_over r before xs) (contents_over r (before ++ xs) ys))
    ∙ length-append (concat (contents_over r before xs)) (concat (contents_over r (before ++ xs) ys)))
    in
    rw (i, s, p) refl

-- one input was counted
pub counted-one : (r : Rules) (before : List Input) (input : Input) (played sent : ℕ) →
    played ≡ capped (length (concat (r.contents before input))) → sent ≡ capped (length (r.sends before input)) →
    (let k : Counts = record { inputs = 1; sent = sent; played = played } in k) ≡ counts_over r before (input ∷ [])
counted-one r before input played sent e f =
    rw (append-nil (r.sends before input), append-nil (r.contents before input), e, f) refl

-- ---- what was taken

-- some inputs were taken, and then others
pub took-both : (before : List Input) (mid now : List Input → Type 0) (r : Rules) (xs ys : List Input) (a b : Counts) →
    Took before mid r xs a → Took (before ++ xs) now r ys b → Took before now r (xs ++ ys) (both a b)
took-both before mid now r xs ys a b first second = record {
  stands = subst now (append_assoc before xs ys) second.stands;
  counted =
      ap (λ (c : Counts). both c b) first.counted
      ∙ ap (λ (c : Counts). both (counts_over r before xs) c) second.counted
      ∙ counts_over-append r before xs ys;
}

-- no input was taken
pub took-none : (before : List Input) (was : List Input → Type 0) (r : Rules) → was before →
    Took before was r [] (record { inputs = 0; sent = 0; played = 0 })
took-none before was r stands = record { stands = subst was (sym (append-nil before)) stands; counted = refl }

-- equal lists of inputs
pub took-along : (before : List Input) (now : List Input → Type 0) (r : Rules) (xs ys : List Input) (counts : Counts) → ys ≡ xs →
    Took before now r xs counts → Took before now r ys counts
took-along before now r xs ys counts e t = subst (λ inputs. Took before now r inputs counts) (sym e) t

-- ---- one turn, which has three parts

module _ (lay : Layout) (r : Rules) (before : List Input) (input : Input) (old new : Outside) where
  turn-by : {T : Type 0} (q : Result T Fault) → Follows (turn lay r before input) old new q →
      Follows (turns lay r before (input ∷ [])) old new q
  turn-by q f = subst (λ plan. Follows plan old new q) (sym (append-nil (turn lay r before input))) f

  -- what it plays, and what it sends
  abbrev plays : List Action
  plays = flat_map lay.play (r.contents before input)

  abbrev sends : List Action
  sends = flat_map (lay.give (length before + 1)) (r.sends before input)

  pub stopped-entering : {S T : Type 0} (fault : Fault) → Follows {T = S} (lay.enter input) old new (Err fault) →
      Follows {T = T} (turns lay r before (input ∷ [])) old new (Err fault)
  stopped-entering fault f = turn-by (Err fault) (handed _ old new fault (stopped (lay.enter input) (plays ++ sends) old new fault f))

  pub stopped-playing : {R S T : Type 0} (mid : Outside) (y : R) (fault : Fault) (contents : List (List ℕ)) →
      contents ≡ r.contents before input → Follows (lay.enter input) old mid (Ok y) →
      Follows {T = S} (flat_map lay.play contents) mid new (Err fault) →
      Follows {T = T} (turns lay r before (input ∷ [])) old new (Err fault)
  stopped-playing {S = S} mid y fault contents e first second =
      turn-by (Err fault) (handed _ old new fault (followed (lay.enter input) (plays ++ sends) old mid new y first (Err fault)
      (stopped plays sends mid new fault (subst (λ cs. Follows {T = S} (flat_map lay.play cs) mid new (Err fault)) e second))))

  pub then-sending : {R S T : Type 0} (mid late : Outside) (y : R) (z : S) (q : Result T Fault) (contents : List (List ℕ)) →
      contents ≡ r.contents before input → Follows (lay.enter input) old mid (Ok y) → Follows (flat_map lay.play contents) mid late (Ok z) →
      Follows (flat_map (lay.give (length before + 1)) (r.sends before input)) late new q →
      Follows (turns lay r before (input ∷ [])) old new q
  then-sending mid late y z q contents e first second third =
      turn-by q (followed (lay.enter input) (plays ++ sends) old mid new y first q
      (followed plays sends mid late new z (subst (λ cs. Follows (flat_map lay.play cs) mid late (Ok z)) e second) q third))

-- ---- several turns

-- some turns, and then others
pub turns-then : {S T : Type 0} (lay : Layout) (r : Rules) (before xs ys : List Input) (old mid new : Outside) (y : S)
    (q : Result T Fault) → Follows (turns lay r before xs) old mid (Ok y) → Follows (turns lay r (before ++ xs) ys) mid new q →
    Follows (turns lay r before (xs ++ ys)) old new q
turns-then lay r before xs ys old mid new y q first second =
    subst (λ plan. Follows plan old new q) (sym (turns-append lay r before xs ys))
    (followed (turns lay r before xs) (turns lay r (before ++ xs) ys) old mid new y first q second)

-- a fault at some turns, and none after it
pub turns-stopped : {T : Type 0} (lay : Layout) (r : Rules) (before xs ys : List Input) (old new : Outside) (fault : Fault) →
    Follows {T = T} (turns lay r before xs) old new (Err fault) → Follows {T = T} (turns lay r before (xs ++ ys)) old new (Err fault)
turns-stopped {T} lay r before xs ys old new fault f =
    subst (λ plan. Follows {T = T} plan old new (Err fault)) (sym (turns-append lay r before xs ys))
    (stopped (turns lay r before xs) (turns lay r (before ++ xs) ys) old new fault f)

-- equal lists of inputs
pub turns-along : {T : Type 0} (lay : Layout) (r : Rules) (before xs ys : List Input) (old new : Outside) (q : Result T Fault) → ys ≡ xs →
    Follows (turns lay r before xs) old new q → Follows (turns lay r before ys) old new q
turns-along lay r before xs ys old new q e f = subst (λ inputs. Follows (turns lay r before inputs) old new q) (sym e) f

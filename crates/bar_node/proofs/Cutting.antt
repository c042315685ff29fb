-- The position at which a plan of turns was stopped.
use Rattle.std.proofs.Common.{◌≡◌, ◌≤◌, ◌⊎◌, ℕ, ◌+◌, ◌==◌, nat_le, not, Bool, true, false, cond, List, [], ◌∷◌, ◌++◌, length, refl, sym, ap, ◌∙◌, subst, inl, inr, arith, append-nil, append_assoc, length-append, Option, Some, None}
use Rattle.std.specs.List.{flat_map}
use Rattle.std.proofs.lemmas.Grind.{flat_map-append}
use Rattle.std.proofs.lemmas.List.{append_cancel_left}
use Rattle.bar_wire.specs.Inputs.{Input}
use Rattle.bar_wire.specs.Inputs as plain
use Rattle.bar_record.specs.Pacing.{paced_from, ticks_of}
use Rattle.bar_outside.specs.Wire.{Arrival}
use Rattle.bar_outside.specs.Plan.{Action, Begun, IsPartOf, LinkCall}
use Rattle.bar_outside.specs.Plan.Action.{append, create, link, read, show}
use Rattle.bar_outside.specs.Plan.LinkCall.{receive}
use Rattle.bar_outside.proofs.ActionLists.{Begun-both, Begun-first}
use Rattle.bar_core.specs.Rules.{Rules}
use Rattle.bar_node.specs.Code.Turns.{Layout, turn, turns}
use Rattle.bar_node.specs.Code.Effects.{received_by, received_in}
use Rattle.bar_node.specs.Runs.{due_if, input_of, inputs_of, node_from, run_if, taken_of}
use Rattle.bar_node.specs.Stops.{Cut, IsFront}
use Rattle.bar_node.proofs.TurnLists.{paced-step}
use Rattle.bar_node.proofs.Receiving.{AreQuiet, received-quiet, quiet-begun}
use Rattle.bar_node.proofs.Yields.{Yields, cons-nil, front-behind, front-none, front-same, front-trans, front-gives, over, own, own-then, same-gives, turns-give}

-- ---- one input after the other

-- the inputs whose turns were done, and the one whose turn was done in part
pub record InTurn (lay : Layout) (r : Rules) (before inputs : List Input) (tail done : List Action) : Type 0 where
  pub whole : List Input
  pub last : List Input
  pub left : List Input
  pub part : List Action
  pub rest : List Action
  pub is : inputs ≡ whole ++ (last ++ left)
  pub one : length last ≤ 1
  pub done_is : done ≡ turns lay r before whole ++ part
  pub begun : Begun (turns lay r (before ++ whole) last ++ rest) part
  pub rest_is : (rest ≡ []) ⊎ (rest ≡ tail)
  pub begins : (length last ≡ 1) ⊎ (left ≡ [])

begun-one : (plan part : List Action) → Begun plan part → Begun ((plan ++ []) ++ []) part
begun-one plan part b = subst (λ xs. Begun xs part) (sym (append-nil (plan ++ []) ∙ append-nil plan)) b

pub in-turn : (lay : Layout) (r : Rules) (before inputs : List Input) (tail done : List Action) →
    Begun (turns lay r before inputs ++ tail) done → InTurn lay r before inputs tail done
in-turn lay r before [] tail done b = record {
  whole = [];
  last = [];
  left = [];
  part = done;
  rest = tail;
  is = refl;
  one = omega arith;
  done_is = refl;
  begun = b;
  rest_is = inr refl;
  begins = inr refl;
}
in-turn lay r before (x ∷ xs) tail done b =
    elim (Begun-both (turn lay r before x) (turns lay r (before ++ x ∷ []) xs ++ tail) done
    (subst (λ plan. Begun plan done) (append_assoc (turn lay r before x) (turns lay r (before ++ x ∷ []) xs) tail) b)) [
      | inl m ↦ record {
        whole = [];
        last = x ∷ [];
        left = xs;
        part = done;
        rest = [];
        is = refl;
        one = omega arith;
        done_is = refl;
        begun = subst (λ h. Begun (turns lay r h (x ∷ []) ++ []) done) (sym (append-nil before)) (begun-one (turn lay r before x) done m.2);
        rest_is = inl refl;
        begins = inl refl;
      }
      | inr m ↦
          let i = in-turn lay r (before ++ x ∷ []) xs tail m.0 m.2 in
          record {
            whole = x ∷ i.whole;
            last = i.last;
            left = i.left;
            part = i.part;
            rest = i.rest;
            is = ap (λ zs. x ∷ zs) i.is;
            one = i.one;
            done_is = m.1 ∙ ap (λ zs. turn lay r before x ++ zs) i.done_is
                ∙ sym (append_assoc (turn lay r before x) (turns lay r (before ++ x ∷ []) i.whole) i.part);
            begun = subst (λ h. Begun (turns lay r h i.last ++ i.rest) i.part) (append_assoc before (x ∷ []) i.whole) i.begun;
            rest_is = i.rest_is;
            begins = i.begins;
          }
    ]

-- of at most two inputs, at most one is left
most-left : (inputs whole last left : List Input) → length inputs ≤ 2 → inputs ≡ whole ++ (last ++ left) →
    (length last ≡ 1) ⊎ (left ≡ []) → length left ≤ 1
most-left inputs whole last left few is (inr none) = rw none (omega arith)
most-left inputs whole last left few is (inl one) =
    let n = length-append whole (last ++ left) in
    let m = length-append last left in
    let k : length inputs ≡ length (whole ++ (last ++ left)) = ap length is in
    omega arith

-- ---- what was received

pub no-part-link : (part : Action) (call : LinkCall) → IsPartOf part (link call) → ⊥
no-part-link (read path) call h = h
no-part-link (create path) call h = h
no-part-link (append path bytes) call h = h
no-part-link (show bytes) call h = h
no-part-link (link other) call h = h

few-due : (last ticks run : ℕ) (o : Option Input) → length (due_if last ticks run o) ≤ 2
few-due last ticks run None = omega arith
few-due last ticks run (Some plain.Tick) = by_test (nat_le last ticks)
  where
    by_test : (b : Bool) → length (cond b [] (plain.Tick ∷ [])) ≤ 2
    by_test true = omega arith
    by_test false = omega arith
few-due last ticks run (Some (plain.Datagram bytes)) = by_tests (nat_le last ticks) (not (run == 65536)) (nat_le last (ticks + 1))
  where
    by_tests : (a b d : Bool) →
        length (cond a [] (cond b (plain.Datagram bytes ∷ []) (cond d (plain.Tick ∷ []) (plain.Tick ∷ plain.Datagram bytes ∷ [])))) ≤ 2
    by_tests true b d = omega arith
    by_tests false true d = omega arith
    by_tests false false true = omega arith
    by_tests false false false = omega arith

-- ---- one arrival after the other

-- The turns of the inputs of all arrivals but the last were done, and the last arrival was received.
pub record Late (lay : Layout) (r : Rules) (before now : List Input) (run : ℕ) (given : List Arrival)
    (tail done : List Action) : Type 0 where
  pub earlier : List Input
  pub due_now : List Input
  pub few : length due_now ≤ 2
  pub is : now ++ paced_from r.last (ticks_of (before ++ now)) run (inputs_of given) ≡ earlier ++ due_now
  pub more : List Action
  pub done_is : own done ≡ own (turns lay r before earlier ++ more)
  pub begun : Begun (turns lay r (before ++ earlier) due_now ++ tail) more

module _ (lay : Layout) (r : Rules) (silent : (before inputs : List Input) → AreQuiet (turns lay r before inputs))
    (tail : List Action) where
  -- some inputs are due, and the others follow with what the link gave
  pub late : (before now : List Input) (run : ℕ) (given : List Arrival) (done : List Action) → length now ≤ 2 →
      received_in done ≡ given → Begun (turns lay r before now ++ (node_from lay r (before ++ now) run given ++ tail)) done →
      Late lay r before now run given tail done
  late before now run [] done few all b = record {
    earlier = [];
    due_now = now;
    few = few;
    is = append-nil now;
    more = done;
    done_is = refl;
    begun = subst (λ h. Begun (turns lay r h now ++ tail) done) (sym (append-nil before)) b;
  }
  late before now run (a ∷ given) done few all b =
      let last : ℕ = r.last in
      let then : List Input = due_if last (ticks_of (before ++ now)) run (input_of a) in
      let next : ℕ = run_if run (input_of a) in
      let others : List Action = node_from lay r ((before ++ now) ++ then) next given in
      let first : Action = link (receive (Some a)) in
      let plan : List Action = (turns lay r (before ++ now) then ++ others) ++ tail in
      elim (Begun-both (turns lay r before now) (first ∷ plan) done b) [
        | inl m ↦
            let none : received_in done ≡ [] =
            received-quiet done (quiet-begun (turns lay r before now) done (silent before now) m.2) in
            absurd (cons-nil a given (sym all ∙ none))
        | inr m ↦
            let received_is : received_in m.0 ≡ a ∷ given =
            ap (λ xs. xs ++ received_in m.0) (sym (received-quiet (turns lay r before now) (silent before now)))
            ∙ sym (flat_map-append received_by (turns lay r before now) m.0)
            ∙ sym (ap received_in m.1) ∙ all in
            elim (Begun-first first plan m.0 m.2) [
              | inl e ↦ absurd (cons-nil a given (sym received_is ∙ ap received_in e.0))
              | inr two ↦ elim two [
                | inl part ↦ absurd (no-part-link part.0 (receive (Some a)) part.2)
                | inr n ↦
                    let rest : received_in n.0 ≡ given =
                    append_cancel_left (a ∷ []) (received_in n.0) given (sym (ap received_in n.1) ∙ received_is) in
                    let i =
                    late (before ++ now) then next given n.0 (few-due last (ticks_of (before ++ now)) run (input_of a)) rest
                    (subst (λ p. Begun p n.0) (append_assoc (turns lay r (before ++ now) then) others tail) n.2) in
                    record {
                      earlier = now ++ i.earlier;
                      due_now = i.due_now;
                      few = i.few;
                      is = ap (λ xs. now ++ xs) (paced-step last (before ++ now) run a given ∙ i.is)
                          ∙ sym (append_assoc now i.earlier i.due_now);
                      more = i.more;
                      done_is = own-then lay r before now i.earlier done m.0 i.more (ap own m.1) (ap own n.1 ∙ i.done_is);
                      begun = subst (λ h. Begun (turns lay r h i.due_now ++ tail) i.more) (append_assoc before now i.earlier) i.begun;
                    }
              ]
            ]
      ]

-- ---- the position at which a run was stopped

-- The turns of all begun inputs but the last were done, and that of the last in part; or all turns were done, and a part of what follows
-- them.
pub record StopAt (lay : Layout) (r : Rules) (given : List Arrival) (tail done : List Action) : Type 0 where
  pub cut : Cut (taken_of r given)
  pub part : List Action
  pub rest : List Action
  pub done_is : own done ≡ own (turns lay r [] cut.whole ++ part)
  pub begun : Begun (turns lay r cut.whole cut.last ++ rest) part
  pub rest_is : (rest ≡ []) ⊎ (rest ≡ tail)

stop-late : (lay : Layout) (r : Rules) (tail : List Action) (given : List Arrival) (done : List Action)
    (l : Late lay r [] [] 0 given tail done) → InTurn lay r l.earlier l.due_now tail l.more → StopAt lay r given tail done
stop-late lay r tail given done l t = record {
  cut = record {
    whole = l.earlier ++ t.whole;
    last = t.last;
    left = t.left;
    is = l.is ∙ ap (λ xs. l.earlier ++ xs) t.is ∙ sym (append_assoc l.earlier t.whole (t.last ++ t.left));
    one = t.one;
    most = most-left l.due_now t.whole t.last t.left l.few t.is t.begins;
  };
  part = t.part;
  rest = t.rest;
  done_is = own-then lay r [] l.earlier t.whole done l.more t.part l.done_is (ap own t.done_is);
  begun = t.begun;
  rest_is = t.rest_is;
}

-- the position at which a run was stopped that received everything that was given
pub stop-at : (lay : Layout) (r : Rules) (silent : (before inputs : List Input) → AreQuiet (turns lay r before inputs))
    (tail : List Action) (given : List Arrival) (done : List Action) → received_in done ≡ given →
    Begun (node_from lay r [] 0 given ++ tail) done → StopAt lay r given tail done
stop-at lay r silent tail given done all b =
    let l = late lay r silent tail [] [] 0 given done (omega arith) all b in
    stop-late lay r tail given done l (in-turn lay r l.earlier l.due_now tail l.more l.begun)

-- what was given until then
module _ {X : Type 0} (lay : Layout) (r : Rules) (gives : Action → List X) (one : List Input → Input → List X) (y : Yields lay r gives one)
    (given : List Arrival) (tail done : List Action) (s : StopAt lay r given tail done) where
  pub given-whole : flat_map gives done ≡ over one [] s.cut.whole ++ flat_map gives s.part
  given-whole =
      same-gives gives y.none done (turns lay r [] s.cut.whole ++ s.part) s.done_is
      ∙ flat_map-append gives (turns lay r [] s.cut.whole) s.part
      ∙ ap (λ xs. xs ++ flat_map gives s.part) (turns-give lay r gives one y [] s.cut.whole)

  pub given-part : (end : List X) → flat_map gives tail ≡ end → IsFront (flat_map gives s.part) (over one s.cut.whole s.cut.last ++ end)
  given-part end e =
      front-trans _ _ _
      (subst (IsFront (flat_map gives s.part))
      (flat_map-append gives (turns lay r s.cut.whole s.cut.last) s.rest
      ∙ ap (λ xs. xs ++ flat_map gives s.rest) (turns-give lay r gives one y s.cut.whole s.cut.last))
      (front-gives lay r gives one y (turns lay r s.cut.whole s.cut.last ++ s.rest) s.part s.begun))
      (front-behind (over one s.cut.whole s.cut.last) (flat_map gives s.rest) end
      (elim s.rest_is [
        | inl none ↦ subst (λ acts. IsFront (flat_map gives acts) end) (sym none) (front-none end)
        | inr same ↦ subst (IsFront (flat_map gives s.rest)) (ap (flat_map gives) same ∙ e) (front-same (flat_map gives s.rest))
      ]))

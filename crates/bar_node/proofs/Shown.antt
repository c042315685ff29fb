-- A replay before all its inputs are taken.
use Rattle.std.proofs.Common.{◌≡◌, ◌≤◌, ◌<◌, ℕ, ◌+◌, ◌*◌, ◌^◌, nat_le, min, true, List, [], ◌∷◌, ◌++◌, length, sym, ap, ◌∙◌, subst, arith, append-nil, append_assoc, length-append, Result, Ok, Err}
use Rattle.bar_wire.specs.Inputs.{Input}
use Rattle.bar_record.specs.Pacing.{due, is_datagram, paced, paced_from, run_after, ticks_of}
use Rattle.bar_record.proofs.PacingLemmas.{none_late, ticks_joined}
use Rattle.bar_record.proofs.DueLemmas.{all-count, few-due, row-stays, ticks-late}
use Rattle.bar_outside.specs.declared.fault.Fault.{Fault}
use Rattle.bar_outside.specs.Plan.{Outside}
use Rattle.bar_outside.specs.Code.Follows.{Follows}
use Rattle.bar_core.specs.Rules.{Rules}
use Rattle.bar_core.specs.Code.Face.{Face, IsIdle}
use Rattle.bar_node.specs.Code.Turns.{Layout, turns}
use Rattle.bar_node.specs.Code.Taking.{Took}
use Rattle.bar_node.specs.Code.Counting.{capped, both}
use Rattle.bar_node.specs.declared.counts.Counts.{Counts}
use Rattle.bar_node.proofs.Turning.{turns-then, turns-stopped, turns-along, took-both}

-- some inputs of a recording were taken, and the others are left
pub record Shown (now : List Input → Type 0) (r : Rules) (at : Face) (run : ℕ) (all left : List Input) (counts : Counts)
    (IsDone : List Input → Type 0) : Type 0 where
  pub rules : at.rules ≡ r
  pub idle : IsIdle at
  pub taken : List Input
  pub split : paced r.last all ≡ taken ++ paced_from r.last (ticks_of taken) run left
  pub took : Took [] now r taken counts
  pub row : run ≤ 65536
  pub few : length taken ≤ 65537 * ticks_of taken + run
  pub follows : IsDone taken

-- the count of the inputs so far is exact
exact : (inputs n ticks last run : ℕ) → inputs ≡ capped n → n ≤ 65537 * ticks + run → ticks < last → last < 2 ^ 32 → run ≤ 65536 →
    inputs ≡ n
exact inputs n ticks last run e few goes small row = omega arith

module _ (now : List Input → Type 0) (r : Rules) (at : Face) (run : ℕ) (all left : List Input) (counts : Counts)
    (IsDone : List Input → Type 0) (i : Shown now r at run all left counts IsDone) where
  last-is : at.rules.last ≡ r.last
  last-is = ap (λ (rules : Rules). rules.last) i.rules

  -- nothing more is taken
  shown-all : paced_from r.last (ticks_of i.taken) run left ≡ [] → paced r.last all ≡ i.taken
  shown-all e = i.split ∙ ap (λ rest. i.taken ++ rest) e ∙ append-nil i.taken

  pub shown-whole : left ≡ [] → paced r.last all ≡ i.taken
  shown-whole e = shown-all (ap (paced_from r.last (ticks_of i.taken) run) e)

  module _ (timed : at.ticks ≡ min (ticks_of i.taken) at.rules.last) where
    pub shown-over : true ≡ nat_le at.rules.last at.ticks → paced r.last all ≡ i.taken
    shown-over over = shown-all (none_late r.last (ticks_of i.taken) run left (ticks-late i.taken _ _ _ timed last-is over))

    module _ (goes : at.ticks < at.rules.last) where
      ticks-are : ticks_of i.taken ≡ at.ticks
      ticks-are = all-count i.taken _ _ timed goes

      few-at : length i.taken ≤ 65537 * at.ticks + run
      few-at = subst (λ n. length i.taken ≤ 65537 * n + run) ticks-are i.few

      pub count-exact : at.rules.last < 2 ^ 32 → counts.inputs ≡ length i.taken
      count-exact small = exact _ _ _ _ _ (ap (λ (k : Counts). k.inputs) i.took.counted) few-at goes small i.row

      module _ (input : Input) (rest : List Input) (is : left ≡ input ∷ rest) where
        -- what is due now, and what is taken after it
        more : List Input
        more = due r.last (ticks_of i.taken) run input

        tail : List Input
        unfolding more
        tail = paced_from r.last (ticks_of i.taken + ticks_of more) (run_after run (is_datagram input)) rest

        same-more : due at.rules.last at.ticks run input ≡ more
        unfolding more
        same-more = ap (λ n. due n at.ticks run input) last-is ∙ ap (λ n. due r.last n run input) (sym ticks-are)

        split-next : paced r.last all ≡ i.taken ++ (more ++ tail)
        unfolding more tail
        split-next = i.split ∙ ap (λ inputs. i.taken ++ paced_from r.last (ticks_of i.taken) run inputs) is

        same-turns : (lay : Layout) {T : Type 0} (old new : Outside) (q : Result T Fault) →
            Follows (turns lay at.rules i.taken (due at.rules.last at.ticks run input)) old new q →
            Follows (turns lay r i.taken more) old new q
        same-turns lay old new q h =
            subst (λ (rules : Rules). Follows (turns lay rules i.taken more) old new q) i.rules
            (subst (λ ds. Follows (turns lay at.rules i.taken ds) old new q) same-more h)

        -- a turn was stopped
        pub shown-stopped : (lay : Layout) {S T : Type 0} (old mid new : Outside) (y : S) (fault : Fault) →
            Follows (turns lay r [] i.taken) old mid (Ok y) →
            Follows {T = T} (turns lay at.rules i.taken (due at.rules.last at.ticks run input)) mid new (Err fault) →
            Follows {T = T} (turns lay r [] (paced r.last all)) old new (Err fault)
        shown-stopped lay old mid new y fault first second =
            turns-along lay r [] (i.taken ++ (more ++ tail)) _ old new (Err fault) split-next
            (turns-then lay r [] i.taken (more ++ tail) old mid new y (Err fault) first
            (turns-stopped lay r i.taken more tail mid new fault (same-turns lay mid new (Err fault) second)))

        pub shown-then : (lay : Layout) {S T : Type 0} (old mid new : Outside) (y : S) (q : Result T Fault) →
            Follows (turns lay r [] i.taken) old mid (Ok y) →
            Follows (turns lay at.rules i.taken (due at.rules.last at.ticks run input)) mid new q →
            Follows (turns lay r [] (i.taken ++ due at.rules.last at.ticks run input)) old new q
        shown-then lay old mid new y q first second =
            turns-then lay r [] i.taken (due at.rules.last at.ticks run input) old mid new y q first
            (subst (λ (rules : Rules). Follows (turns lay rules i.taken (due at.rules.last at.ticks run input)) mid new q) i.rules second)

        -- one more input
        pub shown-more : (later : List Input → Type 0) (new : Face) (run_new : ℕ) (added : Counts) (IsDoneNow : List Input → Type 0) →
            Took i.taken later at.rules (due at.rules.last at.ticks run input) added → IsIdle new → new.rules ≡ at.rules →
            run_new ≡ run_after run (is_datagram input) → IsDoneNow (i.taken ++ due at.rules.last at.ticks run input) →
            Shown later r new run_new all rest (both counts added) IsDoneNow
        unfolding more tail
        shown-more later new run_new added IsDoneNow took idle rules run_is done =
            let now_due : List Input = due at.rules.last at.ticks run input in
            let n = few-due at.rules.last at.ticks run goes i.row (length i.taken) input few-at in
            let len = length-append i.taken now_due in
            let ticks = ticks_joined i.taken now_due in
            let all_ticks = ticks-are in
            record {
              rules = rules ∙ i.rules;
              idle = idle;
              taken = i.taken ++ now_due;
              split =
                  split-next
                  ∙ ap (λ ds. i.taken
                  ++ (ds ++ paced_from r.last (ticks_of i.taken + ticks_of ds) (run_after run (is_datagram input)) rest)) (sym same-more)
                  ∙ sym (append_assoc i.taken _ _)
                  ∙ ap (λ m. (i.taken ++ now_due) ++ paced_from r.last m (run_after run (is_datagram input)) rest) (sym ticks)
                  ∙ ap (λ m. (i.taken ++ now_due) ++ paced_from r.last (ticks_of (i.taken ++ now_due)) m rest) (sym run_is);
              took =
                  took-both [] _ _ r i.taken now_due _ _ i.took
                  (subst (λ (rules : Rules). Took i.taken later rules now_due added) i.rules took);
              row = subst (λ m. m ≤ 65536) (sym run_is) (row-stays run (is_datagram input) i.row);
              few = omega arith;
              follows = done;
            }

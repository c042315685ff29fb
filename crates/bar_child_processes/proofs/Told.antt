-- Children whose statuses were all printed.
use Rattle.std.proofs.Common.{◌≡◌, ◌≢◌, ◌⊎◌, ◌∷◌, ◌++◌, [], ℕ, ℤ, pos, List, Bool, true, false, true≢false, not, IsTrue, Result, Ok, Err, All, Contains, if◌then◌else◌, map, flat_map, get_or, take, refl, sym, ap, ap₂, ◌∙◌, subst, append-nil, append_assoc, inl, inr, arith}
use Rattle.std.specs.List.{list_any}
use Rattle.std.proofs.lemmas.Bool.{and_parts, cases_Bool, or_parts}
use Rattle.std.proofs.lemmas.List.Elements.{All-cons, All-head, All-nil, All-tail, Contains-append_right}
use Rattle.bar_outside.specs.Stream.{Stream}
use Rattle.bar_outside.specs.declared.spawner.ChildFault.{ChildFault}
use Rattle.bar_outside.specs.declared.spawner.ChildFault.TheVariants as fault
use Rattle.bar_child_processes.specs.Family.{Child, Shown, Whole, Refused, Wanting, Untried, broken_lines, code_of_end, code_of_shown, code_of_wait, has_status, is_broken, is_in_order, is_refused, is_refused_wait, is_tried, is_whole, is_zero, line_at, line_of, status_line, whole_lines, with_child, with_children}
use Rattle.bar_child_processes.specs.Laws.{HasEndedWell, HasFailed, IsShown}
use Rattle.bar_child_processes.specs.Outcomes.{joined}
use Rattle.bar_child_processes.specs.Sessions.{ShowsLines}
use Rattle.bar_child_processes.proofs.Causes.{code_unless}
use Rattle.bar_child_processes.proofs.Codes.{joined-memory, joined-none, joined-zero, zero-is}
use Rattle.bar_child_processes.proofs.MoreChildren.{take-nil, whole_lines-append}

-- ---- each child has a status, and its line wasn't broken

abbrev HasStatusShown : Child → Type 0
HasStatusShown child = (has_status child.ended ≡ true) × (is_broken child.shown ≡ false)

shown-one : (shown : Shown) (ended : Result ℤ ChildFault) → has_status ended ≡ true → is_broken shown ≡ false →
    IsTrue (if has_status ended then is_tried shown else not (is_tried shown)) → (status : ℤ) × (ended ≡ Ok status) × (shown ≡ Whole)
shown-one Whole (Ok status) h k tried = (status, refl, refl)
shown-one Untried (Ok status) h k tried = absurd (true≢false (sym tried))
shown-one Refused (Ok status) h k tried = absurd (true≢false k)
shown-one Wanting (Ok status) h k tried = absurd (true≢false k)
shown-one _ (Err f) h k tried = absurd (true≢false (sym h))

-- in that case each status was printed
pub all-shown : (family : List Child) → IsTrue (is_in_order true family) → All HasStatusShown family → All IsShown family
all-shown [] in_order told = All-nil IsShown
all-shown (child ∷ family) in_order told =
    let here = All-head HasStatusShown child family told in
    let parts = and_parts (if has_status child.ended then is_tried child.shown else not (is_tried child.shown)) _ in_order in
    All-cons IsShown child family (shown-one child.shown child.ended here.0 here.1 parts.0)
    (all-shown family (ap (λ b. is_in_order (not b) family) (sym here.1) ∙ parts.1) (All-tail HasStatusShown child family told))

wait-zero : (ended : Result ℤ ChildFault) → code_of_wait ended ≡ 0 → has_status ended ≡ true
wait-zero (Ok status) h = refl
wait-zero (Err fault.Failed) h = absurd (omega (arith, h))
wait-zero (Err fault.NoMemory) h = absurd (omega (arith, h))

line-zero : (shown : Shown) → code_of_shown shown ≡ 0 → is_broken shown ≡ false
line-zero Whole h = refl
line-zero Refused h = absurd (omega (arith, h))
line-zero Wanting h = absurd (omega (arith, h))
line-zero Untried h = refl

abbrev EndsWithZero : Child → Type 0
EndsWithZero child = code_of_end child.shown child.ended ≡ 0

pub record Zero (so_far : ℕ) (family : List Child) : Type 0 where
  pub before : so_far ≡ 0
  pub told : All HasStatusShown family
  pub ends : All EndsWithZero family

-- at 0 nothing was refused
pub zero-told : (so_far : ℕ) (family : List Child) → with_children so_far family ≡ 0 → Zero so_far family
zero-told so_far [] h = record { before = h; told = All-nil HasStatusShown; ends = All-nil EndsWithZero }
zero-told so_far (child ∷ family) h =
    let rest = zero-told (with_child so_far child) family h in
    let last = joined-zero _ (code_of_end child.shown child.ended) rest.before in
    let line = joined-zero _ (code_of_shown child.shown) last.0 in
    let wait = joined-zero so_far (code_of_wait child.ended) line.0 in
    record {
      before = wait.0;
      told = All-cons HasStatusShown child family (wait-zero child.ended wait.1, line-zero child.shown line.1) rest.told;
      ends = All-cons EndsWithZero child family last.1 rest.ends;
    }

wait-kept : (ended : Result ℤ ChildFault) → code_of_wait ended ≢ 70 → is_refused_wait ended ≡ false → has_status ended ≡ true
wait-kept (Ok status) h k = refl
wait-kept (Err fault.Failed) h k = absurd (true≢false k)
wait-kept (Err fault.NoMemory) h k = absurd (h refl)

line-kept : (shown : Shown) → code_of_shown shown ≢ 70 → is_refused shown ≡ false → is_broken shown ≡ false
line-kept Whole h k = refl
line-kept Refused h k = absurd (true≢false k)
line-kept Wanting h k = absurd (h refl)
line-kept Untried h k = refl

-- the same if nothing is refused and memory doesn't run out
pub kept-told : (so_far : ℕ) (family : List Child) → with_children so_far family ≢ 70 →
    list_any (λ child. is_refused_wait child.ended) family ≡ false → list_any (λ child. is_refused child.shown) family ≡ false →
    (so_far ≢ 70) × All HasStatusShown family
kept-told so_far [] h waits lines = (h, All-nil HasStatusShown)
kept-told so_far (child ∷ family) h waits lines =
    let wait = or_parts (is_refused_wait child.ended) (list_any (λ child. is_refused_wait child.ended) family) waits in
    let line = or_parts (is_refused child.shown) (list_any (λ child. is_refused child.shown) family) lines in
    let rest = kept-told (with_child so_far child) family h wait.1 line.1 in
    let ended = joined-memory _ (code_of_end child.shown child.ended) rest.0 in
    let shown = joined-memory _ (code_of_shown child.shown) ended.0 in
    let before = joined-memory so_far (code_of_wait child.ended) shown.0 in (
      before.0,
      All-cons HasStatusShown child family (wait-kept child.ended before.1 wait.0, line-kept child.shown shown.1 line.0) rest.1,
    )

-- ---- lines

-- no line was broken
none-broken : (family : List Child) → All IsShown family → broken_lines family ≡ []
none-broken [] shown = refl
none-broken (child ∷ family) shown =
    let here = All-head IsShown child family shown in
    ap (λ s. (if is_broken s then line_of child else []) ++ broken_lines family) here.2
    ∙ none-broken family (All-tail IsShown child family shown)

pub lines-shown : (family : List Child) (old new : Stream) → ShowsLines family old new → All IsShown family →
    new.bytes ≡ old.bytes ++ whole_lines family
lines-shown family old new shows shown =
    let b = shows.bytes in
    b.1 ∙ ap (λ rest. old.bytes ++ rest)
    (ap (λ rest. whole_lines family ++ rest) (take-nil b.0 (broken_lines family) (none-broken family shown)) ∙ append-nil (whole_lines family))

-- the lines of children that ended with 0
pub lines-well : (family : List Child) → All IsShown family → All HasEndedWell family →
    whole_lines family ≡ flat_map (λ party. status_line party (pos 0)) (map (λ child. child.party) family)
lines-well [] shown ended = refl
lines-well (child ∷ family) shown ended =
    let here = All-head IsShown child family shown in
    ap₂ (λ s e. (if is_whole s then line_at child.party e else []) ++ whole_lines family) here.2 (All-head HasEndedWell child family ended)
    ∙ ap (λ rest. status_line child.party (pos 0) ++ rest)
    (lines-well family (All-tail IsShown child family shown) (All-tail HasEndedWell child family ended))

-- ---- statuses

end-zero : (b : Bool) → code_unless b ≡ 0 → b ≡ true
end-zero true h = refl
end-zero false h = absurd (omega (arith, h))

well-one : (child : Child) → IsShown child → EndsWithZero child → HasEndedWell child
well-one child shown h =
    let code = ap₂ code_of_end (sym shown.2) (sym shown.1) ∙ h in
    shown.1 ∙ ap Ok (zero-is shown.0 (end-zero (is_zero shown.0) code))

pub all-well : (family : List Child) → All IsShown family → All EndsWithZero family → All HasEndedWell family
all-well family shown ends = λ k d h. well-one (get_or family k d) (shown k d h) (ends k d h)

-- the effect of a printed status on the session's status
with-shown : (so_far : ℕ) (child : Child) (shown : IsShown child) → with_child so_far child ≡ joined so_far (code_unless (is_zero shown.0))
with-shown so_far child shown =
    ap₂ (λ e s. joined (joined (joined so_far (code_of_wait e)) (code_of_shown s)) (code_of_end s e)) shown.1 shown.2
    ∙ ap (λ n. joined n (code_unless (is_zero shown.0))) (joined-none (joined so_far 0) ∙ joined-none so_far)

still-nine : (b : Bool) → joined 9 (code_unless b) ≡ 9
still-nine true = refl
still-nine false = refl

nine-stays : (family : List Child) → All IsShown family → with_children 9 family ≡ 9
nine-stays [] shown = refl
nine-stays (child ∷ family) shown =
    let here = All-head IsShown child family shown in
    ap (λ n. with_children n family) (with-shown 9 child here ∙ still-nine (is_zero here.0))
    ∙ nine-stays family (All-tail IsShown child family shown)

-- the first child that failed
pub record Failure (family : List Child) : Type 0 where
  pub front : List Child
  pub child : Child
  pub back : List Child
  pub is : family ≡ front ++ child ∷ back
  pub status : ℤ
  pub ended : child.ended ≡ Ok status
  pub shown : child.shown ≡ Whole
  pub other : is_zero status ≡ false

abbrev Ending : List Child → Type 0
Ending family = ((with_children 0 family ≡ 0) × All HasEndedWell family) ⊎ ((with_children 0 family ≡ 9) × Failure family)

-- the children determine the session's status
pub shown-ending : (family : List Child) → All IsShown family → Ending family
shown-ending [] shown = inl (refl, All-nil HasEndedWell)
shown-ending (child ∷ family) shown =
    let here = All-head IsShown child family shown in
    let rest = All-tail IsShown child family shown in
    by-status here rest (shown-ending family rest) (cases_Bool (is_zero here.0))
  where
    by-status : (here : IsShown child) → All IsShown family → Ending family → (is_zero here.0 ≡ true) ⊎ (is_zero here.0 ≡ false) →
        Ending (child ∷ family)
    by-status here rest (inl well) (inl zero) = inl (
      ap (λ n. with_children n family) (with-shown 0 child here ∙ ap (λ (b : Bool). joined 0 (code_unless b)) zero) ∙ well.0,
      All-cons HasEndedWell child family (here.1 ∙ ap Ok (zero-is here.0 zero)) well.1,
    )
    by-status here rest (inr later) (inl zero) = inr (
      ap (λ n. with_children n family) (with-shown 0 child here ∙ ap (λ (b : Bool). joined 0 (code_unless b)) zero) ∙ later.0,
      record {
        front = child ∷ later.1.front;
        child = later.1.child;
        back = later.1.back;
        is = ap (λ xs. child ∷ xs) later.1.is;
        status = later.1.status;
        ended = later.1.ended;
        shown = later.1.shown;
        other = later.1.other;
      },
    )
    by-status here rest _ (inr other) = inr (
      ap (λ n. with_children n family) (with-shown 0 child here ∙ ap (λ (b : Bool). joined 0 (code_unless b)) other)
          ∙ nine-stays family rest,
      record {
        front = [];
        child = child;
        back = family;
        is = refl;
        status = here.0;
        ended = here.1;
        shown = here.2;
        other = other;
      },
    )

-- the first child that failed, whose status was printed
pub has-failed : (family : List Child) (old new : Stream) → ShowsLines family old new → Failure family → HasFailed family old new
has-failed family old new shows f = record {
  child = f.child;
  of = subst (λ xs. Contains xs f.child) (sym f.is) (Contains-append_right f.front (f.child ∷ f.back) f.child (0, omega arith, refl));
  status = f.status;
  ended = f.ended;
  other = λ e. true≢false (sym (ap is_zero e) ∙ f.other);
  printed =
      let b = shows.bytes in
      let line = ap₂ (λ s e. (if is_whole s then line_at f.child.party e else []) ++ whole_lines f.back) f.shown f.ended in
      let whole = ap whole_lines f.is
      ∙ (whole_lines-append f.front (f.child ∷ f.back) ∙ ap (λ rest. whole_lines f.front ++ rest) line) in
      let part = take b.0 (broken_lines family) in (
        whole_lines f.front,
        whole_lines f.back ++ part,
        b.1 ∙ ap (λ lines. old.bytes ++ lines) (ap (λ lines. lines ++ part) whole
            ∙ grouped (whole_lines f.front) (status_line f.child.party f.status) (whole_lines f.back) part),
      );
}
  where
    grouped : (a b c d : List ℕ) → (a ++ (b ++ c)) ++ d ≡ a ++ (b ++ (c ++ d))
    grouped a b c d = simp append_assoc

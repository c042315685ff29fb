-- How the children of a session ended, and the resulting calls, lines and status.
use Rattle.std.specs.Prelude.{◌&&◌, ℕ, zero, ℤ, pos, Bool, true, false, not, List, [], ◌∷◌, ◌++◌, codes, map, Option, Some, None, Result, Ok, Err, if◌then◌else◌}
use Rattle.std.specs.List.{concat}
use Rattle.std.specs.Fmt.{decimal, signed_decimal}
use Rattle.bar_outside.specs.Code.Children.{ChildCall, Started, Waited}
use Rattle.bar_outside.specs.declared.spawner.ChildFault.{ChildFault}
use Rattle.bar_outside.specs.declared.spawner.ChildFault.TheVariants as fault
use Rattle.bar_outside.specs.declared.sink.SinkFault.{SinkFault}
use Rattle.bar_outside.specs.declared.sink.SinkFault.TheVariants as sink
use Rattle.bar_child_processes.specs.Names.{SessionNames}
use Rattle.bar_child_processes.specs.Outcomes.{code_of_fault, joined}
use Rattle.bar_child_processes.specs.Words.{words_of}

-- what happened to a line: it was printed, refused, or memory ran out; or it wasn't tried
pub data Shown : Type 0 where
  Whole : Shown
  Refused : Shown
  Wanting : Shown
  Untried : Shown

abbrev pub shown_of : Result (Unit {0}) SinkFault → Shown
shown_of (Ok done) = Whole
shown_of (Err sink.Failed) = Refused
shown_of (Err sink.NoMemory) = Wanting

-- a child that was started and waited for
pub record Child : Type 0 where
  pub party : ℕ
  -- the child's number at the spawner
  pub number : ℕ
  pub ended : Result ℤ ChildFault
  pub shown : Shown

-- ---- the calls

abbrev pub start_of : SessionNames → Child → ChildCall
start_of names child = Started (words_of names child.party) child.number

abbrev pub status_in : Result ℤ ChildFault → Option ℤ
status_in (Ok status) = Some status
status_in (Err fault) = None

abbrev pub wait_of : Child → ChildCall
wait_of child = Waited child.number (status_in child.ended)

-- all starts before the first wait, and one wait for each child
abbrev pub calls_of : SessionNames → List Child → List ChildCall
calls_of names family = map (start_of names) family ++ map wait_of family

-- ---- the lines

abbrev pub status_line : ℕ → ℤ → List ℕ
status_line party status = codes "party " ++ (decimal party ++ (codes " status " ++ (signed_decimal status ++ codes "\n")))

abbrev pub line_at : ℕ → Result ℤ ChildFault → List ℕ
line_at party (Ok status) = status_line party status
line_at party (Err fault) = []

abbrev pub line_of : Child → List ℕ
line_of child = line_at child.party child.ended

abbrev pub is_whole : Shown → Bool
is_whole Whole = true
is_whole Refused = false
is_whole Wanting = false
is_whole Untried = false

abbrev pub is_broken : Shown → Bool
is_broken Whole = false
is_broken Refused = true
is_broken Wanting = true
is_broken Untried = false

abbrev pub is_refused : Shown → Bool
is_refused Whole = false
is_refused Refused = true
is_refused Wanting = false
is_refused Untried = false

abbrev pub is_tried : Shown → Bool
is_tried Whole = true
is_tried Refused = true
is_tried Wanting = true
is_tried Untried = false

abbrev pub has_status : Result ℤ ChildFault → Bool
has_status (Ok status) = true
has_status (Err fault) = false

-- a line is tried for each child that has a status, up to the first line that is broken
abbrev pub is_in_order : Bool → List Child → Bool
is_in_order prints [] = true
is_in_order prints (child ∷ children) =
    (if prints && has_status child.ended then is_tried child.shown else not (is_tried child.shown))
    && is_in_order (prints && not (is_broken child.shown)) children

abbrev pub prints_after : Bool → List Child → Bool
prints_after prints [] = prints
prints_after prints (child ∷ children) = prints_after (prints && not (is_broken child.shown)) children

-- the lines that were printed
abbrev pub whole_line : Child → List ℕ
whole_line child = if is_whole child.shown then line_of child else []

abbrev pub whole_lines : List Child → List ℕ
whole_lines family = concat (map whole_line family)

-- the line that was printed in part
abbrev pub broken_line : Child → List ℕ
broken_line child = if is_broken child.shown then line_of child else []

abbrev pub broken_lines : List Child → List ℕ
broken_lines family = concat (map broken_line family)

-- ---- the status

abbrev pub is_zero : ℤ → Bool
is_zero (pos zero) = true
is_zero _ = false

abbrev pub code_of_wait : Result ℤ ChildFault → ℕ
code_of_wait (Ok status) = 0
code_of_wait (Err fault) = code_of_fault fault

abbrev pub code_of_shown : Shown → ℕ
code_of_shown Whole = 0
code_of_shown Refused = 7
code_of_shown Wanting = 70
code_of_shown Untried = 0

-- a status other than 0 counts if it was printed
abbrev pub code_of_end : Shown → Result ℤ ChildFault → ℕ
code_of_end Whole (Ok status) = if is_zero status then 0 else 9
code_of_end _ _ = 0

-- the status after one more child: its wait, its line, and its end
abbrev pub with_child : ℕ → Child → ℕ
with_child so_far child =
    joined (joined (joined so_far (code_of_wait child.ended)) (code_of_shown child.shown)) (code_of_end child.shown child.ended)

abbrev pub with_children : ℕ → List Child → ℕ
with_children so_far [] = so_far
with_children so_far (child ∷ children) = with_children (with_child so_far child) children

-- ---- the faults

abbrev pub is_refused_wait : Result ℤ ChildFault → Bool
is_refused_wait (Ok status) = false
is_refused_wait (Err fault.Failed) = true
is_refused_wait (Err fault.NoMemory) = false

-- the outcome so far, and whether lines are still printed
pub record ReportData : Type 0 where
  pub code : ℕ
  pub prints : Bool

-- Child programs: the calls that were made, and the effect of each call.
use Rattle.std.specs.Prelude.{◌≡◌, ◌≢◌, ◌++◌, ◌∷◌, ◌==◌, [], ℕ, ℤ, Bool, true, false, List, Option, Some, None, Result, Err, IsTrue, IfOk, OnErr}
use Rattle.std.specs.List.{list_any}
use Rattle.bar_outside.specs.Code.Causes.{HasCause}
use Rattle.bar_outside.specs.declared.spawner.ChildFault.{ChildFault}
use Rattle.bar_outside.specs.declared.spawner.ChildFault.TheVariants.{Failed}

-- a program was started with these arguments, the first of which names it; or a child was waited for and ended with this status, or with
-- none if the wait was refused
pub data ChildCall : Type 0 where
  Started : (words : List (List ℕ)) → (child : ℕ) → ChildCall
  Waited : (child : ℕ) → (status : Option ℤ) → ChildCall

-- child programs
pub record Children : Type 0 where
  -- no call fails
  pub reliable : Bool
  -- the calls in order; a refused start isn't one of them
  pub calls : List ChildCall
  pub faults : ℕ

-- ---- what the calls say about a child

abbrev pub child_of : ChildCall → ℕ
child_of (Started words child) = child
child_of (Waited child status) = child

abbrev pub starts : ℕ → ChildCall → Bool
starts child (Started words other) = other == child
starts child (Waited other status) = false

abbrev pub waits : ℕ → ChildCall → Bool
waits child (Started words other) = false
waits child (Waited other status) = other == child

abbrev pub is_started : ℕ → List ChildCall → Bool
is_started child calls = list_any (starts child) calls

abbrev pub is_waited : ℕ → List ChildCall → Bool
is_waited child calls = list_any (waits child) calls

-- some call concerns this child
abbrev pub is_named : ℕ → List ChildCall → Bool
is_named child calls = list_any (λ call. child_of call == child) calls

-- it was started, and hasn't been waited for
pub record IsRunning (child : ℕ) (calls : List ChildCall) : Type 0 where
  pub started : is_started child calls ≡ true
  pub unwaited : is_waited child calls ≡ false

-- ---- the effect of each call

-- what holds for the faults of every call
pub record Calls {T : Type 0} (old new : Children) (result : Result T ChildFault) : Type 0 where
  pub reliable : new.reliable ≡ old.reliable
  pub cause : HasCause Failed old.faults new.faults result
  pub refused : IsTrue old.reliable → result ≢ Err Failed

-- a start: its child is new, and a refused start isn't a call
pub record Starts (words : List (List ℕ)) (old new : Children) (result : Result ℕ ChildFault) : Type 0 where
  pub call : Calls old new result
  pub added : IfOk result (λ child. new.calls ≡ old.calls ++ Started words child ∷ [])
  pub new_child : IfOk result (λ child. is_named child old.calls ≡ false)
  pub left : OnErr result (new.calls ≡ old.calls)

-- a wait: a refused wait is a call, too
pub record Waits (child : ℕ) (old new : Children) (result : Result ℤ ChildFault) : Type 0 where
  pub call : Calls old new result
  pub added : IfOk result (λ status. new.calls ≡ old.calls ++ Waited child (Some status) ∷ [])
  pub refused : OnErr result (new.calls ≡ old.calls ++ Waited child None ∷ [])

-- The contract of a function that carries out a list of actions.
use Rattle.std.specs.Prelude.{◌≡◌, ℕ, ◌≤◌, List, [], Vec, Result, Ok, Err, IsTrue, IfErr, OnOk, OnErr, IsErrOf, IsSomeAnd}
use Rattle.bar_outside.specs.Code.Causes.{Rose}
use Rattle.bar_outside.specs.Disk.{Disk, Reads}
use Rattle.std.specs.declared.alloc.Global.{Global}
use Rattle.bar_outside.specs.declared.files.FileFault.{FileFault}
use Rattle.bar_outside.specs.Code.Faults.{fault_of_file, code_of_fault}
use Rattle.bar_outside.specs.declared.fault.Fault.{Fault}
use Rattle.bar_outside.specs.declared.fault.Fault.TheVariants.{File, Link, Output, NoMemory}
use Rattle.bar_outside.specs.Plan.{Outside, Action, Ran, Reached, Names, CanRun, created_after}

-- the files that these actions create are created, and those that were created before stay so
abbrev pub HasCreated : List Action → Outside → Outside → Type 0
HasCreated plan old new =
    (path : List ℕ) → IsTrue (created_after plan old.files.created_here path) → IsTrue (new.files.created_here path)

-- no fault count fell and the created files stay created; if the reads agree with the content now, they did before
pub record IsLater (old new : Outside) : Type 0 where
  pub told : IsTrue new.files.told → IsTrue old.files.told
  pub reliable : new.files.reliable ≡ old.files.reliable
  pub out_reliable : new.out.reliable ≡ old.out.reliable
  pub wire_reliable : new.wire.reliable ≡ old.wire.reliable
  pub created : HasCreated [] old new
  pub faults : old.files.faults ≤ new.files.faults
  pub out_faults : old.out.faults ≤ new.out.faults
  pub wire_faults : old.wire.faults ≤ new.wire.faults

-- the fault count of the files rose, and their last failed call is one of the plan
pub record FilesFailed (plan : List Action) (old new : Outside) : Type 0 where
  pub rose : Rose old.files.faults new.files.faults
  pub named : IsSomeAnd new.files.failed (Names plan)

-- no call fails, except for files that don't exist or weren't created
pub record IsReliable (outside : Outside) : Type 0 where
  pub files : IsTrue outside.files.reliable
  pub out : IsTrue outside.out.reliable
  pub wire : IsTrue outside.wire.reliable

-- the actions were done in order, or after an error those up to a fault
pub record Follows {T : Type 0} (plan : List Action) (old new : Outside) (result : Result T Fault) : Type 0 where
  pub later : IsLater old new
  pub file : IsErrOf result File → FilesFailed plan old new
  pub link : IsErrOf result Link → Rose old.wire.faults new.wire.faults
  pub output : IsErrOf result Output → Rose old.out.faults new.out.faults
  pub done : OnOk result (Ran plan old new)
  pub created : OnOk result (HasCreated plan old new)
  pub part : IfErr result (λ fault. Reached plan (code_of_fault fault) old new)
  pub complete : IsReliable old → CanRun plan old.files.created_here → OnErr result (result ≡ Err NoMemory)

-- a read of a file, whose fault is passed on
abbrev pub ReadsFile : List ℕ → Disk → Disk → Result (Vec ℕ Global) Fault → Type 0
ReadsFile path old new (Ok bytes) = Reads path old new (Ok bytes)
ReadsFile path old new (Err fault) = (cause : FileFault) × Reads path old new (Err cause) × (fault ≡ fault_of_file cause)

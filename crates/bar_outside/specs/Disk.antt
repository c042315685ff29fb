-- Files by name, and the effect of each call on them.
use Rattle.std.specs.Prelude.{◌≡◌, ◌≢◌, ◌⊎◌, ℕ, Bool, false, List, [], ◌++◌, ◌||◌, Option, Some, None, Result, take, length, nat_le, if◌then◌else◌, IsTrue, IfOk, OnOk, OnErr, IsErrOf, Vec, Err, IsSome}
use Rattle.std.specs.Option.{option_map, option_and_then}
use Rattle.std.specs.Map.{update}
use Rattle.std.specs.Str.{bytes_eq}
use Rattle.std.specs.declared.alloc.Global.{Global}
use Rattle.bar_outside.specs.declared.files.FileFault.{FileFault}
use Rattle.bar_outside.specs.declared.files.FileFault.TheVariants.{Failed}
use Rattle.bar_outside.specs.declared.files.CallKind.{CallKind}
use Rattle.bar_outside.specs.declared.files.CallKind.TheVariants.{Read, Create, Append}
use Rattle.bar_outside.specs.Code.Causes.{HasCause}

-- for each name the bytes of its file, or none if it doesn't exist
abbrev pub Content : Type 0
Content = List ℕ → Option (List ℕ)

-- the names of the files that were created in this run
abbrev pub CreatedFiles : Type 0
CreatedFiles = List ℕ → Bool

-- a call that failed
pub record Failure : Type 0 where
  pub kind : CallKind
  pub path : List ℕ

-- the files, given some assumed initial content
pub record Disk : Type 0 where
  -- each read so far agrees with this content
  pub told : Bool
  -- no call fails, except for a file that doesn't exist, is too large or wasn't created
  pub reliable : Bool
  pub content : Content
  pub created_here : CreatedFiles
  -- the last call that failed
  pub failed : Option Failure
  pub faults : ℕ

-- the largest size of a file that can be read, in bytes
abbrev pub largest_file : ℕ
largest_file = 1073741824

-- the bytes that a read returns: none if the file doesn't exist or is too large
abbrev pub readable : Content → List ℕ → Option (List ℕ)
readable content path = option_and_then (λ bytes. if nat_le (length bytes) largest_file then Some bytes else None) (content path)

-- the content with these bytes in the file of this name
unfoldable pub put_at : Content → List ℕ → List ℕ → Content
put_at content path bytes = update bytes_eq content path (Some bytes)

-- the content with an empty file of this name
abbrev pub created : Content → List ℕ → Content
created content path = put_at content path []

-- the content with these bytes appended to a file, if it exists
unfoldable pub appended : Content → List ℕ → List ℕ → Content
appended content path bytes = update bytes_eq content path (option_map (λ held. held ++ bytes) (content path))

-- the created files and this one
abbrev pub with_file : CreatedFiles → List ℕ → CreatedFiles
with_file here path name = bytes_eq path name || here name

-- what holds for the faults of every call
pub record Calls {T : Type 0} (kind : CallKind) (path : List ℕ) (old new : Disk) (result : Result T FileFault) : Type 0 where
  -- after a read that disagrees, this never holds again
  pub told : IsTrue new.told → IsTrue old.told
  pub reliable : new.reliable ≡ old.reliable
  pub cause : HasCause Failed old.faults new.faults result
  pub failed : IsErrOf result Failed → new.failed ≡ Some (record { kind = kind; path = path })
  pub no_fault : result ≢ Err Failed → new.failed ≡ old.failed

-- a read of a file
pub record Reads (path : List ℕ) (old new : Disk) (result : Result (Vec ℕ Global) FileFault) : Type 0 where
  pub call : Calls Read path old new result
  pub same : new.content ≡ old.content
  pub same_here : new.created_here ≡ old.created_here
  pub found : IsTrue new.told → IfOk result (λ bytes. readable old.content path ≡ Some bytes.items)
  pub refused : IsTrue old.reliable → IsErrOf result Failed → readable old.content path ≡ None

-- the creation of an empty file
pub record Creates {T : Type 0} (path : List ℕ) (old new : Disk) (result : Result T FileFault) : Type 0 where
  pub call : Calls Create path old new result
  pub made : OnOk result (new.content ≡ created old.content path)
  pub made_here : OnOk result (new.created_here ≡ with_file old.created_here path)
  pub fault : OnErr result ((new.content ≡ old.content) ⊎ (new.content ≡ created old.content path))
  pub fault_here : OnErr result (new.created_here ≡ old.created_here)
  pub refused : IsTrue old.reliable → result ≢ Err Failed

-- an append to a file that was created in this run
pub record Appends {T : Type 0} (path bytes : List ℕ) (old new : Disk) (result : Result T FileFault) : Type 0 where
  pub call : Calls Append path old new result
  pub same_here : new.created_here ≡ old.created_here
  pub here : OnOk result (IsTrue (old.created_here path))
  pub there : OnOk result (IsSome (old.content path))
  pub added : OnOk result (new.content ≡ appended old.content path bytes)
  -- a prefix of the bytes may have been appended
  pub fault : OnErr result ((k : ℕ) × (new.content ≡ appended old.content path (take k bytes)))
  -- nothing is appended to any other file
  pub left : old.created_here path ≡ false → new.content ≡ old.content
  pub refused : IsTrue old.reliable → IsErrOf result Failed → old.created_here path ≡ false

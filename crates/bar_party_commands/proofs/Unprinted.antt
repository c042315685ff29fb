-- Faults of the files and of the link occur before anything is printed.
use Rattle.std.proofs.Common.{◌≡◌, List, [], false, None, Result, Err, refl, arith, true≢false}
use Rattle.bar_outside.specs.Code.Causes.{Rose}
use Rattle.bar_outside.specs.Stream.{Stream}
use Rattle.bar_outside.specs.Wire.{no_traffic}
use Rattle.bar_outside.specs.Plan.{Action, Outside}
use Rattle.bar_outside.specs.Code.Faults.{code_of_fault}
use Rattle.bar_outside.specs.declared.fault.Fault.{Fault}
use Rattle.bar_outside.specs.declared.fault.Fault.TheVariants.{File, Link, NoMemory, Output}
use Rattle.bar_party_commands.specs.Summaries.{may_print}
use Rattle.bar_party_commands.proofs.RunFollowing.{AtOutput}

-- an outside in which nothing failed
abbrev quiet : Outside
quiet = record {
  files = record { told = false; reliable = false; content = λ path. None; created_here = λ path. false; failed = None; faults = 0 };
  out = record { reliable = false; bytes = []; faults = 0 };
  wire = record { reliable = false; traffic = no_traffic; faults = 0 };
}

-- actions on the output only fail neither by the files nor by the link
module _ {T : Type 0} (plan : List Action) (old new : Stream) (r : Result T Fault) (follows : AtOutput plan old new r) where
  pub never-file : r ≡ Err File → ⊥
  never-file e = let h : Rose 0 0 = ((follows quiet).file (rw e refl)).rose in absurd (omega arith)

  pub never-link : r ≡ Err Link → ⊥
  never-link e = let h : Rose 0 0 = (follows quiet).link (rw e refl) in absurd (omega arith)

-- if nothing was printed, the fault is one of these
pub unprinted-at : (fault : Fault) (P : Type 0) → (fault ≡ File → P) → (fault ≡ Link → P) → may_print (code_of_fault fault) ≡ false → P
unprinted-at File P h k e = h refl
unprinted-at Link P h k e = k refl
unprinted-at Output P h k e = absurd (true≢false e)
unprinted-at NoMemory P h k e = absurd (true≢false e)

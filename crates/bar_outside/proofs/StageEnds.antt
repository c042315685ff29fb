-- How a command ends at a stage.
use Rattle.std.proofs.Common.{◌≡◌, ℕ, List, Result, Ok, Err, Vec, false, sym, subst}
use Rattle.std.specs.declared.alloc.Global.{Global}
use Rattle.bar_outside.specs.Disk.{Content, Disk, Reads}
use Rattle.bar_outside.specs.Ends.{EndsWith}
use Rattle.bar_outside.specs.Plan.{Outside, Plan, is_stop, no_memory, with_files}
use Rattle.bar_outside.specs.Stages.{Stages, accepts, plan_by, refuses, stage}
use Rattle.bar_outside.proofs.Ending.{EndsWith-ending, EndsWith-memory, EndsWith-reading}

-- what was read is accepted, and the following stages ended like this; or it is refused
module _ {A E : Type 0} (r : Result A E) (others : A → Stages) (refused : E → Stages) (old new : Outside) (code : ℕ) (said : List ℕ) where
  pub EndsWith-accepts : (meant : A) → r ≡ Ok meant → EndsWith (plan_by (others meant)) old new code said →
      EndsWith (plan_by (accepts r others refused)) old new code said
  EndsWith-accepts meant is h = subst (λ r. EndsWith (plan_by (accepts r others refused)) old new code said) (sym is) h

  pub EndsWith-refuses : (fault : E) → r ≡ Err fault → EndsWith (plan_by (refused fault)) old new code said →
      EndsWith (plan_by (accepts r others refused)) old new code said
  EndsWith-refuses fault is h = subst (λ r. EndsWith (plan_by (accepts r others refused)) old new code said) (sym is) h

-- a file was read
module _ {A E : Type 0} (path : List ℕ) (meaning : List ℕ → Result A E) (status : ℕ) (line : E → List ℕ) (others : A → Stages)
    (old mid : Disk) (w : Outside) (bytes : Vec ℕ Global) (reads : Reads path old mid (Ok bytes)) where
  abbrev by-meaning : Result A E → Content → Plan
  by-meaning r = plan_by (accepts r others (λ fault. refuses status (line fault)))

  -- what was read has this meaning, and the following stages ended like this
  pub EndsWith-stage : (meant : A) (new : Outside) (code : ℕ) (said : List ℕ) → meaning bytes.items ≡ Ok meant →
      EndsWith (plan_by (others meant)) (with_files w mid) new code said →
      EndsWith (plan_by (stage path meaning status line others)) (with_files w old) new code said
  EndsWith-stage meant new code said is h =
      EndsWith-reading path (λ b. by-meaning (meaning b)) old mid w new bytes code said reads
      (subst (λ r. EndsWith (by-meaning r) (with_files w mid) new code said) (sym is) h)

  -- what was read is refused
  pub EndsWith-stage_refused : (fault : E) → is_stop status ≡ false → meaning bytes.items ≡ Err fault →
      EndsWith (plan_by (stage path meaning status line others)) (with_files w old) (with_files w mid) status (line fault)
  EndsWith-stage_refused fault go is =
      EndsWith-reading path (λ b. by-meaning (meaning b)) old mid w (with_files w mid) bytes status (line fault) reads
      (subst (λ r. EndsWith (by-meaning r) (with_files w mid) (with_files w mid) status (line fault)) (sym is)
      (EndsWith-ending status (line fault) (with_files w mid) go))

  -- memory ran out while the meaning was computed
  pub EndsWith-stage_memory :
      EndsWith (plan_by (stage path meaning status line others)) (with_files w old) (with_files w mid) 70 no_memory
  EndsWith-stage_memory =
      EndsWith-reading path (λ b. by-meaning (meaning b)) old mid w (with_files w mid) bytes 70 no_memory reads
      (EndsWith-memory (by-meaning (meaning bytes.items)) (with_files w mid))

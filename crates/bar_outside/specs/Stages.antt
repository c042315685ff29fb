-- What a command does, stage by stage, and how far it got.
use Rattle.std.specs.Prelude.{◌≡◌, ◌≢◌, ◌⊎◌, ℕ, List, [], ◌∷◌, ◌++◌, Some, Result, Ok, Err, IsSomeAnd, IsTrue, take, true, false}
use Rattle.bar_outside.specs.Code.Causes.{Rose}
use Rattle.bar_outside.specs.Disk.{Content, Failure, readable}
use Rattle.bar_outside.specs.declared.files.CallKind.TheVariants.{Read}
use Rattle.bar_outside.specs.Plan.{Action, Outside, Plan, Reached, Names, read_then, reading, ending, doing, is_stop, line_at}
use Rattle.bar_outside.specs.Plan.Action.{show}
use Rattle.bar_outside.specs.Code.Follows.{IsReliable}
use Rattle.bar_outside.specs.Ends.{Carried, UnlessStopped, SameFiles, SameTraffic, NothingPrinted}

-- The stages of a command. Either a file is read and the following stages depend on its bytes; or nothing more is read, these actions are
-- done, and the command ends with a status and a line.
pub data Stages : Type 0 where
  reads : (path : List ℕ) → (others : List ℕ → Stages) → Stages
  does : (end : Plan) → Stages

-- what was read is accepted, and the following stages depend on its meaning; or it is refused with a fault
abbrev pub accepts : {A E : Type 0} → Result A E → (A → Stages) → (E → Stages) → Stages
accepts (Ok meant) others refused = others meant
accepts (Err fault) others refused = refused fault

-- these actions are done, and then the command ends with this status and line
abbrev pub finishes : List Action → ℕ → List ℕ → Stages
finishes actions status line = does (record { actions = actions; status = status; line = line })

-- the command ends with this status and line, and does nothing more
abbrev pub refuses : ℕ → List ℕ → Stages
refuses status line = finishes [] status line

-- a file is read, and the following stages depend on the meaning of its bytes; if the bytes are refused, the command ends with this status
-- and a line for the fault
abbrev pub stage : {A E : Type 0} → List ℕ → (List ℕ → Result A E) → ℕ → (E → List ℕ) → (A → Stages) → Stages
stage path meaning status line others = reads path (λ bytes. accepts (meaning bytes) others (λ fault. refuses status (line fault)))

-- the plan of a command with these stages
abbrev pub plan_by : Stages → Content → Plan
plan_by (reads path others) content = read_then path (λ bytes. plan_by (others bytes)) content (readable content path)
plan_by (does end) content = end

-- with this content the stages lead to this end: each file that they read exists
abbrev pub ComesTo : Stages → Content → Plan → Type 0
ComesTo (reads path others) content end = (bytes : List ℕ) × (readable content path ≡ Some bytes) × ComesTo (others bytes) content end
ComesTo (does last) content end = last ≡ end

-- the file can be read, and its bytes have this meaning
pub record IsAccepted {A E : Type 0} (path : List ℕ) (meaning : List ℕ → Result A E) (content : Content) (meant : A) : Type 0 where
  pub bytes : List ℕ
  pub read : readable content path ≡ Some bytes
  pub is : meaning bytes ≡ Ok meant

-- the file can be read, and its bytes are refused with this fault
pub record IsRefused {A E : Type 0} (path : List ℕ) (meaning : List ℕ → Result A E) (content : Content) (fault : E) : Type 0 where
  pub bytes : List ℕ
  pub read : readable content path ≡ Some bytes
  pub is : meaning bytes ≡ Err fault

-- P holds for the name of each file that may be read, and Q for each end to which the stages may lead
abbrev pub EachStage : (List ℕ → Type 0) → (Plan → Type 0) → Stages → Type 0
EachStage P Q (reads path others) = P path × ((bytes : List ℕ) → EachStage P Q (others bytes))
EachStage P Q (does end) = Q end

pub record Went (plan : Plan) (old new : Outside) (status : ℕ) : Type 0 where
  pub carried : is_stop status ≡ false → Carried plan old new status
  pub part : Reached plan.actions status old new

-- no file was changed, nothing was printed or done over the link, and no write and no call of the link failed
pub record IsUnchanged (status : ℕ) (old new : Outside) : Type 0 where
  pub files : SameFiles old new
  pub out : NothingPrinted old new
  pub wire : SameTraffic old new
  pub no_link : status ≢ 6
  pub no_output : status ≢ 7

-- the file was read, and the rest of the plan got this far
pub record WentOn (path : List ℕ) (others : List ℕ → Content → Plan) (old new : Outside) (status : ℕ) : Type 0 where
  pub bytes : List ℕ
  pub read : readable old.files.content path ≡ Some bytes
  pub rest : Went (others bytes old.files.content) old new status

-- A plan that reads a file was stopped without any change, or the file has some bytes and the rest of the plan depends on them.
abbrev pub ReadsFirst : Type 0
ReadsFirst =
    (path : List ℕ) (others : List ℕ → Content → Plan) (old new : Outside) (status : ℕ) → IsTrue new.files.told →
    Went (reading path others old.files.content) old new status →
    (IsUnchanged status old new × (is_stop status ≡ true)) ⊎ WentOn path others old new status

-- If there is nothing to do, nothing is done.
abbrev pub EndsThere : Type 0
EndsThere =
    (final : ℕ) (line : List ℕ) (old new : Outside) (status : ℕ) → IsTrue new.files.told →
    Went (ending final line old.files.content) old new status → IsUnchanged status old new × UnlessStopped final status

-- no file was changed, and a prefix of this line was printed; all of it if nothing stopped the plan
pub record HasShown (line : List ℕ) (final : ℕ) (old new : Outside) (status : ℕ) : Type 0 where
  pub files : SameFiles old new
  pub wire : SameTraffic old new
  pub front : (k : ℕ) × (new.out.bytes ≡ old.out.bytes ++ take k line)
  pub whole : is_stop status ≡ false → new.out.bytes ≡ old.out.bytes ++ line
  pub ended : UnlessStopped final status

-- If a line is to be printed, a prefix of it is printed.
abbrev pub ShowsThere : Type 0
ShowsThere =
    (line : List ℕ) (final : ℕ) (said : List ℕ) (old new : Outside) (status : ℕ) → IsTrue new.files.told →
    Went (doing (show line ∷ []) final said old.files.content) old new status → HasShown line final old new status

-- A call of a plan that reads a file is this read, or the file has some bytes and the call belongs to the rest.
abbrev pub NamesFirst : Type 0
NamesFirst =
    (path : List ℕ) (others : List ℕ → Content → Plan) (content : Content) (call : Failure) →
    Names (reading path others content).actions call →
    (call ≡ record { kind = Read; path = path })
    ⊎ ((bytes : List ℕ) × (readable content path ≡ Some bytes) × Names (others bytes content).actions call)

-- Nothing was changed and the command was stopped; or all files were read, and the end to which the stages lead was carried out, or done in
-- part up to a stop.
abbrev pub Gone : Stages → Outside → Outside → ℕ → Type 0
Gone stages old new status =
    (IsUnchanged status old new × (is_stop status ≡ true))
    ⊎ ((end : Plan) × ComesTo stages old.files.content end × Went end old new status)

-- a call of a command with these stages: a read of one of its files, or a call of one of its ends
abbrev pub IsCallOf : Stages → Failure → Type 0
IsCallOf (reads path others) call = (call ≡ record { kind = Read; path = path }) ⊎ ((bytes : List ℕ) × IsCallOf (others bytes) call)
IsCallOf (does end) call = Names end.actions call

-- the command ends with the status of this end, unless memory runs out
abbrev pub EndsBy : Plan → ℕ → Type 0
EndsBy end status = (status ≡ end.status) ⊎ (status ≡ 70)

-- Properties of a command with these stages that ended with this status.
pub record GoesInOrder (stages : Stages) (old new : Outside) (status : ℕ) : Type 0 where
  -- how far it got, at every status; so a status that isn't a stop is that of the end to which the stages lead
  pub gone : Gone stages old new status
  -- the status is that of this end, unless a fault or running out of memory stops it
  pub stopped : (end : Plan) → ComesTo stages old.files.content end → UnlessStopped end.status status
  -- unless memory runs out, the status is that of this end if no fault count rose, and also if the outside is reliable
  pub without_faults : (end : Plan) → ComesTo stages old.files.content end → (Rose old.files.faults new.files.faults → ⊥) →
      (Rose old.out.faults new.out.faults → ⊥) → (Rose old.wire.faults new.wire.faults → ⊥) → EndsBy end status
  pub reliable : (end : Plan) → ComesTo stages old.files.content end → IsReliable old → EndsBy end status
  -- at 3 the last failed call is one of the stages
  pub named : status ≡ 3 → IsSomeAnd new.files.failed (IsCallOf stages)

-- the line of an end to which the stages lead is the line of its status
abbrev pub SaysItsLine : Type 0
SaysItsLine =
    (stages : Stages) (content : Content) (end : Plan) → ComesTo stages content end → is_stop end.status ≡ false →
    line_at (plan_by stages content) end.status ≡ end.line

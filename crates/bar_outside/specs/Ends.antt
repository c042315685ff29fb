-- How a command ends: its status, which part of its plan was done, and what was printed.
use Rattle.std.specs.Prelude.{◌≡◌, ◌≢◌, ◌⊎◌, ◌≤◌, ◌==◌, ◌||◌, ◌++◌, ℕ, Bool, List, IsTrue, IsSomeAnd, take, true, false}
use Rattle.bar_outside.specs.Code.Causes.{Rose}
use Rattle.bar_outside.specs.Disk.{Content}
use Rattle.bar_outside.specs.Stream.{Stream}
use Rattle.bar_outside.specs.Plan.{Outside, Plan, Ran, Reached, Names, ReadsNone, is_stop, line_at}
use Rattle.bar_outside.specs.Code.Follows.{IsLater, IsReliable}

-- the plan was carried out to its end, with its status
pub record Carried (plan : Plan) (old new : Outside) (status : ℕ) : Type 0 where
  pub is : status ≡ plan.status
  pub ran : Ran plan.actions old new

-- the plan doesn't depend on what the files hold, and reads none
pub record IsFixed (plan : Content → Plan) (content : Content) : Type 0 where
  pub same : (other : Content) → plan other ≡ plan content
  pub unread : ReadsNone (plan content).actions

-- a command whose plan depends on the initial content ended with this status
pub record Ends (plan : Content → Plan) (old new : Outside) (status : ℕ) : Type 0 where
  pub later : IsLater old new
  -- 3 is returned only if the fault count of the files rose and, if the reads agree with the content, a call of the plan failed
  pub file_rose : status ≡ 3 → Rose old.files.faults new.files.faults
  pub file_named : status ≡ 3 → IsTrue new.files.told → IsSomeAnd new.files.failed (Names (plan old.files.content).actions)
  -- 6 is returned only if the fault count of the link rose
  pub link_rose : status ≡ 6 → Rose old.wire.faults new.wire.faults
  -- 7 is returned only if the fault count of out rose
  pub output_rose : status ≡ 7 → Rose old.out.faults new.out.faults
  -- any status but 3, 6, 7 and 70 is the plan's, and all of it was done
  pub carried : IsTrue new.files.told → is_stop status ≡ false → Carried (plan old.files.content) old new status
  -- at every status a prefix of it was done, and possibly a part of the next action, where the fault occurred
  pub part : IsTrue new.files.told → Reached (plan old.files.content).actions status old new
  -- if the plan is fixed, both hold even if the reads disagree with the content
  pub fixed : IsFixed plan old.files.content → is_stop status ≡ false → Carried (plan old.files.content) old new status
  pub fixed_part : IsFixed plan old.files.content → Reached (plan old.files.content).actions status old new
  -- if the outside is reliable, the status is the plan's or 70
  pub complete : IsReliable old → IsTrue new.files.told → (status ≡ (plan old.files.content).status) ⊎ (status ≡ 70)

-- the command ended like this, and this is the line of its end
pub record EndsWith (plan : Content → Plan) (old new : Outside) (status : ℕ) (line : List ℕ) : Type 0 where
  pub ends : Ends plan old new status
  pub line_is : IsTrue (new.files.told || is_stop status) → line ≡ line_at (plan old.files.content) status
  -- if the plan is fixed, this holds even if the reads disagree with the content
  pub fixed_line : IsFixed plan old.files.content → line ≡ line_at (plan old.files.content) status

-- a line was printed, or a prefix of it if the fault count rose or memory ran out
pub record Prints (line : List ℕ) (status : ℕ) (old new : Stream) : Type 0 where
  pub later : old.faults ≤ new.faults
  pub whole : status ≢ 70 → (Rose old.faults new.faults → ⊥) → new.bytes ≡ old.bytes ++ line
  pub front : (k : ℕ) × (new.bytes ≡ old.bytes ++ take k line)

-- what a command with these lines prints on standard error: the line of its status, or a prefix of it if the fault count rose; at 70 a
-- prefix of the line of some status
pub record SaysBy (line : ℕ → List ℕ) (status : ℕ) (old new : Stream) : Type 0 where
  pub later : old.faults ≤ new.faults
  pub whole : status ≢ 70 → (Rose old.faults new.faults → ⊥) → new.bytes ≡ old.bytes ++ line status
  pub front : status ≢ 70 → (k : ℕ) × (new.bytes ≡ old.bytes ++ take k (line status))
  pub no_memory : status ≡ 70 → (k some : ℕ) × (new.bytes ≡ old.bytes ++ take k (line some))

-- the same for a command with this plan
abbrev pub Says : Plan → ℕ → Stream → Stream → Type 0
Says plan = SaysBy (line_at plan)

-- the statuses whose line doesn't depend on what the files hold
abbrev pub is_plain : ℕ → Bool
is_plain status = status == 2 || status == 3 || status == 6 || status == 7

-- ---- notation for laws on how a plan ends, for every content with which the reads agree

-- at every status
abbrev pub OfEachEnd : (Content → Plan) → (Outside → Outside → ℕ → Type 0) → Type 0
OfEachEnd plan P = (old new : Outside) (status : ℕ) → Ends plan old new status → IsTrue new.files.told → P old new status

-- at this status
abbrev pub AtEnd : ℕ → (Content → Plan) → (Outside → Outside → Type 0) → Type 0
AtEnd status plan P = (old new : Outside) → Ends plan old new status → IsTrue new.files.told → P old new

-- this status is returned, unless a fault or running out of memory stops the plan
abbrev pub UnlessStopped : ℕ → ℕ → Type 0
UnlessStopped expected status = (status ≡ expected) ⊎ (is_stop status ≡ true)

-- the content of every file is unchanged
abbrev pub SameFiles : Outside → Outside → Type 0
SameFiles old new = new.files.content ≡ old.files.content

-- nothing was done over the link
abbrev pub SameTraffic : Outside → Outside → Type 0
SameTraffic old new = new.wire.traffic ≡ old.wire.traffic

-- nothing was printed
abbrev pub NothingPrinted : Outside → Outside → Type 0
NothingPrinted old new = new.out.bytes ≡ old.out.bytes

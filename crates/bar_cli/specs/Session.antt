-- What the command `session` does.
use Rattle.std.specs.Prelude.{◌≡◌, ◌⊎◌, ◌==◌, ◌||◌, ℕ, Bool, false, List, [], ◌∷◌, ◌++◌, IsTrue, codes, if◌then◌else◌}
use Rattle.bar_outside.specs.Code.Children.{Children}
use Rattle.bar_outside.specs.Disk.{Content}
use Rattle.bar_outside.specs.Plan.{Outside, Plan, file_failed, no_memory, output_failed, with_out}
use Rattle.bar_outside.specs.Ends.{EndsWith, SameFiles}
use Rattle.bar_outside.specs.Stages.{finishes, plan_by}
use Rattle.bar_child_processes.specs.Names.{SessionNames}
use Rattle.bar_child_processes.specs.Sessions.{SessionRan}
use Rattle.bar_session.specs.SessionData.{SessionData}
use Rattle.bar_session_files.specs.Accepting.{HasSession, session_stage}

-- The session is read, and accepted or refused. What follows depends on what the children do.
abbrev pub session_plan : SessionNames → Content → Plan
session_plan names = plan_by (session_stage names.session (λ s. finishes [] 0 []))

abbrev pub child_failed : List ℕ
child_failed = codes "bar: child failed" ++ 10 ∷ []

-- the line of a status that isn't a refusal
abbrev pub line_of_end : ℕ → List ℕ
line_of_end status =
    if status == 0 then []
    else if status == 3 then file_failed
    else if status == 7 then output_failed
    else if status == 9 then child_failed
    else no_memory

-- the line of each status
abbrev pub session_line : SessionNames → Content → ℕ → List ℕ
session_line names content status = if status == 4 then (session_plan names content).line else line_of_end status

-- the statuses whose line doesn't depend on what the files hold
abbrev pub is_plain_end : ℕ → Bool
is_plain_end status = status == 0 || status == 3 || status == 7 || status == 9

-- The session wasn't read, was refused, or memory ran out: no child was started, and nothing was printed.
pub record SessionStopped (names : SessionNames) (old new : Outside) (kids kids_new : Children) (status : ℕ) (line : List ℕ) : Type 0 where
  pub ends : EndsWith (session_plan names) old new status line
  pub early : (status ≡ 3) ⊎ ((status ≡ 4) ⊎ (status ≡ 70))
  pub out : new.out ≡ old.out
  pub children : kids_new ≡ kids

-- The session is accepted, and its children were started and waited for.
pub record SessionGoes (names : SessionNames) (old new : Outside) (kids kids_new : Children) (status : ℕ) (line : List ℕ) : Type 0 where
  pub session : SessionData
  pub read : EndsWith (session_plan names) old (with_out new old.out) 0 []
  pub accepted : IsTrue new.files.told → HasSession names.session old.files.content session
  pub ran : SessionRan names session.shape.peers old.out new.out kids kids_new status
  pub late : (status == 4) ≡ false
  pub line_is : line ≡ line_of_end status

-- A session ended with this status, and no file was changed.
pub record SessionEnds (names : SessionNames) (old new : Outside) (kids kids_new : Children) (status : ℕ) (line : List ℕ) : Type 0 where
  pub files : IsTrue new.files.told → SameFiles old new
  pub ended : SessionStopped names old new kids kids_new status line ⊎ SessionGoes names old new kids kids_new status line

-- It ended like this, except that running out of memory for the line of its status makes the status 70.
pub record SessionRuns (names : SessionNames) (old new : Outside) (kids kids_new : Children) (result : ℕ) : Type 0 where
  pub status : ℕ
  pub line : List ℕ
  pub ends : SessionEnds names old new kids kids_new status line
  pub or_memory : (result ≡ status) ⊎ (result ≡ 70)

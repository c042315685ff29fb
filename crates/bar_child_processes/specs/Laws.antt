-- Properties of the status with which a session ended.
use Rattle.std.specs.Prelude.{◌≡◌, ◌≢◌, ◌+◌, ◌⊎◌, ◌++◌, ℕ, ℤ, pos, List, Ok, All, Contains, map, flat_map, IsTrue}
use Rattle.bar_outside.specs.Code.Causes.{Rose}
use Rattle.bar_outside.specs.Code.Children.{Children}
use Rattle.bar_outside.specs.Stream.{Stream}
use Rattle.bar_child_processes.specs.Family.{Child, Whole, calls_of, status_line, whole_lines}
use Rattle.bar_child_processes.specs.Names.{SessionNames}
use Rattle.bar_child_processes.specs.Sessions.{SessionRan}
use Rattle.bar_child_processes.specs.Words.{first_parties}

-- all parties: the peers from 1 on, and then the broadcaster
abbrev pub all_parties : ℕ → List ℕ
all_parties peers = first_parties peers (peers + 1)

abbrev pub HasEndedWell : Child → Type 0
HasEndedWell child = child.ended ≡ Ok (pos 0)

-- its status was printed
abbrev pub IsShown : Child → Type 0
IsShown child = (status : ℤ) × (child.ended ≡ Ok status) × (child.shown ≡ Whole)

-- one of these children ended with a status other than 0, which was printed
pub record HasFailed (family : List Child) (out_old out_new : Stream) : Type 0 where
  pub child : Child
  pub of : Contains family child
  pub status : ℤ
  pub ended : child.ended ≡ Ok status
  pub other : status ≢ pos 0
  pub printed : (front back : List ℕ) × (out_new.bytes ≡ out_old.bytes ++ (front ++ (status_line child.party status ++ back)))

-- these are the children of all parties; each was started, waited for and ended with 0, and these lines were printed
pub record AllEndedWell (names : SessionNames) (peers : ℕ) (family : List Child) (out_old out_new : Stream) (old new : Children) :
    Type 0 where
  pub parties : map (λ child. child.party) family ≡ all_parties peers
  pub calls : new.calls ≡ old.calls ++ calls_of names family
  pub ended : All HasEndedWell family
  pub lines : out_new.bytes ≡ out_old.bytes ++ flat_map (λ party. status_line party (pos 0)) (all_parties peers)

-- these are the children of all parties; the status of each was printed, and their statuses determine the session's
pub record IsToldByChildren (peers : ℕ) (family : List Child) (out_old out_new : Stream) (status : ℕ) : Type 0 where
  pub parties : map (λ child. child.party) family ≡ all_parties peers
  pub shown : All IsShown family
  pub lines : out_new.bytes ≡ out_old.bytes ++ whole_lines family
  pub told : ((status ≡ 0) × All HasEndedWell family) ⊎ ((status ≡ 9) × HasFailed family out_old out_new)

-- ---- the laws

-- 0 is returned only if all children ended with 0
abbrev pub DoneSessions : Type 0
DoneSessions = (names : SessionNames) (peers : ℕ) (out_old out_new : Stream) (old new : Children)
    (ran : SessionRan names peers out_old out_new old new 0) → AllEndedWell names peers ran.family out_old out_new old new

-- 9 is returned only if the spawner's fault count rose, or a child failed
abbrev pub FailedSessions : Type 0
FailedSessions = (names : SessionNames) (peers : ℕ) (out_old out_new : Stream) (old new : Children)
    (ran : SessionRan names peers out_old out_new old new 9) → Rose old.faults new.faults ⊎ HasFailed ran.family out_old out_new

-- 7 is returned only if the fault count of out rose
abbrev pub FailedOutputs : Type 0
FailedOutputs = (names : SessionNames) (peers : ℕ) (out_old out_new : Stream) (old new : Children) →
    SessionRan names peers out_old out_new old new 7 → Rose out_old.faults out_new.faults

-- if no call fails, the children determine the status, unless memory runs out
abbrev pub FaultlessSessions : Type 0
FaultlessSessions = (names : SessionNames) (peers : ℕ) (out_old out_new : Stream) (old new : Children) (status : ℕ)
    (ran : SessionRan names peers out_old out_new old new status) → IsTrue old.reliable → IsTrue out_old.reliable →
    (status ≡ 70) ⊎ IsToldByChildren peers ran.family out_old out_new status

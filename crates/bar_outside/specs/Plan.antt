-- What a command does to the outside: a list of actions, in order.
use Rattle.std.specs.Prelude.{◌≡◌, ◌⊎◌, ℕ, List, [], ◌∷◌, ◌++◌, IsTrue, take, Bool, Option, None, Some, Result, Ok, Err, ◌==◌, ◌||◌, if◌then◌else◌, codes}
use Rattle.bar_outside.specs.Disk.{Disk, Content, CreatedFiles, Failure, readable, created, appended, with_file}
use Rattle.bar_outside.specs.Stream.{Stream}
use Rattle.bar_outside.specs.Wire.{Arrival, Bound, Traffic, Wire, bound_to, gave_if, sent_to}
use Rattle.bar_outside.specs.declared.files.CallKind.TheVariants.{Read, Create, Append}

-- the files, the output and the link
pub record Outside : Type 0 where
  pub files : Disk
  pub out : Stream
  pub wire : Wire

abbrev pub outside : Disk → Stream → Wire → Outside
outside files out wire = record { files = files; out = out; wire = wire }

-- the same outside with other files, another output or another link

abbrev pub with_files : Outside → Disk → Outside
with_files rest files = outside files rest.out rest.wire

abbrev pub with_out : Outside → Stream → Outside
with_out rest out = outside rest.files out rest.wire

abbrev pub with_wire : Outside → Wire → Outside
with_wire rest wire = outside rest.files rest.out wire

-- a call of the link; a call to receive may get an arrival or none
pub data LinkCall : Type 0 where
  bind : (to : Bound) → LinkCall
  receive : (came : Option Arrival) → LinkCall
  send : (to : ℕ) → (bytes : List ℕ) → LinkCall

pub data Action : Type 0 where
  read : (path : List ℕ) → Action
  create : (path : List ℕ) → Action
  append : (path bytes : List ℕ) → Action
  show : (bytes : List ℕ) → Action
  link : (call : LinkCall) → Action

-- the content of the files after an action
abbrev pub content_by : Action → Content → Content
content_by (read path) content = content
content_by (create path) content = created content path
content_by (append path bytes) content = appended content path bytes
content_by (show bytes) content = content
content_by (link call) content = content

abbrev pub content_after : List Action → Content → Content
content_after [] content = content
content_after (a ∷ others) content = content_after others (content_by a content)

-- the created files after an action
abbrev pub created_by : Action → CreatedFiles → CreatedFiles
created_by (read path) here = here
created_by (create path) here = with_file here path
created_by (append path bytes) here = here
created_by (show bytes) here = here
created_by (link call) here = here

abbrev pub created_after : List Action → CreatedFiles → CreatedFiles
created_after [] here = here
created_after (a ∷ others) here = created_after others (created_by a here)

-- what an action prints
abbrev pub shown_by : Action → List ℕ
shown_by (read path) = []
shown_by (create path) = []
shown_by (append path bytes) = []
shown_by (show bytes) = bytes
shown_by (link call) = []

abbrev pub shown : List Action → List ℕ
shown [] = []
shown (a ∷ others) = shown_by a ++ shown others

-- the traffic of the link after an action

abbrev pub traffic_by_call : LinkCall → Traffic → Traffic
traffic_by_call (bind to) traffic = bound_to to traffic
traffic_by_call (receive came) traffic = gave_if came traffic
traffic_by_call (send to bytes) traffic = sent_to to bytes traffic

abbrev pub traffic_by : Action → Traffic → Traffic
traffic_by (read path) traffic = traffic
traffic_by (create path) traffic = traffic
traffic_by (append path bytes) traffic = traffic
traffic_by (show bytes) traffic = traffic
traffic_by (link call) traffic = traffic_by_call call traffic

abbrev pub traffic_after : List Action → Traffic → Traffic
traffic_after [] traffic = traffic
traffic_after (a ∷ others) traffic = traffic_after others (traffic_by a traffic)

-- exactly these actions were done between old and new
pub record Ran (done : List Action) (old new : Outside) : Type 0 where
  pub files : new.files.content ≡ content_after done old.files.content
  pub out : new.out.bytes ≡ old.out.bytes ++ shown done
  pub wire : new.wire.traffic ≡ traffic_after done old.wire.traffic

-- the action was done in part: a prefix of its bytes was written, or its file was created
abbrev pub IsPartOf : Action → Action → Type 0
IsPartOf (create path) (create same) = path ≡ same
IsPartOf (append path part) (append same whole) = (path ≡ same) × ((k : ℕ) × (part ≡ take k whole))
IsPartOf (show part) (show whole) = (k : ℕ) × (part ≡ take k whole)
IsPartOf _ _ = ⊥

-- nothing more was done, or a part of the next action
abbrev pub IsPartOfNext : List Action → List Action → Type 0
IsPartOfNext [] next = Unit {0}
IsPartOfNext (part ∷ []) (whole ∷ others) = IsPartOf part whole
IsPartOfNext _ _ = ⊥

-- what was done is a prefix of the plan, and possibly a part of the next action
pub record Begun (plan done : List Action) : Type 0 where
  pub front : List Action
  pub part : List Action
  pub rest : List Action
  pub plan_is : plan ≡ front ++ rest
  pub done_is : done ≡ front ++ part
  pub part_is : IsPartOfNext part rest

-- the next action is one of the files
abbrev pub IsFilesNext : List Action → Type 0
IsFilesNext [] = ⊥
IsFilesNext (show bytes ∷ others) = ⊥
IsFilesNext (link call ∷ others) = ⊥
IsFilesNext _ = Unit {0}

-- the next action prints
abbrev pub IsShowNext : List Action → Type 0
IsShowNext (show bytes ∷ others) = Unit {0}
IsShowNext _ = ⊥

-- the next action is a call of the link
abbrev pub IsLinkNext : List Action → Type 0
IsLinkNext (link call ∷ others) = Unit {0}
IsLinkNext _ = ⊥

-- how far a plan got that ended with this status; a fault occurs at the next action: 3 at an action on the files, 6 at a call of the link,
-- 7 at an action that prints
pub record Reached (plan : List Action) (status : ℕ) (old new : Outside) : Type 0 where
  pub done : List Action
  pub begun : Begun plan done
  pub ran : Ran done old new
  pub at_file : status ≡ 3 → IsFilesNext begun.rest
  pub at_link : status ≡ 6 → IsLinkNext begun.rest
  pub at_output : status ≡ 7 → IsShowNext begun.rest

-- the failed call is one of the plan
abbrev pub Names : List Action → Failure → Type 0
Names [] call = ⊥
Names (read path ∷ others) call = (call ≡ record { kind = Read; path = path }) ⊎ Names others call
Names (create path ∷ others) call = (call ≡ record { kind = Create; path = path }) ⊎ Names others call
Names (append path bytes ∷ others) call = (call ≡ record { kind = Append; path = path }) ⊎ Names others call
Names (show bytes ∷ others) call = Names others call
Names (link done ∷ others) call = Names others call

-- each append is to a file that has been created before
abbrev pub CanRun : List Action → CreatedFiles → Type 0
CanRun [] here = Unit {0}
CanRun (append path bytes ∷ others) here = IsTrue (here path) × CanRun others here
CanRun (a ∷ others) here = CanRun others (created_by a here)

-- the lines that are printed if the plan is stopped

abbrev pub file_failed : List ℕ
file_failed = codes "bar: file failed" ++ 10 ∷ []

abbrev pub link_failed : List ℕ
link_failed = codes "bar: link failed" ++ 10 ∷ []

abbrev pub output_failed : List ℕ
output_failed = codes "bar: output failed" ++ 10 ∷ []

abbrev pub no_memory : List ℕ
no_memory = codes "bar: no memory" ++ 10 ∷ []

-- the actions of a command in order, its status after them, and the line printed for this status
pub record Plan : Type 0 where
  pub actions : List Action
  pub status : ℕ
  pub line : List ℕ

abbrev pub before : Action → Plan → Plan
before action plan = record { actions = action ∷ plan.actions; status = plan.status; line = plan.line }

-- The plan of a command depends on what the files hold. It is built from four parts.

-- this file is read, and the rest depends on its bytes; the status is 3 if it doesn't exist or is too large
abbrev pub read_then : List ℕ → (List ℕ → Content → Plan) → Content → Option (List ℕ) → Plan
read_then path others content None = record { actions = read path ∷ []; status = 3; line = file_failed }
read_then path others content (Some bytes) = before (read path) (others bytes content)

abbrev pub reading : List ℕ → (List ℕ → Content → Plan) → Content → Plan
reading path others content = read_then path others content (readable content path)

-- if the bytes read are accepted, the rest depends on their meaning; if they are refused, the end depends on the fault
abbrev pub accepting : {A E : Type 0} → Result A E → (A → Content → Plan) → (E → Content → Plan) → Content → Plan
accepting (Ok meant) others refused = others meant
accepting (Err fault) others refused = refused fault

-- nothing more is done
abbrev pub ending : ℕ → List ℕ → Content → Plan
ending status line content = record { actions = []; status = status; line = line }

-- these actions are done, and then the command ends
abbrev pub doing : List Action → ℕ → List ℕ → Content → Plan
doing actions status line content = record { actions = actions; status = status; line = line }

-- the statuses of faults and of running out of memory
abbrev pub is_stop : ℕ → Bool
is_stop status = status == 3 || status == 6 || status == 7 || status == 70

-- the line printed for a status: that of the stop, or otherwise the plan's
abbrev pub line_at : Plan → ℕ → List ℕ
line_at plan status =
    if status == 3 then file_failed
    else if status == 6 then link_failed
    else if status == 7 then output_failed
    else if status == 70 then no_memory
    else plan.line

-- one of the actions creates this file or appends to it
abbrev pub Touches : List Action → List ℕ → Type 0
Touches [] path = ⊥
Touches (create name ∷ others) path = (path ≡ name) ⊎ Touches others path
Touches (append name bytes ∷ others) path = (path ≡ name) ⊎ Touches others path
Touches (read name ∷ others) path = Touches others path
Touches (show bytes ∷ others) path = Touches others path
Touches (link call ∷ others) path = Touches others path

-- none of the actions reads a file
abbrev pub ReadsNone : List Action → Type 0
ReadsNone [] = Unit {0}
ReadsNone (read path ∷ others) = ⊥
ReadsNone (create path ∷ others) = ReadsNone others
ReadsNone (append path bytes ∷ others) = ReadsNone others
ReadsNone (show bytes ∷ others) = ReadsNone others
ReadsNone (link call ∷ others) = ReadsNone others

-- How a command ends that runs over a link.
use Rattle.std.specs.Prelude.{◌≡◌, ◌≢◌, ℕ, List, ◌∷◌, [], ◌++◌, IsTrue, OnOk, Result, true, if◌then◌else◌}
use Rattle.std.specs.List.{AllByRecursion}
use Rattle.bar_outside.specs.Disk.{Content}
use Rattle.bar_outside.specs.Ends.{Ends, EndsWith}
use Rattle.bar_outside.specs.Code.Follows.{Follows, IsReliable}
use Rattle.bar_outside.specs.declared.fault.Fault.{Fault}
use Rattle.bar_outside.specs.Plan.{Action, Begun, Outside, Plan, Ran}
use Rattle.bar_outside.specs.Plan.Action.{append, create, link}
use Rattle.bar_outside.specs.Plan.LinkCall.{bind}
use Rattle.bar_outside.specs.Wire.{Arrival, Bound, bound_by}
use Rattle.bar_record.specs.Recording.{IsInRange}
use Rattle.bar_seeds.specs.declared.secrets.Secrets.{Secrets}
use Rattle.bar_roster.specs.KeyAnew.{text_of}
use Rattle.bar_session.specs.SessionData.{SessionData}
use Rattle.bar_core.specs.Rules.{Rules}
use Rattle.bar_node.specs.Code.Effects.{received_in}
use Rattle.bar_node.specs.Runs.{AsksToTheEnd, has_end, heard, inputs_of, is_ended}

-- The link gave exactly this: it reports these arrivals as taken, and its end if it gave it. No datagram exceeds the largest size.
pub record HasHeard (given : List Arrival) (old new : Outside) : Type 0 where
  pub taken : new.wire.traffic.taken ≡ old.wire.traffic.taken ++ heard given
  pub told_end : has_end given ≡ true → new.wire.traffic.ended ≡ true
  pub within : AllByRecursion IsInRange (inputs_of given)

-- Some actions were done in part: a prefix of them, and possibly a part of the next one. What was done received exactly what the link gave.
pub record HasReached (actions : List Action) (given : List Arrival) (old new : Outside) : Type 0 where
  pub done : List Action
  pub begun : Begun actions done
  pub received : received_in done ≡ given
  pub ran : Ran done old new

-- The link isn't asked after the end of the run: for every shorter prefix of what it gave, the plan has status 6, for a link that is asked
-- again.
abbrev pub AsksNoFurther : (List Arrival → Plan) → List Arrival → Type 0
AsksNoFurther plan given =
    (front : List Arrival) (next : Arrival) (rest : List Arrival) → given ≡ front ++ next ∷ rest → (plan front).status ≡ 6

-- A command whose plan depends on what the link gives and on what the files held ended with this status.
pub record RunEnds (plan : List Arrival → Content → Plan) (old new : Outside) (status : ℕ) : Type 0 where
  pub given : List Arrival
  pub heard : HasHeard given old new
  pub ends : Ends (plan given) old new status
  pub reached : IsTrue new.files.told → HasReached (plan given old.files.content).actions given old new
  pub asked : IsTrue new.files.told → AsksNoFurther (λ front. plan front old.files.content) given
  -- if the outside is reliable, the link never refuses a call
  pub answers : IsReliable old → status ≢ 6

-- the command ended like this, and this is the line of its end
pub record RunEndsWith (plan : List Arrival → Content → Plan) (old new : Outside) (status : ℕ) (line : List ℕ) : Type 0 where
  pub given : List Arrival
  pub heard : HasHeard given old new
  pub ends : EndsWith (plan given) old new status line
  pub reached : IsTrue new.files.told → HasReached (plan given old.files.content).actions given old new
  pub asked : IsTrue new.files.told → AsksNoFurther (λ front. plan front old.files.content) given
  -- if the outside is reliable, the link never refuses a call
  pub answers : IsReliable old → status ≢ 6

-- ---- what `peer` and `broadcaster` have in common

-- the text of a spent key
abbrev pub spent_text : SessionData → Secrets → List ℕ
spent_text s k = text_of s k true

-- the key file is replaced by the spent key
abbrev pub spending : List ℕ → SessionData → Secrets → List Action
spending key s k = create key ∷ append key (spent_text s k) ∷ []

-- what the link of a party is bound to
abbrev pub place_of : ℕ → SessionData → Secrets → Bound
place_of begin_ms s k = bound_by k.party s.port begin_ms s.tick_ms

abbrev pub binding : ℕ → SessionData → Secrets → Action
binding begin_ms s k = link (bind (place_of begin_ms s k))

-- The status of a run whose actions are all done. A run that isn't at its end asks the link again, and stops only if that call is refused.
abbrev pub status_of : Rules → List Arrival → ℕ
status_of r given = if is_ended r given then 0 else 6

-- A list of actions that depends on what the link gives was followed.
pub record RunFollows {T : Type 0} (actions : List Arrival → List Action) (r : Rules) (old new : Outside) (result : Result T Fault) : Type 0 where
  pub given : List Arrival
  pub heard : HasHeard given old new
  pub follows : Follows (actions given) old new result
  pub reached : HasReached (actions given) given old new
  pub asked : AsksToTheEnd r given
  pub ended : OnOk result (IsTrue (is_ended r given))

-- ---- notation for laws on how such a command ends, if the reads agree with the content

-- at every status
abbrev pub OfEachRun : (List Arrival → Content → Plan) → (Outside → Outside → ℕ → Type 0) → Type 0
OfEachRun plan P = (old new : Outside) (status : ℕ) → RunEnds plan old new status → IsTrue new.files.told → P old new status

-- at this status
abbrev pub AtRunEnd : ℕ → (List Arrival → Content → Plan) → (Outside → Outside → Type 0) → Type 0
AtRunEnd status plan P = (old new : Outside) → RunEnds plan old new status → IsTrue new.files.told → P old new

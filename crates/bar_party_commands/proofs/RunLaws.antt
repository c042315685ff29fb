-- Properties of every node's run that is a part of another plan and was done in whole.
use Rattle.std.proofs.Common.{◌≡◌, ◌<◌, ◌^◌, ℕ, List, [], ◌++◌, Option, IsTrue}
use Rattle.bar_outside.specs.Wire.{Arrival}
use Rattle.bar_outside.specs.Plan.{Outside, Ran}
use Rattle.bar_core.specs.Rules.{Rules}
use Rattle.bar_core.specs.Runs.{sends_over}
use Rattle.bar_node.specs.Runs.{found_after, is_ended, node_plan, taken_of}
use Rattle.bar_node.specs.Stops.{FoundBy, IsOther}
use Rattle.bar_party_commands.specs.Stands.{AreFound}

-- it has sent everything
abbrev pub WholeSent : Type 0
WholeSent =
    (recording played : Option (List ℕ)) (found : List ℕ) (r : Rules) (given : List Arrival) (old new : Outside) →
    Ran (node_plan recording played found r given) old new →
    new.wire.traffic.sent ≡ old.wire.traffic.sent ++ sends_over r [] (taken_of r given)

-- it has written what was found
abbrev pub Finds : Type 0
Finds =
    (recording played : Option (List ℕ)) (found : List ℕ) (r : Rules) (given : List Arrival) (old new : Outside) →
    Ran (node_plan recording played found r given) old new → IsTrue (is_ended r given) → r.peers < 2 ^ 64 →
    FoundBy recording played found r (taken_of r given) old.files.content new.files.content

pub found-at : Finds → (recording played : Option (List ℕ)) (found : List ℕ) (r : Rules) (given : List Arrival) (old new : Outside) →
    Ran (node_plan recording played found r given) old new → IsTrue (is_ended r given) → r.peers < 2 ^ 64 →
    AreFound found r (taken_of r given) new.files.content
found-at finds recording played found r given old new ran ended few =
    let f = finds recording played found r given old new ran ended few in
    record { table = f.table; evidence = f.evidence }

-- it changed no other file
pub others-at : Finds → (recording played : Option (List ℕ)) (found : List ℕ) (r : Rules) (given : List Arrival) (old new : Outside) →
    Ran (node_plan recording played found r given) old new → IsTrue (is_ended r given) → r.peers < 2 ^ 64 →
    (path : List ℕ) → IsOther recording played (found_after found r (taken_of r given)) path → new.files.content path ≡ old.files.content path
others-at finds recording played found r given old new ran ended few path other =
    (finds recording played found r given old new ran ended few).others path other

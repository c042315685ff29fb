-- A run that was done in part, and the position at which it was stopped.
use Rattle.std.proofs.Common.{ℕ, List, Option, Ok, Err}
use Rattle.bar_wire.specs.Inputs.{Input}
use Rattle.bar_outside.specs.Disk.{Disk}
use Rattle.bar_outside.specs.Wire.{Arrival, Wire}
use Rattle.bar_outside.specs.declared.fault.Fault.{Fault}
use Rattle.bar_outside.specs.Plan.{Outside, Ran}
use Rattle.bar_core.specs.Rules.{Rules}
use Rattle.bar_node.specs.Code.Turns.{node_layout}
use Rattle.bar_node.specs.Runs.{RanNode, behind, node_plan}
use Rattle.bar_node.specs.Stops.{HasRun}
use Rattle.bar_node.specs.declared.summary.Summary.{Summary}
use Rattle.bar_node.proofs.Doing.{beside}
use Rattle.bar_node.proofs.Receiving.{quiet-turns}
use Rattle.bar_node.proofs.Cutting.{StopAt, stop-at}

module _ (recording played : Option (List ℕ)) (found : List ℕ) (r : Rules) where
  module _ (now : List Input → Type 0) (files files_new : Disk) (wire wire_new : Wire) where
    -- a run that completed did all of its plan
    pub whole-run : (summary : Summary) (ran : RanNode recording played found r now files files_new wire wire_new (Ok summary)) →
        Ran (node_plan recording played found r ran.given) (beside files wire) (beside files_new wire_new)
    whole-run summary ran = (ran.follows (beside files wire)).done

    -- a run that was stopped did a part of its plan
    pub part-run : (fault : Fault) (ran : RanNode recording played found r now files files_new wire wire_new (Err fault)) →
        HasRun recording played found r ran.given (beside files wire) (beside files_new wire_new)
    part-run fault ran =
        let d = ran.did in
        record { done = d.done; begun = d.begun; received = d.received; ran = d.ran (beside files wire) }

  pub stopped-at : (given : List Arrival) (old new : Outside) (h : HasRun recording played found r given old new) →
      StopAt (node_layout recording played) r given (behind recording found r given) h.done
  stopped-at given old new h =
      stop-at (node_layout recording played) r (quiet-turns recording played r) (behind recording found r given) given h.done h.received
      h.begun

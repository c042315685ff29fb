-- A replay consists of the creation of the played file and a node's replay by the rules of its peer.
use Rattle.std.proofs.Common.{◌≡◌, List, [], ◌∷◌, ◌++◌, Result, Ok, Err, ap, ◌∙◌, subst}
use Rattle.bar_outside.specs.declared.fault.Fault.{Fault}
use Rattle.bar_outside.specs.Plan.{Outside}
use Rattle.bar_outside.specs.Plan.Action.{create}
use Rattle.bar_outside.specs.Code.Follows.{Follows}
use Rattle.bar_outside.proofs.Following.{followed, stopped}
use Rattle.bar_record.specs.Pacing.{paced}
use Rattle.bar_wire.specs.Inputs.{Input}
use Rattle.bar_session.specs.Time.{last_tick}
use Rattle.bar_rules.specs.Member.{Member}
use Rattle.bar_core.specs.Rules.{Rules}
use Rattle.bar_findings.specs.Findings.{Finding, findings_actions}
use Rattle.bar_node.specs.Runs.{replay_plan}
use Rattle.bar_peer.specs.Core.{peer_rules}
use Rattle.bar_cli.specs.Replay.Found.{found_by}
use Rattle.bar_cli.specs.Replay.Plan.{ReplayFiles, playing_actions, replay_actions}
use Rattle.bar_cli.specs.Code.Turns.{Turn, turns_actions, turns_from}
use Rattle.bar_cli.proofs.CoreTurns.{core-turns}

-- the played file wasn't created
pub unmade : (names : ReplayFiles) (turns : List Turn) (findings : List Finding) (old new : Outside) (fault : Fault) →
    Follows {T = Unit {0}} (create names.played ∷ []) old new (Err fault) →
    Follows {T = Unit {0}} (replay_actions names turns findings) old new (Err fault)
unmade names turns findings old new fault f =
    stopped (playing_actions names.played turns) (findings_actions findings) old new fault
    (stopped (create names.played ∷ []) (turns_actions names.played turns) old new fault f)

-- the node's plan by the rules of a peer equals the turns and the findings
plan-by_rules : (names : ReplayFiles) (me : Member) (inputs : List Input) →
    replay_plan names.played names.found (peer_rules me) inputs
    ≡ turns_actions names.played (turns_from me 1 [] (paced (last_tick me.session) inputs))
    ++ findings_actions (found_by names.found me (paced (last_tick me.session) inputs))
plan-by_rules names me inputs =
    ap (λ acts. acts ++ findings_actions (found_by names.found me (paced (last_tick me.session) inputs)))
    (core-turns names.played me [] (paced (last_tick me.session) inputs))

-- the played file was created, and the node's replay was done, possibly up to a fault
pub written-out : {T : Type 0} (names : ReplayFiles) (me : Member) (rules : Rules) (inputs : List Input) (old made new : Outside)
    (r : Result T Fault) →
    rules ≡ peer_rules me → Follows {T = Unit {0}} (create names.played ∷ []) old made (Ok tt) →
    Follows (replay_plan names.played names.found rules inputs) made new r →
    Follows (replay_actions names (turns_from me 1 [] (paced (last_tick me.session) inputs))
    (found_by names.found me (paced (last_tick me.session) inputs))) old new r
written-out names me rules inputs old made new r same first run =
    let is = ap (λ (rules : Rules). replay_plan names.played names.found rules inputs) same ∙ plan-by_rules names me inputs in
    followed (create names.played ∷ []) _ old made new tt first r
    (subst (λ acts. Follows acts made new r) is run)

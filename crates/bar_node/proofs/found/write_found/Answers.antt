use Rattle.std.proofs.Common.{◌≡◌, List, subst, ◌∙◌}
use Rattle.bar_bytes.specs.Code.Rooms.{kept_in}
use Rattle.bar_outside.specs.Plan.{with_files}
use Rattle.bar_outside.specs.Code.Follows.{Follows}
use Rattle.bar_findings.specs.Findings.{Finding, findings_actions, findings_of}
use Rattle.bar_findings.proofs.SameFindings.{findings-same}
use Rattle.bar_node.specs.Runs.{found_after}
use Rattle.bar_node.proofs.found.write_found.Goals as goal

pub returns : goal.returns
returns g c = λ taken stands w was.
    let r = (g.C.Core.face c.args.core.now).rules in
    let manifests = kept_in c.kept_manifests.result.now in
    let evidence = kept_in c.evidence_by_party.result.now in
    let shape = c.session_shape-shape in
    let same :
    findings_of c.args.found.now manifests shape.result.rounds evidence shape.result.peers ≡ found_after c.args.found.now r taken =
    (λ i. findings_of c.args.found.now manifests (shape.ensures.rounds i) evidence (shape.ensures.peers i))
    ∙ findings-same c.args.found.now (r.manifest taken) manifests r.rounds (r.evidence taken) evidence r.peers
    (c.kept_manifests.ensures.are taken stands) (λ party low high. c.evidence_by_party.ensures taken stands party)
    in
    subst (λ (findings : List Finding). Follows (findings_actions findings) (with_files w (g.F.Files.disk c.args.files.now was))
    (with_files w (g.F.Files.disk c.write_findings.new.files was)) c.write_findings.result) same
    (c.write_findings.ensures w was (c.kept_manifests.ensures.short taken stands))

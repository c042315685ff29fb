use Rattle.std.proofs.Common.{◌≡◌, ◌↔◌, ◌∙◌, ℕ, List, Option, Some, false, refl, ap, sym, subst, true≢false}
use Rattle.bar_outside.specs.Code.Children.{Children}
use Rattle.bar_outside.specs.Plan.{Outside, with_files, with_wire}
use Rattle.bar_party_commands.specs.CasterPlan.{CasterNames}
use Rattle.bar_party_commands.specs.PeerPlan.{PeerNames}
use Rattle.bar_party_commands.specs.Code.Views.{peer_view, caster_view}
use Rattle.bar_child_processes.specs.Names.{SessionNames}
use Rattle.bar_child_processes.specs.Code.Views.{names_view as family_view}
use Rattle.bar_cli.specs.Keygen.Plan.{Keygen, HasFewLeaves}
use Rattle.bar_cli.specs.Audit.Plan.{AuditFiles}
use Rattle.bar_cli.specs.Judge.Plan.{JudgeFiles}
use Rattle.bar_cli.specs.Line.{Line, peer, broadcaster, replay, keygen, audit, judge, session_run, simulate, starts_children, pack, verify}
use Rattle.bar_cli.specs.Replay.Plan.{ReplayFiles}
use Rattle.bar_cli.specs.Session.{SessionEnds}
use Rattle.bar_cli.specs.Status.{code_of_run}
use Rattle.bar_cli.specs.Code.Views.{names_view, keygen_view, audit_view, judge_view, command_view, packing_view, verify_view}
use Rattle.bar_cli.proofs.AuditRows as auditing
use Rattle.bar_cli.specs.Pack.{PackFiles}
use Rattle.bar_cli.specs.Verify.{VerifyFiles}
use Rattle.bar_cli.proofs.JudgeRows as judging
use Rattle.bar_cli.proofs.KeygenRows as making
use Rattle.bar_cli.proofs.PackRows as packing
use Rattle.bar_cli.proofs.VerifyRows as verifying
use Rattle.bar_cli.proofs.ReplayRows as replaying
use Rattle.bar_cli.proofs.RunLemmas.{few-leaves, over-no_link}
use Rattle.bar_cli.proofs.StatusLemmas.{never-linked, never-six, quiet, peer-statuses, broadcaster-statuses, replay-statuses, keygen-statuses, audit-statuses, judge-statuses, never-filed, simulate-statuses, pack-statuses, verify-statuses}
use Rattle.bar_cli.proofs.run.run_command.Goals as goal

-- the other commands are not `keygen`

peer-other : (names : PeerNames) (asked : Keygen) → ◌≡◌ {A = Line} (peer names) (keygen asked) → ⊥
peer-other names asked e = cc

broadcaster-other : (names : CasterNames) (asked : Keygen) → ◌≡◌ {A = Line} (broadcaster names) (keygen asked) → ⊥
broadcaster-other names asked e = cc

replay-other : (names : ReplayFiles) (asked : Keygen) → ◌≡◌ {A = Line} (replay names) (keygen asked) → ⊥
replay-other names asked e = cc

audit-other : (names : AuditFiles) (asked : Keygen) → ◌≡◌ {A = Line} (audit names) (keygen asked) → ⊥
audit-other names asked e = cc

judge-other : (names : JudgeFiles) (asked : Keygen) → ◌≡◌ {A = Line} (judge names) (keygen asked) → ⊥
judge-other names asked e = cc

pack-other : (names : PackFiles) (asked : Keygen) → ◌≡◌ {A = Line} (pack names) (keygen asked) → ⊥
pack-other names asked e = cc

verify-other : (names : VerifyFiles) (asked : Keygen) → ◌≡◌ {A = Line} (verify names) (keygen asked) → ⊥
verify-other names asked e = cc

session-other : (names : SessionNames) (asked : Keygen) → ◌≡◌ {A = Line} (session_run names) (keygen asked) → ⊥
session-other names asked e = cc

simulate-other : (seed : ℕ) (asked : Keygen) → ◌≡◌ {A = Line} (simulate seed) (keygen asked) → ⊥
simulate-other seed asked e = cc

same-line : (a b : Keygen) → ◌≡◌ {A = Line} (keygen a) (keygen b) → a ≡ b
same-line a b e = cc

-- a command that starts no children isn't `session`
no-session : (wanted : Option Line) (family : SessionNames) → starts_children wanted ≡ false → wanted ≡ Some (session_run family) → ⊥
no-session wanted family none is = true≢false (sym (ap starts_children is) ∙ none)

same-session : (a b : SessionNames) → ◌≡◌ {A = Option Line} (Some (session_run a)) (Some (session_run b)) → a ≡ b
same-session a b e = cc

ends-same : (a b : SessionNames) (old new : Outside) (kids kids_new : Children) (code : ℕ) (line : List ℕ) →
    SessionEnds a old new kids kids_new code line → ◌≡◌ {A = Option Line} (Some (session_run a)) (Some (session_run b)) →
    SessionEnds b old new kids kids_new code line
ends-same a b old new kids kids_new code line ends is =
    subst (λ (names : SessionNames). SessionEnds names old new kids kids_new code line) (same-session a b is) ends

-- `peer`

pub returns-in-Peer-clause-ran : goal.returns-in-Peer-clause-ran
returns-in-Peer-clause-ran g c = λ was.
    rw (c.in-Peer.is, c.status_of_live.ensures.code, c.status_of_live.ensures.line) (record {
      ends = λ plan. c.peer.ensures.ends was;
      statuses = peer-statuses (peer_view c.in-Peer.names) c.peer.result c.peer.ensures.answers;
      unprinted = c.peer.ensures.unprinted;
      unread = λ alone. absurd (true≢false (sym alone));
      unlinked = λ none. absurd (true≢false none);
      session = λ family is. absurd (no-session _ family refl is);
      childless = λ none. refl;
    })

pub returns-in-Peer-clause-leaves : goal.returns-in-Peer-clause-leaves
returns-in-Peer-clause-leaves g c =
    λ asked is. absurd (peer-other (peer_view c.in-Peer.names) asked (sym (ap command_view c.in-Peer.is) ∙ is))

-- `broadcaster`

pub returns-in-Broadcaster-clause-ran : goal.returns-in-Broadcaster-clause-ran
returns-in-Broadcaster-clause-ran g c = λ was.
    rw (c.in-Broadcaster.is, c.status_of_live-in-Broadcaster.ensures.code, c.status_of_live-in-Broadcaster.ensures.line) (record {
      ends = λ plan. c.broadcaster.ensures.ends was;
      statuses = broadcaster-statuses (caster_view c.in-Broadcaster.names) c.broadcaster.result;
      unprinted = c.broadcaster.ensures.unprinted;
      unread = λ alone. absurd (true≢false (sym alone));
      unlinked = λ none. absurd (true≢false none);
      session = λ family is. absurd (no-session _ family refl is);
      childless = λ none. refl;
    })

pub returns-in-Broadcaster-clause-leaves : goal.returns-in-Broadcaster-clause-leaves
returns-in-Broadcaster-clause-leaves g c =
    λ asked is. absurd (broadcaster-other (caster_view c.in-Broadcaster.names) asked (sym (ap command_view c.in-Broadcaster.is) ∙ is))

-- `replay`

pub returns-in-Replay-clause-ran : goal.returns-in-Replay-clause-ran
returns-in-Replay-clause-ran g c = λ was.
    rw (c.in-Replay.is, c.status_of.ensures.code, c.status_of.ensures.line) (record {
      ends = λ plan.
          over-no_link _ _ _ _ _ (g.L.Link.wire c.args.link.now) _ _ (replaying.unlinked-plan (names_view c.in-Replay.names))
          (never-six _ _ _ _ _ refl refl (c.replay.ensures.ends quiet was))
          (c.replay.ensures.ends (with_wire quiet (g.L.Link.wire c.args.link.now)) was);
      statuses =
          replay-statuses (names_view c.in-Replay.names) c.replay.result c.replay.ensures.answers
          (never-linked _ _ _ _ _ refl refl (c.replay.ensures.ends quiet was));
      unprinted = c.replay.ensures.unprinted;
      unread = λ alone. absurd (true≢false (sym alone));
      unlinked = λ none. refl;
      session = λ family is. absurd (no-session _ family refl is);
      childless = λ none. refl;
    })

pub returns-in-Replay-clause-leaves : goal.returns-in-Replay-clause-leaves
returns-in-Replay-clause-leaves g c =
    λ asked is. absurd (replay-other (names_view c.in-Replay.names) asked (sym (ap command_view c.in-Replay.is) ∙ is))

-- `keygen`

pub returns-in-Keygen-clause-ran : goal.returns-in-Keygen-clause-ran
returns-in-Keygen-clause-ran g c = λ was.
    rw (c.in-Keygen.is, c.status_of-in-Keygen.ensures.code, c.status_of-in-Keygen.ensures.line) (record {
      ends = λ plan.
          over-no_link _ _ _ _ _ (g.L.Link.wire c.args.link.now) _ _ (making.unlinked-plan (keygen_view c.in-Keygen.asked))
          (never-six _ _ _ _ _ refl refl (c.keygen.ensures.ends quiet was))
          (c.keygen.ensures.ends (with_wire quiet (g.L.Link.wire c.args.link.now)) was);
      statuses =
          keygen-statuses (keygen_view c.in-Keygen.asked) c.keygen.result c.keygen.ensures.answers
          (never-linked _ _ _ _ _ refl refl (c.keygen.ensures.ends quiet was));
      unprinted = c.keygen.ensures.unprinted;
      unread = λ few. c.keygen.ensures.unread was (few-leaves _ few);
      unlinked = λ none. refl;
      session = λ family is. absurd (no-session _ family refl is);
      childless = λ none. refl;
    })

pub returns-in-Keygen-clause-leaves : goal.returns-in-Keygen-clause-leaves
returns-in-Keygen-clause-leaves g c = λ asked is.
    let same : keygen_view c.in-Keygen.asked ≡ asked = same-line _ _ (sym (ap command_view c.in-Keygen.is) ∙ is) in
    rw c.status_of-in-Keygen.ensures.code
    (subst (λ (a : Keygen). (code_of_run c.keygen.result ≡ 4) ↔ HasFewLeaves a) same c.keygen.ensures.leaves)

-- `audit`

pub returns-in-Audit-clause-ran : goal.returns-in-Audit-clause-ran
returns-in-Audit-clause-ran g c = λ was.
    rw (c.in-Audit.is, c.status_of-in-Audit.ensures.code, c.status_of-in-Audit.ensures.line) (record {
      ends = λ plan.
          over-no_link _ _ _ _ _ (g.L.Link.wire c.args.link.now) _ _ (auditing.unlinked-plan (audit_view c.in-Audit.names))
          (never-six _ _ _ _ _ refl refl (c.audit.ensures.ends quiet was))
          (c.audit.ensures.ends (with_wire quiet (g.L.Link.wire c.args.link.now)) was);
      statuses =
          audit-statuses (audit_view c.in-Audit.names) c.audit.result c.audit.ensures.answers
          (never-linked _ _ _ _ _ refl refl (c.audit.ensures.ends quiet was));
      unprinted = c.audit.ensures.unprinted;
      unread = λ alone. absurd (true≢false (sym alone));
      unlinked = λ none. refl;
      session = λ family is. absurd (no-session _ family refl is);
      childless = λ none. refl;
    })

pub returns-in-Audit-clause-leaves : goal.returns-in-Audit-clause-leaves
returns-in-Audit-clause-leaves g c =
    λ asked is. absurd (audit-other (audit_view c.in-Audit.names) asked (sym (ap command_view c.in-Audit.is) ∙ is))

-- `judge`

pub returns-in-Judge-clause-ran : goal.returns-in-Judge-clause-ran
returns-in-Judge-clause-ran g c = λ was.
    rw (c.in-Judge.is, c.status_of-in-Judge.ensures.code, c.status_of-in-Judge.ensures.line) (record {
      ends = λ plan.
          over-no_link _ _ _ _ _ (g.L.Link.wire c.args.link.now) _ _ (judging.unlinked-plan (judge_view c.in-Judge.names))
          (never-six _ _ _ _ _ refl refl (c.judge.ensures.ends quiet was))
          (c.judge.ensures.ends (with_wire quiet (g.L.Link.wire c.args.link.now)) was);
      statuses =
          judge-statuses (judge_view c.in-Judge.names) c.judge.result c.judge.ensures.answers
          (never-linked _ _ _ _ _ refl refl (c.judge.ensures.ends quiet was));
      unprinted = c.judge.ensures.unprinted;
      unread = λ alone. absurd (true≢false (sym alone));
      unlinked = λ none. refl;
      session = λ family is. absurd (no-session _ family refl is);
      childless = λ none. refl;
    })

pub returns-in-Judge-clause-leaves : goal.returns-in-Judge-clause-leaves
returns-in-Judge-clause-leaves g c =
    λ asked is. absurd (judge-other (judge_view c.in-Judge.names) asked (sym (ap command_view c.in-Judge.is) ∙ is))

-- `pack`

pub returns-in-Pack-clause-ran : goal.returns-in-Pack-clause-ran
returns-in-Pack-clause-ran g c = λ was.
    rw (c.in-Pack.is, c.status_of-in-Pack.ensures.code, c.status_of-in-Pack.ensures.line) (record {
      ends = λ plan.
          over-no_link _ _ _ _ _ (g.L.Link.wire c.args.link.now) _ _ (packing.unlinked-plan (packing_view c.in-Pack.names))
          (never-six _ _ _ _ _ refl refl (c.pack.ensures.ends quiet was))
          (c.pack.ensures.ends (with_wire quiet (g.L.Link.wire c.args.link.now)) was);
      statuses =
          pack-statuses (packing_view c.in-Pack.names) c.pack.result c.pack.ensures.answers
          (never-linked _ _ _ _ _ refl refl (c.pack.ensures.ends quiet was));
      unprinted = c.pack.ensures.unprinted;
      unread = λ alone. absurd (true≢false (sym alone));
      unlinked = λ none. refl;
      session = λ family is. absurd (no-session _ family refl is);
      childless = λ none. refl;
    })

pub returns-in-Pack-clause-leaves : goal.returns-in-Pack-clause-leaves
returns-in-Pack-clause-leaves g c =
    λ asked is. absurd (pack-other (packing_view c.in-Pack.names) asked (sym (ap command_view c.in-Pack.is) ∙ is))

-- `verify`

pub returns-in-Verify-clause-ran : goal.returns-in-Verify-clause-ran
returns-in-Verify-clause-ran g c = λ was.
    rw (c.in-Verify.is, c.status_of-in-Verify.ensures.code, c.status_of-in-Verify.ensures.line) (record {
      ends = λ plan.
          over-no_link _ _ _ _ _ (g.L.Link.wire c.args.link.now) _ _ (verifying.unlinked-plan (verify_view c.in-Verify.names))
          (never-six _ _ _ _ _ refl refl (c.verify.ensures.ends quiet was))
          (c.verify.ensures.ends (with_wire quiet (g.L.Link.wire c.args.link.now)) was);
      statuses =
          verify-statuses (verify_view c.in-Verify.names) c.verify.result c.verify.ensures.answers
          (never-linked _ _ _ _ _ refl refl (c.verify.ensures.ends quiet was));
      unprinted = c.verify.ensures.unprinted;
      unread = λ alone. absurd (true≢false (sym alone));
      unlinked = λ none. refl;
      session = λ family is. absurd (no-session _ family refl is);
      childless = λ none. refl;
    })

pub returns-in-Verify-clause-leaves : goal.returns-in-Verify-clause-leaves
returns-in-Verify-clause-leaves g c =
    λ asked is. absurd (verify-other (verify_view c.in-Verify.names) asked (sym (ap command_view c.in-Verify.is) ∙ is))

-- `session`

pub returns-in-Session-clause-ran : goal.returns-in-Session-clause-ran
returns-in-Session-clause-ran g c = λ was.
    rw (c.in-Session.is, c.status_of-in-Session.ensures.code, c.status_of-in-Session.ensures.line) (record {
      ends = λ plan. absurd (true≢false (sym plan));
      statuses = c.session.ensures.statuses;
      unprinted = c.session.ensures.unprinted;
      unread = λ alone. absurd (true≢false (sym alone));
      unlinked = λ none. refl;
      session = λ family is.
          ends-same (family_view c.in-Session.names) family _ _ _ _ _ _
          (c.session.ensures.ends (with_wire quiet (g.L.Link.wire c.args.link.now)) was) is;
      childless = λ none. absurd (true≢false none);
    })

pub returns-in-Session-clause-leaves : goal.returns-in-Session-clause-leaves
returns-in-Session-clause-leaves g c =
    λ asked is. absurd (session-other (family_view c.in-Session.names) asked (sym (ap command_view c.in-Session.is) ∙ is))

-- `simulate`

pub returns-in-Simulate-clause-ran : goal.returns-in-Simulate-clause-ran
returns-in-Simulate-clause-ran g c = λ was.
    rw (c.in-Simulate.is, c.status_of-in-Simulate.ensures.code, c.status_of-in-Simulate.ensures.line) (record {
      ends = λ plan.
          over-no_link _ _ _ _ _ (g.L.Link.wire c.args.link.now) _ _ (λ content. tt)
          (never-six _ _ _ _ _ refl refl (c.simulate_seed.ensures.ends quiet))
          (c.simulate_seed.ensures.ends (with_files (with_wire quiet (g.L.Link.wire c.args.link.now)) (g.F.Files.disk c.args.files.now was)));
      statuses =
          simulate-statuses c.in-Simulate.seed c.simulate_seed.result c.simulate_seed.ensures.answers
          (never-filed _ _ _ _ _ refl refl (c.simulate_seed.ensures.ends quiet))
          (never-linked _ _ _ _ _ refl refl (c.simulate_seed.ensures.ends quiet));
      unprinted = c.simulate_seed.ensures.unprinted;
      unread = λ alone. refl;
      unlinked = λ none. refl;
      session = λ family is. absurd (no-session _ family refl is);
      childless = λ none. refl;
    })

pub returns-in-Simulate-clause-leaves : goal.returns-in-Simulate-clause-leaves
returns-in-Simulate-clause-leaves g c =
    λ asked is. absurd (simulate-other c.in-Simulate.seed asked (sym (ap command_view c.in-Simulate.is) ∙ is))

-- The commands that values of the code represent.
use Rattle.std.specs.Prelude.{ℕ}
use Rattle.bar_child_processes.specs.Code.Views as children
use Rattle.bar_child_processes.specs.declared.session_names.SessionNames.{SessionNames}
use Rattle.bar_party_commands.specs.Code.Views as live
use Rattle.bar_party_commands.specs.declared.caster_names.CasterNames.{CasterNames}
use Rattle.bar_party_commands.specs.declared.peer_names.PeerNames.{PeerNames}
use Rattle.bar_cli.specs.declared.replay.names.ReplayNames.{ReplayNames}
use Rattle.bar_cli.specs.declared.keygen.words.KeygenWords.{KeygenWords}
use Rattle.bar_cli.specs.declared.audit.names.AuditNames.{AuditNames}
use Rattle.bar_cli.specs.declared.judge.names.JudgeNames.{JudgeNames}
use Rattle.bar_cli.specs.declared.pack.names.PackNames.{PackNames}
use Rattle.bar_cli.specs.declared.verify.names.VerifyNames.{VerifyNames}
use Rattle.bar_cli.specs.declared.line.Command.{Command}
use Rattle.bar_cli.specs.declared.line.Command.TheVariants.{Peer, Broadcaster, Replay, Keygen, Audit, Judge, Session, Simulate, Pack, Verify}
use Rattle.bar_cli.specs.Replay.Plan.{ReplayFiles}
use Rattle.bar_cli.specs.Keygen.Plan as plan
use Rattle.bar_cli.specs.Audit.Plan.{AuditFiles}
use Rattle.bar_cli.specs.Judge.Plan.{JudgeFiles}
use Rattle.bar_cli.specs.Line.{Line, peer, broadcaster, replay, keygen, audit, judge, session_run, simulate, pack, verify}
use Rattle.bar_cli.specs.Pack.{PackFiles}
use Rattle.bar_cli.specs.Verify.{VerifyFiles}

abbrev pub names_view : ReplayNames → ReplayFiles
names_view names =
    record {
      session = names.session.now;
      key = names.key.now;
      recording = names.recording.now;
      played = names.played.now;
      found = names.found.now;
    }

abbrev pub keygen_view : KeygenWords → plan.Keygen
keygen_view asked =
    record {
      party = asked.party;
      id = asked.id;
      rounds = asked.rounds;
      top = asked.types.top;
      params = asked.types.params;
      secret = asked.secret.now;
      key = asked.key.now;
    }

abbrev pub audit_view : AuditNames → AuditFiles
audit_view names =
    record { session = names.session.now; results = names.results.now; first = names.first; last = names.last }

abbrev pub judge_view : JudgeNames → JudgeFiles
judge_view names = record { session = names.session.now; table = names.table.now; evidence = names.evidence.now }

abbrev pub packing_view : PackNames → PackFiles
packing_view names =
    record {
      session = names.session.now;
      table = names.table.now;
      evidence = names.evidence.now;
      proof = names.proof.now;
    }

abbrev pub verify_view : VerifyNames → VerifyFiles
verify_view names = record { session = names.session.now; proof = names.proof.now }

abbrev pub peer_view : PeerNames → Line
peer_view names = peer (live.peer_view names)

abbrev pub broadcaster_view : CasterNames → Line
broadcaster_view names = broadcaster (live.caster_view names)

abbrev pub replay_view : ReplayNames → Line
replay_view names = replay (names_view names)

abbrev pub asked_view : KeygenWords → Line
asked_view asked = keygen (keygen_view asked)

abbrev pub audited_view : AuditNames → Line
audited_view names = audit (audit_view names)

abbrev pub judged_view : JudgeNames → Line
judged_view names = judge (judge_view names)

abbrev pub packed_view : PackNames → Line
packed_view names = pack (packing_view names)

abbrev pub verified_view : VerifyNames → Line
verified_view names = verify (verify_view names)

abbrev pub session_view : SessionNames → Line
session_view names = session_run (children.names_view names)

abbrev pub seed_view : ℕ → Line
seed_view seed = simulate seed

abbrev pub command_view : Command → Line
command_view (Peer names) = peer_view names
command_view (Broadcaster names) = broadcaster_view names
command_view (Replay names) = replay_view names
command_view (Keygen asked) = asked_view asked
command_view (Audit names) = audited_view names
command_view (Judge names) = judged_view names
command_view (Pack names) = packed_view names
command_view (Verify names) = verified_view names
command_view (Session names) = session_view names
command_view (Simulate seed) = seed_view seed

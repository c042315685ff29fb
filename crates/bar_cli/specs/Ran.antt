-- The contract of `bar_run`: what was done, what holds by the rules over these inputs, and what was printed on standard error.
use Rattle.std.specs.Prelude.{◌≡◌, ◌≤◌, ◌⊎◌, ◌||◌, ℕ, Contains, List, [], Option, None, Some, true, false, IsTrue}
use Rattle.bar_outside.specs.Code.Children.{Children}
use Rattle.bar_outside.specs.Disk.{Disk}
use Rattle.bar_outside.specs.Ends.{Says, SaysBy, is_plain}
use Rattle.bar_outside.specs.Plan.{Outside}
use Rattle.bar_outside.specs.Stages.{HasShown}
use Rattle.bar_outside.specs.Stream.{Stream}
use Rattle.bar_child_processes.specs.Names.{SessionNames}
use Rattle.bar_world.specs.Ends.{sim_end}
use Rattle.bar_party_commands.specs.CasterPlan.{CasterNames}
use Rattle.bar_party_commands.specs.CasterStands as caster
use Rattle.bar_party_commands.specs.PeerPlan.{PeerNames}
use Rattle.bar_party_commands.specs.PeerStands as peer
use Rattle.bar_party_commands.specs.Running.{RunEnds, RunEndsWith}
use Rattle.bar_cli.specs.Audit.Audited.{AuditStays, HasAudited}
use Rattle.bar_cli.specs.Audit.Plan.{AuditFiles}
use Rattle.bar_cli.specs.Headline.{PeerHeadline, ReplayHeadline, SendsByTheRules}
use Rattle.bar_cli.specs.Judge.Plan.{HasJudged, JudgeFiles}
use Rattle.bar_cli.specs.Keygen.Plan.{HasFewLeaves, Keygen, KeyMade}
use Rattle.bar_cli.specs.Line.{Line, has_plan, is_status_of, may_print, plan_of, reads_nothing, starts_children, uses_link}
use Rattle.bar_cli.specs.Line as line
use Rattle.bar_cli.specs.Pack.{PackFiles, PackStands}
use Rattle.bar_cli.specs.Replay.Plan.{ReplayFiles, Replayed}
use Rattle.bar_cli.specs.Session.{SessionEnds, SessionRuns, is_plain_end, session_line}
use Rattle.bar_cli.specs.Simulate.{simulation_text}
use Rattle.bar_cli.specs.Verify.{VerifyFiles, VerifyStands}

-- What was done for this command line, or for arguments that aren't one, at this status: the meaning of the status, and what was read,
-- written, printed, sent over the link and started.
pub record WasDone (wanted : Option Line) (old new : Outside) (kids kids_new : Children) (status : ℕ) : Type 0 where
  -- 2 is returned if and only if the arguments aren't a valid command line, unless memory runs out
  pub usage : status ≡ 2 → wanted ≡ None
  pub no_line : wanted ≡ None → (status ≡ 2) ⊎ (status ≡ 70)
  -- no other status is returned
  pub statuses : IsTrue (is_status_of wanted status)
  -- what was done, and what the status means
  pub ends : has_plan wanted ≡ true → RunEnds (plan_of wanted) old new status
  -- what `session` does, and what the status means: its text is accepted, its children are started and waited for, each status is printed,
  -- and no file is changed
  pub session_runs : (names : SessionNames) → wanted ≡ Some (line.session_run names) → SessionRuns names old new kids kids_new status
  -- only `session` starts children
  pub childless : starts_children wanted ≡ false → kids_new ≡ kids
  -- `keygen` returns 4 if and only if there are too few leaves, unless memory runs out; this doesn't depend on the reads
  pub few_leaves : (asked : Keygen) → wanted ≡ Some (line.keygen asked) → status ≡ 4 → HasFewLeaves asked
  pub leaves_refused : (asked : Keygen) → wanted ≡ Some (line.keygen asked) → HasFewLeaves asked → (status ≡ 4) ⊎ (status ≡ 70)
  -- nothing is printed if the arguments aren't a valid command line, or at a status at which the command may not print
  pub unprinted : may_print wanted status ≡ false → new.out ≡ old.out
  -- files are left alone if the arguments aren't a valid command line, by `simulate`, and by `keygen` if there are too few leaves
  pub unread : reads_nothing wanted ≡ true → new.files ≡ old.files
  -- only `peer` and `broadcaster` use the link
  pub unlinked : uses_link wanted ≡ false → new.wire ≡ old.wire
  -- the link of a peer is unchanged and the status isn't 0; or it is bound to the key's party, and the key is spent
  pub peer_bound : (names : PeerNames) → wanted ≡ Some (line.peer names) → IsTrue new.files.told → peer.IsBoundOrUnused names old new status
  -- a peer changes only its own files
  pub peer_files : (names : PeerNames) → wanted ≡ Some (line.peer names) → IsTrue new.files.told → (path : List ℕ) →
      (peer.IsPeerFile names path → ⊥) → new.files.content path ≡ old.files.content path
  -- the link of a broadcaster is unchanged and the status isn't 0; or it is bound to party 0, and the key is spent
  pub broadcaster_bound : (names : CasterNames) → wanted ≡ Some (line.broadcaster names) → IsTrue new.files.told →
      caster.IsBoundOrUnused names old new status
  -- a broadcaster changes only its own files
  pub broadcaster_files : (names : CasterNames) → wanted ≡ Some (line.broadcaster names) → IsTrue new.files.told → (path : List ℕ) →
      (caster.IsCasterFile names path → ⊥) → new.files.content path ≡ old.files.content path
  -- if a key was made, its file was written and its lines were printed
  pub key_made : (asked : Keygen) → wanted ≡ Some (line.keygen asked) → IsTrue new.files.told → status ≡ 0 → KeyMade asked old new
  -- at every status, `judge` changes no file
  pub only_reads : (names : JudgeFiles) → wanted ≡ Some (line.judge names) → IsTrue new.files.told → new.files.content ≡ old.files.content

-- What holds by the rules over these inputs, for the same command line and the same status.
pub record ByTheRules (wanted : Option Line) (old new : Outside) (status : ℕ) : Type 0 where
  -- a peer that ends with 0 took what the link gave up to its end or the last tick; it sent, played and recorded exactly what the rules
  -- require over these inputs, paced, and it wrote and printed what it found
  pub peer_done : (names : PeerNames) → wanted ≡ Some (line.peer names) → IsTrue new.files.told → status ≡ 0 → peer.PeerDone names old new
  -- how far a peer got, at every status: nothing was changed, or its files are begun, or its run was done up to an input
  pub peer_stands : (names : PeerNames) → wanted ≡ Some (line.peer names) → IsTrue new.files.told → peer.PeerStands names old new
  -- At every status, a peer did nothing over the link and the status isn't 0; or what it sent is a prefix of what the rules send over the
  -- inputs that it took, and all of it at 0. At each moment, each datagram is signed by rule, its exchanges balance, and its keys go to
  -- partners. Bad keys leave evidence, and all evidence that it keeps shows a fault. Nobody frames it under a table that agrees with its
  -- own, and no leaf signs twice.
  pub peer_headline : (names : PeerNames) → wanted ≡ Some (line.peer names) → IsTrue new.files.told → PeerHeadline names old new status
  -- a broadcaster that ends with 0 took what the link gave up to its end or the last tick; it sent exactly what the rules require over
  -- these inputs, paced, and it wrote and printed what it found
  pub broadcaster_done : (names : CasterNames) → wanted ≡ Some (line.broadcaster names) → IsTrue new.files.told → status ≡ 0 →
      caster.CasterDone names old new
  -- how far a broadcaster got, at every status
  pub broadcaster_stands : (names : CasterNames) → wanted ≡ Some (line.broadcaster names) → IsTrue new.files.told →
      caster.CasterStands names old new
  -- a replay that ends with 0 has played and shown exactly what the rules of its peer play and send over the recording's inputs, paced, and
  -- written what the peer found
  pub headline : (names : ReplayFiles) → wanted ≡ Some (line.replay names) → IsTrue new.files.told → status ≡ 0 → Replayed names old new
  -- it sends exactly the datagrams of the rules
  pub sends : (names : ReplayFiles) → wanted ≡ Some (line.replay names) → IsTrue new.files.told → status ≡ 0 → SendsByTheRules names old new
  -- At every status, a replay printed nothing, or a prefix of the transcript up to one place of its recording. Whatever the recording's
  -- inputs are, at each moment each datagram is signed by rule, exchanges balance, and keys go to partners. Bad keys leave evidence, and
  -- all evidence shows a fault. Nobody frames the peer under a table that agrees with its own, and no leaf signs twice.
  pub replay_headline : (names : ReplayFiles) → wanted ≡ Some (line.replay names) → IsTrue new.files.told →
      ReplayHeadline names old new status
  -- an audit that ends with 0 or 1 has printed a line for each recorded exchange, in order, and then that all are balanced (0), or the
  -- first that isn't (1); at 0 each party whose key was received holds its partner's briefcase, by whose terms both sides promise equally
  -- many items
  pub audited : (names : AuditFiles) → wanted ≡ Some (line.audit names) → IsTrue new.files.told → (status ≡ 0) ⊎ (status ≡ 1) →
      HasAudited names status old new
  -- at every status, an audit changes no file, and it reports no exchange of obedient parties as unbalanced
  pub audit_stays : (names : AuditFiles) → wanted ≡ Some (line.audit names) → IsTrue new.files.told → AuditStays names old new status
  -- a judge that ends with 0 or 1 has printed the line of the rules' verdict on its files: a fault is shown at 0, and none at 1
  pub judged : (names : JudgeFiles) → wanted ≡ Some (line.judge names) → IsTrue new.files.told → (status ≡ 0) ⊎ (status ≡ 1) →
      HasJudged names status old new
  -- at every status of `pack`: at 0 the proof file contains exactly what is packed and its length was printed; at 1 the reason was printed
  -- why no fault is shown; only the proof file may be changed, and only if a fault is shown
  pub packed : (names : PackFiles) → wanted ≡ Some (line.pack names) → IsTrue new.files.told → PackStands names old new status
  -- at every status of `verify`: at 0 and 1 the line of the rules' verdict on the proof file under its own table was printed, with a fault
  -- at 0 and none at 1; no file is changed
  pub verified : (names : VerifyFiles) → wanted ≡ Some (line.verify names) → IsTrue new.files.told → VerifyStands names old new status
  -- a simulation prints how the simulation of its seed ends, and all of it if the status is 0; nothing else is done
  pub simulated : (seed : ℕ) → wanted ≡ Some (line.simulate seed) → HasShown (simulation_text seed) 0 old new status
  -- in the simulation of any seed, no peer that keeps the rules is evicted
  pub spared : (seed peer : ℕ) → 1 ≤ peer → peer ≤ 4 → Contains (sim_end seed).evicted peer → ⊥

-- What was printed on standard error.
pub record WasSaid (wanted : Option Line) (files files_new : Disk) (err err_new : Stream) (status : ℕ) : Type 0 where
  -- the line of a status doesn't depend on what the link gives
  pub said : has_plan wanted ≡ true → IsTrue (files_new.told || is_plain status || reads_nothing wanted) →
      Says (plan_of wanted [] files.content) status err err_new
  -- nothing is printed on standard error at 0 and 1
  pub silent : (status ≡ 0) ⊎ (status ≡ 1) → err_new ≡ err
  -- what `session` prints on standard error
  pub session_said : (names : SessionNames) → wanted ≡ Some (line.session_run names) → IsTrue (files_new.told || is_plain_end status) →
      SaysBy (session_line names files.content) status err err_new

-- What was done before the line of a status is printed; running out of memory may still change the status.
pub record CommandRan (wanted : Option Line) (old new : Outside) (kids kids_new : Children) (status : ℕ) (said : List ℕ) : Type 0 where
  pub ends : has_plan wanted ≡ true → RunEndsWith (plan_of wanted) old new status said
  pub statuses : IsTrue (is_status_of wanted status)
  pub unprinted : may_print wanted status ≡ false → new.out ≡ old.out
  pub unread : reads_nothing wanted ≡ true → new.files ≡ old.files
  pub unlinked : uses_link wanted ≡ false → new.wire ≡ old.wire
  pub session : (names : SessionNames) → wanted ≡ Some (line.session_run names) → SessionEnds names old new kids kids_new status said
  pub childless : starts_children wanted ≡ false → kids_new ≡ kids

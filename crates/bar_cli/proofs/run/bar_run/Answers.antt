use Rattle.std.proofs.Common.{◌∙◌, Option, None, Some, IsTrue, refl, ap, sym, subst, inl, inr, arith}
use Rattle.bar_outside.specs.Disk.{Disk}
use Rattle.bar_cli.specs.Judge.Plan.{judge_stages}
use Rattle.bar_cli.specs.Keygen.Plan.{keygen_stages}
use Rattle.bar_cli.specs.Line.{Line, peer, broadcaster, replay, keygen, audit, judge, simulate, has_plan, is_status_of, reads_nothing, pack, verify}
use Rattle.bar_cli.specs.Pack.{pack_stages}
use Rattle.bar_cli.specs.Replay.Plan.{replay_stages}
use Rattle.bar_cli.specs.Verify.{verify_stages}
use Rattle.bar_cli.proofs.JudgeRows as judging
use Rattle.bar_cli.proofs.KeygenRows as making
use Rattle.bar_cli.proofs.PackFronts as packed
use Rattle.bar_cli.proofs.PackRows as packing
use Rattle.bar_cli.proofs.ReplayRows as replaying
use Rattle.bar_cli.proofs.RunLemmas.{ends-as, run-ends, run-said}
use Rattle.bar_cli.proofs.SessionLemmas.{session-said}
use Rattle.bar_cli.proofs.SimulateLemmas.{has-shown}
use Rattle.bar_cli.proofs.Spoken.{peer-headline}
use Rattle.bar_cli.proofs.StatusLemmas.{no-line, or-memory, said-at_two, unprinted-by}
use Rattle.bar_cli.proofs.VerifyRows as verifying
use Rattle.bar_cli.proofs.run.bar_run.Goals as goal

-- ---- what was done

pub returns-clause-done : goal.returns-clause-done
returns-clause-done g c = λ was.
    let ran = c.run_words-status.ensures.ran was in
    let code = c.report.ensures.code in
    record {
      usage = λ two.
          elim code [
            | inl same ↦ c.run_words-status.ensures.usage (sym same ∙ two)
            | inr seventy ↦ absurd (omega arith)
          ];
      no_line = λ none.
          no-line c.report.result (subst (λ (line : Option Line). IsTrue (is_status_of line c.report.result)) none
          (or-memory _ _ _ ran.statuses code));
      statuses = or-memory _ _ _ ran.statuses code;
      ends = λ plan. run-ends _ _ _ _ _ _ code (ran.ends plan);
      session_runs = λ names is. record {
        status = _;
        line = _;
        ends = ran.session names is;
        or_memory = code;
      };
      childless = ran.childless;
      few_leaves = λ asked is four.
          elim code [
            | inl same ↦ c.run_words-status.ensures.few_leaves asked is (sym same ∙ four)
            | inr seventy ↦ absurd (omega arith)
          ];
      leaves_refused = λ asked is few.
          elim code [
            | inl same ↦ elim (c.run_words-status.ensures.leaves_refused asked is few) [
              | inl four ↦ inl (same ∙ four)
              | inr seventy ↦ inr (same ∙ seventy)
            ]
            | inr seventy ↦ inr seventy
          ];
      unprinted = λ quiet. unprinted-by _ _ _ _ ran.unprinted code quiet;
      unread = ran.unread;
      unlinked = ran.unlinked;
      peer_bound = λ names is told.
          let ends = ends-as _ (peer names) _ _ _ _ _ is code (ran.ends (ap has_plan is)) in
          c.a_bound_peer_has_spent_its_key.ensures names _ _ _ ends told;
      peer_files = λ names is told path other.
          let ends = ends-as _ (peer names) _ _ _ _ _ is code (ran.ends (ap has_plan is)) in
          c.only_its_files_are_changed_by_a_peer.ensures names path _ _ _ ends told other;
      broadcaster_bound = λ names is told.
          let ends = ends-as _ (broadcaster names) _ _ _ _ _ is code (ran.ends (ap has_plan is)) in
          c.a_bound_broadcaster_has_spent_its_key.ensures names _ _ _ ends told;
      broadcaster_files = λ names is told path other.
          let ends = ends-as _ (broadcaster names) _ _ _ _ _ is code (ran.ends (ap has_plan is)) in
          c.only_its_files_are_changed_by_a_broadcaster.ensures names path _ _ _ ends told other;
      key_made = λ asked is told zero.
          let ends = (ends-as _ (keygen asked) _ _ _ _ _ is code (ran.ends (ap has_plan is))).ends in
          making.made asked _ _ 0 told (c.stages_go_in_order.ensures.goes (keygen_stages asked) _ _ 0 (rw zero at ends) told) refl (λ why. why);
      only_reads = λ names is told.
          let ends = (ends-as _ (judge names) _ _ _ _ _ is code (ran.ends (ap has_plan is))).ends in
          (judging.judge-order names _ _ c.report.result told (c.stages_go_in_order.ensures.goes (judge_stages names) _ _ _ ends told)).files;
    }

-- ---- by the rules

pub returns-clause-ruled : goal.returns-clause-ruled
returns-clause-ruled g c = λ was.
    let ran = c.run_words-status.ensures.ran was in
    let code = c.report.ensures.code in
    record {
      peer_done = λ names is told zero.
          let ends = ends-as _ (peer names) _ _ _ _ _ is code (ran.ends (ap has_plan is)) in
          c.a_peer_is_done.ensures names _ _ (rw zero at ends) told;
      peer_stands = λ names is told.
          let ends = ends-as _ (peer names) _ _ _ _ _ is code (ran.ends (ap has_plan is)) in
          c.a_peer_stands.ensures names _ _ _ ends told;
      peer_headline = λ names is told.
          let ends = ends-as _ (peer names) _ _ _ _ _ is code (ran.ends (ap has_plan is)) in
          peer-headline c.accepted_secrets_are_held.ensures c.accepted_sessions_are_in_range.ensures
          c.peers_keep_the_rules.ensures
          c.rules_give_the_run.ensures.sends names _ _ c.report.result (λ zero. c.a_peer_is_done.ensures names _ _ (rw zero at ends) told)
          (c.a_peer_stands.ensures names _ _ _ ends told);
      broadcaster_done = λ names is told zero.
          let ends = ends-as _ (broadcaster names) _ _ _ _ _ is code (ran.ends (ap has_plan is)) in
          c.a_broadcaster_is_done.ensures names _ _ (rw zero at ends) told;
      broadcaster_stands = λ names is told.
          let ends = ends-as _ (broadcaster names) _ _ _ _ _ is code (ran.ends (ap has_plan is)) in
          c.a_broadcaster_stands.ensures names _ _ _ ends told;
      headline = λ names is told zero.
          let ends = (ends-as _ (replay names) _ _ _ _ _ is code (ran.ends (ap has_plan is))).ends in
          replaying.replayed names _ _ c.accepted_secrets_are_held.ensures c.accepted_sessions_are_in_range.ensures told
          (replaying.outcome names _ _ 0 told (c.stages_go_in_order.ensures.goes (replay_stages names) _ _ 0 (rw zero at ends) told));
      sends = λ names is told zero.
          let ends = (ends-as _ (replay names) _ _ _ _ _ is code (ran.ends (ap has_plan is))).ends in
          let done = replaying.replayed names _ _ c.accepted_secrets_are_held.ensures c.accepted_sessions_are_in_range.ensures told
          (replaying.outcome names _ _ 0 told (c.stages_go_in_order.ensures.goes (replay_stages names) _ _ 0 (rw zero at ends) told))
          in
          (done.accepted, done.sent);
      replay_headline = λ names is told.
          let ends = (ends-as _ (replay names) _ _ _ _ _ is code (ran.ends (ap has_plan is))).ends in
          c.a_replay_keeps_the_rules.ensures names _ _ _ ends told;
      audited = λ names is told which.
          let ends = (ends-as _ (audit names) _ _ _ _ _ is code (ran.ends (ap has_plan is))).ends in
          elim which [
            | inl zero ↦ (None, zero, c.an_audit_is_told.ensures.balanced names _ _ (rw zero at ends) told)
            | inr one ↦
                let unbalanced = c.an_audit_is_told.ensures.unbalanced names _ _ (rw one at ends) told in
                (Some unbalanced.0, one, unbalanced.1)
          ];
      audit_stays = λ names is told.
          let ends = (ends-as _ (audit names) _ _ _ _ _ is code (ran.ends (ap has_plan is))).ends in
          c.an_audit_stays.ensures.stays names _ _ _ ends told;
      judged = λ names is told which.
          let ends = (ends-as _ (judge names) _ _ _ _ _ is code (ran.ends (ap has_plan is))).ends in
          judging.judged names _ _ c.report.result told (c.stages_go_in_order.ensures.goes (judge_stages names) _ _ _ ends told) which;
      packed = λ names is told.
          let ends = (ends-as _ (pack names) _ _ _ _ _ is code (ran.ends (ap has_plan is))).ends in
          packed.stands c.what_is_shown_is_packed.ensures c.tables_are_spelled.ensures c.accepted_sessions_are_in_range.ensures names _ _ c.report.result told
          (packing.outcome names _ _ _ told (c.stages_go_in_order.ensures.goes (pack_stages names) _ _ _ ends told));
      verified = λ names is told.
          let ends = (ends-as _ (verify names) _ _ _ _ _ is code (ran.ends (ap has_plan is))).ends in
          let goes = c.stages_go_in_order.ensures.goes (verify_stages names) _ _ _ ends told in
          record {
            said = verifying.verified names _ _ c.report.result told goes c.proofs_are_spelled.ensures;
            files = (verifying.verify-order names _ _ c.report.result told goes).files;
          };
      simulated = λ seed is.
          let ends = (ends-as _ (simulate seed) _ _ _ _ _ is code (ran.ends (ap has_plan is))).ends in
          has-shown seed _ _ _ (ap (λ (disk : Disk). disk.content) (ran.unread (ap reads_nothing is))) ends;
      spared = λ seed peer low high is. c.honest_peers_stay.ensures seed peer low high is;
    }

-- ---- what was printed on standard error

pub returns-clause-said : goal.returns-clause-said
returns-clause-said g c = λ was.
    let ran = c.run_words-status.ensures.ran was in
    let code = c.report.ensures.code in
    record {
      said = λ plan either.
          run-said _ _ _ _ _ _ _ _ (ran.ends plan) c.report.ensures.said c.run_words-status.ensures.usage
          (said-at_two c.run_words-status.result) code either;
      silent = c.report.ensures.silent;
      session_said = λ names is.
          session-said names _ _ _ _ _ _ _ _ _ (ran.session names is) c.report.ensures.said code;
    }

use Rattle.std.proofs.Common.{◌≡◌, ◌⊎◌, ◌∙◌, Err, Some, [], IsTrue, refl, sym, ap, inl, inr, rules, true≢false, None}
use Rattle.std.proofs.lemmas.Result.{err_from_is_err_and}
use Rattle.bar_outside.specs.Code.Faults.{code_of_fault, fault_of_file}
use Rattle.bar_outside.specs.Plan.{with_out}
use Rattle.bar_outside.specs.declared.files.FileFault.{FileFault}
use Rattle.bar_outside.specs.declared.files.FileFault.TheVariants as file
use Rattle.bar_outside.proofs.Ending.{EndsWith-ending, EndsWith-unread}
use Rattle.bar_outside.proofs.StageEnds.{EndsWith-stage, EndsWith-stage_memory, EndsWith-stage_refused}
use Rattle.bar_child_processes.specs.Names.{SessionNames}
use Rattle.bar_child_processes.specs.Code.Views.{names_view}
use Rattle.bar_session_files.specs.Accepting.{session_of}
use Rattle.bar_cli.specs.Line.{is_status_of, session_run}
use Rattle.bar_cli.specs.Printing.{session_may_print}
use Rattle.bar_cli.specs.Refusals.{session_refused}
use Rattle.bar_cli.specs.Session.{line_of_end}
use Rattle.bar_cli.proofs.SessionLemmas.{outcome-late, outcome-prints, outcome-status}
use Rattle.bar_cli.proofs.Alternatives.{second-stands}
use Rattle.bar_cli.proofs.session.session.Goals as goal

-- ---- its children ran

pub returns-in-Ok-clause-ends : goal.returns-in-Ok-clause-ends
returns-in-Ok-clause-ends g c = λ w was.
    let accepted = rw c.deref.ensures.value at c.in-Ok.ensures.ok in
    let code = c.from.ensures.code in
    record {
      files = λ told. (c.in_ok-text.ensures was).same;
      ended = inr (record {
        session = c.in-Ok.session;
        read = EndsWith-stage _ session_of 4 session_refused _ _ _ (with_out w (g.K.Sink.stream c.args.out.now)) _ (c.in_ok-text.ensures was)
            _ _ _ _ accepted (EndsWith-ending 0 [] _ refl);
        accepted = λ told. record { bytes = c.in_ok-text.text.items; read = (c.in_ok-text.ensures was).found told; is = accepted };
        ran = rw (code, ← c.shape-peers.ensures.value) c.run_children.ensures;
        late = rw code (outcome-late c.run_children.result);
        line_is = c.from.ensures.line ∙ ap line_of_end (sym code);
      });
    }

pub returns-in-Ok-clause-statuses : goal.returns-in-Ok-clause-statuses
returns-in-Ok-clause-statuses g c = rw c.from.ensures.code (outcome-status (names_view c.args.names.now) c.run_children.result)

pub returns-in-Ok-clause-unprinted : goal.returns-in-Ok-clause-unprinted
returns-in-Ok-clause-unprinted g c =
    λ quiet. absurd (true≢false (sym (outcome-prints c.run_children.result) ∙ (ap session_may_print (sym c.from.ensures.code) ∙ quiet)))

-- ---- the session isn't read

unread-early : (cause : FileFault) →
    (code_of_fault (fault_of_file cause) ≡ 3) ⊎ ((code_of_fault (fault_of_file cause) ≡ 4) ⊎ (code_of_fault (fault_of_file cause) ≡ 70))
unread-early file.Failed = inl refl
unread-early file.NoMemory = inr (inr refl)

unread-status : (names : SessionNames) (cause : FileFault) →
    IsTrue (is_status_of (Some (session_run names)) (code_of_fault (fault_of_file cause)))
unread-status names file.Failed = refl
unread-status names file.NoMemory = refl

pub returns-in_err-text-clause-ends : goal.returns-in_err-text-clause-ends
returns-in_err-text-clause-ends g c = λ w was.
    let p = err_from_is_err_and c.from_residual.result c.from_residual.ensures.1 in
    let r = c.in_err-text.ensures was in
    record {
      files = λ told. r.1.same;
      ended = inl (record {
        ends = rw (p.1, p.2, r.2) (EndsWith-unread _ _ _ _ (with_out w (g.K.Sink.stream c.args.out.now)) r.0 r.1);
        early = rw (p.1, p.2, r.2) (unread-early r.0);
        out = refl;
        children = refl;
      });
    }

pub returns-in_err-text-clause-statuses : goal.returns-in_err-text-clause-statuses
returns-in_err-text-clause-statuses g c =
    let p = err_from_is_err_and c.from_residual.result c.from_residual.ensures.1 in
    let r = c.in_err-text.ensures (λ path. None) in
    rw (p.1, p.2, r.2) (unread-status (names_view c.args.names.now) r.0)

-- ---- memory ran out

pub returns-in-Err-NoMemory-clause-ends : goal.returns-in-Err-NoMemory-clause-ends
returns-in-Err-NoMemory-clause-ends g c = λ w was. record {
  files = λ told. (c.in_ok-text.ensures was).same;
  ended = inl (record {
    ends = EndsWith-stage_memory _ session_of 4 session_refused _ _ _ (with_out w (g.K.Sink.stream c.args.out.now)) _
        (c.in_ok-text.ensures was);
    early = inr (inr refl);
    out = refl;
    children = refl;
  });
}

-- ---- the session is refused

pub returns : goal.returns
returns g c =
    let refused : session_of c.in_ok-text.text.items ≡ Err c.in-Err.fault =
    rw c.deref.ensures.value at (second-stands c.in-Err.ensures.err (search rules))
    in
    record {
      ends = λ w was. record {
        files = λ told. (c.in_ok-text.ensures was).same;
        ended = inl (record {
          ends = EndsWith-stage_refused _ session_of 4 session_refused _ _ _ (with_out w (g.K.Sink.stream c.args.out.now)) _
              (c.in_ok-text.ensures was) _ refl refused;
          early = inr (inl refl);
          out = refl;
          children = refl;
        });
      };
      statuses = refl;
      unprinted = λ quiet. refl;
    }

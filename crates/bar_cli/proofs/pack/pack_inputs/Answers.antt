use Rattle.std.proofs.Common.{[], Ok, Err, refl, ap, sym, subst, ◌∙◌, None}
use Rattle.std.proofs.lemmas.Result.{err_from_is_err_and}
use Rattle.bar_outside.specs.Plan.{with_files}
use Rattle.bar_outside.proofs.Ending.{EndsWith-doing, EndsWith-memory}
use Rattle.bar_proof.specs.Packing.{IsRefused}
use Rattle.bar_proof.specs.declared.pack_fault.PackFault.{PackFault}
use Rattle.bar_cli.specs.Pack.{packed_line, packing_actions}
use Rattle.bar_cli.specs.Code.Views.{packing_view}
use Rattle.bar_cli.proofs.MadeFiles.{can-make, made-of}
use Rattle.bar_cli.proofs.PackLemmas.{bad-evidence, bad-table, nothing-shown, one-shown}
use Rattle.bar_cli.proofs.StatusLemmas.{never-link, quiet, unsaid-at}
use Rattle.bar_cli.proofs.pack.pack_inputs.Goals as goal

-- ---- a fault is shown

pub returns-in_ok-make_file-in-Ok-clause-ends : goal.returns-in_ok-make_file-in-Ok-clause-ends
returns-in_ok-make_file-in-Ok-clause-ends g c = λ w was.
    one-shown (packing_view c.args.names.now) c.args.session.now c.args.table.now c.args.evidence.now _ _ _ _
    c.in-Ok.file.items c.in-Ok.ensures.ok
    (EndsWith-doing (packing_actions c.args.names.now.proof.now c.in-Ok.file.items) 0 [] _ _
    (can-make c.args.names.now.proof.now c.in-Ok.file.items (packed_line c.in-Ok.file.items)
    (g.F.Files.disk c.args.files.now was).created_here) refl
    (Ok tt)
    (made-of c.args.names.now.proof.now _ _ _ _ _ _ _ c.in_ok-made_of-in-Ok.ensures.bytes c.in_ok-made_of-in-Ok.ensures.lines
    (c.in_ok-make_file-in-Ok.ensures.follows w was)))

pub returns-in_err-make_file-in-Ok-clause-ends : goal.returns-in_err-make_file-in-Ok-clause-ends
returns-in_err-make_file-in-Ok-clause-ends g c = λ w was.
    let residual = c.from_residual-in_err-make_file-in-Ok in
    let p = err_from_is_err_and residual.result residual.ensures.1 in
    rw (p.1, p.2) (one-shown (packing_view c.args.names.now) c.args.session.now c.args.table.now c.args.evidence.now _ _ _ _
    c.in-Ok.file.items c.in-Ok.ensures.ok
    (EndsWith-doing (packing_actions c.args.names.now.proof.now c.in-Ok.file.items) 0 [] _ _
    (can-make c.args.names.now.proof.now c.in-Ok.file.items (packed_line c.in-Ok.file.items)
    (g.F.Files.disk c.args.files.now was).created_here) refl
    (Err c.in_err-make_file-in-Ok.field-0.0)
    (made-of c.args.names.now.proof.now _ _ _ _ _ _ _ c.in_ok-made_of-in-Ok.ensures.bytes c.in_ok-made_of-in-Ok.ensures.lines
    (c.in_err-make_file-in-Ok.ensures.follows w was))))

pub returns-in_err-make_file-in-Ok-clause-unprinted : goal.returns-in_err-make_file-in-Ok-clause-unprinted
returns-in_err-make_file-in-Ok-clause-unprinted g c =
    let residual = c.from_residual-in_err-make_file-in-Ok in
    let p = err_from_is_err_and residual.result residual.ensures.1 in
    rw p.1 (unsaid-at p.0 _ (λ e. c.in_err-make_file-in-Ok.ensures.unprinted (ap Err (sym p.2 ∙ e)))
    (λ e. absurd (never-link _ _ _ _ refl refl (c.in_err-make_file-in-Ok.ensures.follows quiet (λ path. None)) (ap Err (sym p.2 ∙ e)))))

pub returns-in_err-made_of-in-Ok-clause-ends : goal.returns-in_err-made_of-in-Ok-clause-ends
returns-in_err-made_of-in-Ok-clause-ends g c =
    let p = err_from_is_err_and c.from_residual.result c.from_residual.ensures.1 in
    rw (p.1, p.2) (λ w was. EndsWith-memory _ _)

-- ---- nothing is packed

pub returns-in-Err-Table-clause-ends : goal.returns-in-Err-Table-clause-ends
returns-in-Err-Table-clause-ends g c = λ w was.
    let s = c.args.session.now in
    let refused = subst (λ (fault : PackFault). IsRefused s c.args.table.now c.args.evidence.now fault)
    c.in-Err-Table.field-0-is c.in-Err-Table.ensures.err in
    bad-table (packing_view c.args.names.now) s c.args.table.now c.args.evidence.now _ c.in-Err-Table.at refused

pub returns-in-Err-Evidence-clause-ends : goal.returns-in-Err-Evidence-clause-ends
returns-in-Err-Evidence-clause-ends g c = λ w was.
    let s = c.args.session.now in
    let refused = subst (λ (fault : PackFault). IsRefused s c.args.table.now c.args.evidence.now fault)
    c.in-Err-Evidence.field-0-is c.in-Err-Evidence.ensures.err in
    bad-evidence (packing_view c.args.names.now) s c.args.table.now c.args.evidence.now _ refused

pub returns-in-Err-NotShown-clause-ends : goal.returns-in-Err-NotShown-clause-ends
returns-in-Err-NotShown-clause-ends g c = λ w was.
    let s = c.args.session.now in
    let refused = subst (λ (fault : PackFault). IsRefused s c.args.table.now c.args.evidence.now fault)
    c.in-Err-NotShown.field-0-is c.in-Err-NotShown.ensures.err in
    nothing-shown (packing_view c.args.names.now) s c.args.table.now c.args.evidence.now _ _ _ _ c.in-Err-NotShown.why refused
    (c.say_verdict.ensures.ends (with_files w (g.F.Files.disk c.args.files.now was)))

pub returns-in-Err-NoMemory-clause-ends : goal.returns-in-Err-NoMemory-clause-ends
returns-in-Err-NoMemory-clause-ends g c = λ w was. EndsWith-memory _ _

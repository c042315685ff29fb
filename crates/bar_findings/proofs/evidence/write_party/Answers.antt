use Rattle.std.proofs.Common.{sym, ap, ◌∙◌}
use Rattle.std.specs.Option.{option_copied}
use Rattle.std.proofs.lemmas.Result.{err_from_is_err_and}
use Rattle.bar_bytes.specs.Code.Rooms.{kept_in}
use Rattle.bar_outside.proofs.Following.{no_memory}
use Rattle.bar_findings.proofs.Writing.{file-there}
use Rattle.bar_findings.proofs.evidence.write_party.Goals as goal

pub returns-in_err-evidence_name-in-Some : goal.returns-in_err-evidence_name-in-Some
returns-in_err-evidence_name-in-Some g c = λ w was.
    let p = err_from_is_err_and c.from_residual.result c.from_residual.ensures.1 in
    rw (p.1, p.2) (no_memory _ _)

pub returns-in_ok-evidence_name-in-Some : goal.returns-in_ok-evidence_name-in-Some
returns-in_ok-evidence_name-in-Some g c = λ w was.
    file-there c.as_str.result.now _ _ c.in-Some.bytes.now _ _ _ (ap (kept_in c.args.evidence.now) (sym c.from.ensures) ∙ sym c.get.ensures ∙ ap option_copied c.in-Some.is)
    (c.as_str.ensures.value ∙ c.in_ok-evidence_name-in-Some.ensures) (c.write_file.ensures w was)

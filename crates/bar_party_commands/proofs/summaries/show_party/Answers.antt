use Rattle.std.proofs.Common.{sym, ap, ◌∙◌}
use Rattle.std.specs.Option.{option_copied}
use Rattle.std.proofs.lemmas.Result.{err_from_is_err_and}
use Rattle.bar_bytes.specs.Code.Rooms.{kept_in}
use Rattle.bar_outside.proofs.Following.{no_memory}
use Rattle.bar_party_commands.proofs.Shown.{party-shown}
use Rattle.bar_party_commands.proofs.summaries.show_party.Goals as goal

pub returns-in_err-party_line-in-Some : goal.returns-in_err-party_line-in-Some
returns-in_err-party_line-in-Some g c = λ w.
    let p = err_from_is_err_and c.from_residual.result c.from_residual.ensures.1 in
    rw (p.1, p.2) (no_memory _ _)

pub returns-in_ok-party_line-in-Some : goal.returns-in_ok-party_line-in-Some
returns-in_ok-party_line-in-Some g c = λ w.
    party-shown c.args.word.now c.args.party _ c.in-Some.field-0.now _ _ _ _
    (ap (kept_in c.args.evidence.now) (sym c.from.ensures) ∙ sym c.get.ensures ∙ ap option_copied c.in-Some.is)
    (c.as_bytes.ensures.value ∙ c.in_ok-party_line-in-Some.ensures) (c.show_bytes.ensures w)

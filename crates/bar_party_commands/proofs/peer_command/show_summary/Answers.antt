use Rattle.std.proofs.Common.{◌∙◌, ap}
use Rattle.std.proofs.lemmas.Result.{err_from_is_err_and}
use Rattle.bar_wire.specs.declared.shape.Shape.{Shape}
use Rattle.bar_outside.proofs.Following.{no_memory}
use Rattle.bar_party_commands.specs.Summaries.{evidence_word, peer_line}
use Rattle.bar_party_commands.proofs.Shown.{line-stopped, line-then}
use Rattle.bar_party_commands.proofs.peer_command.show_summary.Goals as goal

pub returns-in_err-peer_line : goal.returns-in_err-peer_line
returns-in_err-peer_line g c = λ inputs stands is w.
    let p = err_from_is_err_and c.from_residual.result c.from_residual.ensures.1 in
    rw (p.1, p.2) (no_memory _ _)

pub returns-in_err-show_bytes : goal.returns-in_err-show_bytes
returns-in_err-show_bytes g c = λ inputs stands is w.
    let p = err_from_is_err_and c.from_residual-in_err-show_bytes.result c.from_residual-in_err-show_bytes.ensures.1 in
    rw (p.1, p.2)
    (line-stopped _ _ (c.as_bytes.ensures.value ∙ c.in_ok-peer_line.ensures ∙ ap peer_line is) _ _ _ _ (c.in_err-show_bytes.ensures w))

pub returns : goal.returns
returns g c = λ inputs stands is w.
    line-then _ _ (c.as_bytes.ensures.value ∙ c.in_ok-peer_line.ensures ∙ ap peer_line is) _ evidence_word _ _ _ _ _ _ _ _
    (ap (λ (s : Shape). s.peers) c.shape-shape.ensures.value) (λ party low high. c.kept_evidence.ensures.kept inputs stands party)
    (c.in_ok-show_bytes.ensures w) (c.show_parties.ensures w)

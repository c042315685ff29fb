use Rattle.std.proofs.Common.{◌≡◌, ◌++◌, ◌∙◌, ◌<◌, length, string_bytes, take, ap, sym, rules, arith}
use Rattle.bar_audit.specs.Exchanges.{line_of}
use Rattle.bar_cli.specs.Audit.Text.{exchange_line, line_for, lines_for}
use Rattle.bar_cli.proofs.AuditLemmas.{line-missing, line-there, text-more}
use Rattle.bar_cli.proofs.audit.text.exchange_lines.Goals as goal
use Rattle.bar_cli.proofs.audit.text.exchange_lines.Goals.{in-Some+in_ok-exchange_line+in_ok-push_str, in_default}

pub loop-k-preserved : goal.loop-k-preserved
loop-k-preserved c = λ s recordings knows.
    let xs = c.args.audit.now.recorded.items in
    let k = c.loop-k.k in
    elim c.match-line.branch [
      | in-Some+in_ok-exchange_line+in_ok-push_str w ↦
          let there = line-there (line_of s recordings) xs k w.in-Some.line (sym w.in-Some.is ∙ c.line.ensures s recordings knows) in
          let text : string_bytes c.match-line.text ≡ string_bytes c.loop-k.text ++ exchange_line w.in-Some.line = rw w.text-is (search rules) in
          text
          ∙ (ap (λ before. before ++ exchange_line w.in-Some.line) (c.loop-k.invariant s recordings knows)
          ∙ (ap (λ line. lines_for s recordings (take k xs) ++ exchange_line line) there.2
          ∙ sym (text-more (line_for s recordings) xs k there.0 there.1)))
      | in_default w ↦
          let within : k < length xs = omega (arith, c.loop-k-test.true, c.len-k-end.ensures) in
          absurd (line-missing (line_of s recordings) xs k (sym w.in_default.is ∙ c.line.ensures s recordings knows) within)
    ]

use Rattle.std.proofs.Common.{rules, ◌≡◌, ◌+◌, ℕ, suc, ◌++◌, ◌∙◌, sym, ap, arith, get_or, string_bytes, take}
use Rattle.bar_cli.specs.Simulate.{played_line, played_lines}
use Rattle.bar_cli.proofs.SimulateLemmas.{lines-more}
use Rattle.bar_cli.proofs.simulate.peer_lines.Goals as goal

next : (i : ℕ) → suc i ≡ i + 1
next i = omega arith

pub loop-bytes-preserved : goal.loop-bytes-preserved
loop-bytes-preserved c =
    let i = c.loop-bytes.bytes-index in
    let before = c.loop-bytes.invariant in
    let text : string_bytes c.push_str.new.self ≡ string_bytes c.loop-bytes.text ++ string_bytes c.in_ok-line.line = search rules in
    let line : string_bytes c.in_ok-line.line ≡ played_line (c.loop-bytes.peer + 1) (get_or c.args.played.now i 0) = c.in_ok-line.ensures in
    let same : c.loop-bytes.peer + 1 ≡ 1 + i = omega (arith, before.0) in (
      omega (arith, before.0),
      text ∙ (ap (λ xs. xs ++ string_bytes c.in_ok-line.line) before.1
          ∙ (ap (λ xs. played_lines 1 (take i c.args.played.now) ++ xs) (line ∙ ap (λ n. played_line n (get_or c.args.played.now i 0)) same)
          ∙ (sym (lines-more c.args.played.now 1 i 0 (omega arith)) ∙ ap (λ n. played_lines 1 (take n c.args.played.now)) (next i)))),
    )

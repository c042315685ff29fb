use Rattle.std.proofs.Common.{None, rules}
use Rattle.bar.proofs.run_words.Goals as goal

pub returns-clause-no_text : goal.returns-clause-no_text
returns-clause-no_text g c =
    let no_line = (c.bar_run.ensures.done (λ path. None)).no_line in
    search rules

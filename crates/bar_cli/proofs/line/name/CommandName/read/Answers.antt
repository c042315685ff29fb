use Rattle.std.proofs.Common.{sym}
use Rattle.bar_cli.proofs.WordLemmas.{no-command}
use Rattle.bar_cli.proofs.line.name.CommandName.read.Goals as goal

pub returns-in_default : goal.returns-in_default
returns-in_default c =
    let other = c.in_default in
    sym (no-command c.args.word.now other.not-peer other.not-broadcaster other.not-replay other.not-keygen other.not-hsskeygen
    other.not-audit other.not-judge other.not-pack other.not-verify other.not-session other.not-simulate)

use Rattle.std.proofs.Common.{length, rules}
use Rattle.std.proofs.Math.Seq.{take-length}
use Rattle.bar_cli.proofs.status.print_line.Goals as goal

pub returns-in-Ok-clause-said : goal.returns-in-Ok-clause-said
returns-in-Ok-clause-said g c =
    record {
      later = search rules;
      whole = search rules;
      front = (length c.args.line.now, rw (take-length c.args.line.now) c.in-Ok.ensures.added);
    }

use Rattle.std.proofs.Common.{refl, rules}
use Rattle.bar_record.proofs.HeadLemmas.{no_head}
use Rattle.bar_record.proofs.reading.read.Goals as goal

pub returns-then-bytes-lt-HEAD_LEN-clause-err : goal.returns-then-bytes-lt-HEAD_LEN-clause-err
returns-then-bytes-lt-HEAD_LEN-clause-err c =
    rw (no_head c.args.bytes.now c.args.id.now c.args.party (search rules) c.if-bytes-lt-HEAD_LEN.true) refl

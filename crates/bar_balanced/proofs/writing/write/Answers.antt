use Rattle.std.proofs.Common.{sym, ap}
use Rattle.std.specs.Prelude.{option_map}
use Rattle.bar_exchange.specs.Code.Writing.{bytes_to}
use Rattle.bar_balanced.proofs.Others.{no_body}
use Rattle.bar_balanced.proofs.writing.write.Goals as goal

pub returns-in_default-clause-written : goal.returns-in_default-clause-written
returns-in_default-clause-written c me k tells recent balanced can =
    let o = c.in_default in
    sym (ap (option_map (bytes_to me c.args.x))
    (no_body me k c.args.sources.now.ledger.now c.args.x c.args.kind tells.recalls recent balanced o.not-Request o.not-Response o.not-Divulge o.not-Case o.not-KeyReq o.not-Key))

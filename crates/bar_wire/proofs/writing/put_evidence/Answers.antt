use Rattle.std.proofs.Common.{◌∷◌, [], ◌++◌, sym, ◌∙◌, arith}
use Rattle.std.specs.List.{flat_map}
use Rattle.std.proofs.lemmas.List.{append-nil}
use Rattle.bar_wire.specs.Grammar.{entry}
use Rattle.bar_wire.specs.Places.{entries}
use Rattle.bar_wire.proofs.Lists.{entries_joined}
use Rattle.bar_wire.proofs.Writes.{writes_then, writes_same}
use Rattle.bar_wire.proofs.writing.put_evidence.Goals as goal

pub returns : goal.returns
returns c =
    let ds = c.args.datagrams.now in
    let parts = entries c.args.count ds in
    let all = entries_joined c.args.count ds (λ i. omega (arith, c.type_inv.datagrams i)) c.requires.whole in
    writes_same (_ ∷ (flat_map entry parts ++ [])) (λ i. sym all.long i ∷ (sym all.joined ∙ sym (append-nil (flat_map entry parts))) i) (writes_then c.put_u8-at.ensures.writes c.put.ensures)

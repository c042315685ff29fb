use Rattle.std.proofs.Common.{◌∷◌, [], ◌++◌, sym, ◌∙◌, arith}
use Rattle.std.specs.List.{flat_map}
use Rattle.std.proofs.lemmas.List.{append-nil}
use Rattle.bar_bytes.specs.Bytes.{u16_bytes, u32_bytes}
use Rattle.bar_wire.specs.Places.{pairs}
use Rattle.bar_wire.proofs.Lists.{pairs_joined}
use Rattle.bar_wire.proofs.Writes.{writes_then, writes_same}
use Rattle.bar_wire.proofs.writing.put_evict.Goals as goal

pub returns : goal.returns
returns c =
    let ps = c.args.parties.now in
    let all = pairs_joined c.args.count ps (λ i. omega (arith, c.type_inv.parties i)) c.requires.whole in
    let round = u32_bytes c.args.round in
    writes_same (round ++ (_ ∷ (flat_map u16_bytes (pairs ps) ++ []))) (λ i. round ++ (sym all.long i ∷ (sym all.joined ∙ sym (append-nil (flat_map u16_bytes (pairs ps)))) i)) (writes_then c.put_u32-at.ensures.writes (writes_then c.put_u8-at.ensures.writes c.put.ensures))

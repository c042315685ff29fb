use Rattle.std.proofs.Common.{◌∷◌, [], ◌++◌, sym, ◌∙◌}
use Rattle.std.specs.List.{concat}
use Rattle.std.proofs.lemmas.List.{append-nil}
use Rattle.bar_bytes.specs.Bytes.{u32_bytes}
use Rattle.std.specs.Simd.{first_chunks}
use Rattle.bar_wire.proofs.Lists.{chunks_joined}
use Rattle.bar_wire.proofs.Writes.{writes_then, writes_same}
use Rattle.bar_wire.proofs.writing.put_manifest.Goals as goal

pub returns : goal.returns
returns c =
    let ds = c.args.digests.now in
    let parts = first_chunks 32 c.args.count ds in
    let all = chunks_joined 32 c.args.count ds c.requires.whole in
    let round = u32_bytes c.args.round in
    writes_same (round ++ (_ ∷ (concat parts ++ []))) (λ i. round ++ (sym all.long i ∷ (sym all.joined ∙ sym (append-nil (concat parts))) i)) (writes_then c.put_u32-at.ensures.writes (writes_then c.put_u8-at.ensures.writes c.put.ensures))

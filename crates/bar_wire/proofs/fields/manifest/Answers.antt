use Rattle.std.proofs.Common.{◌≡◌, ◌∷◌, ◌++◌, ◌*◌, ◌∙◌, List, ℕ, length, length-append, sym, ap, refl, arith}
use Rattle.std.specs.Prelude.{slice_index}
use Rattle.std.specs.List.{concat}
use Rattle.std.proofs.lemmas.List.{append-nil, get_or_at}
use Rattle.bar_bytes.specs.Bytes.{u32_bytes}
use Rattle.bar_bytes.proofs.Lengths.{length_u32}
use Rattle.std.specs.Simd.{first_chunks}
use Rattle.bar_wire.proofs.Lists.{chunks_joined}
use Rattle.bar_wire.proofs.fields.manifest.Goals as goal

pub returns-clause-has : goal.returns-clause-has
returns-clause-has c =
    let round = c.split_u32-round.result.0 in
    let count = c.split_u8-count.result.0 in
    let rest = c.split_u8-count.result.1.now in
    let is : c.args.bytes.now ≡ u32_bytes round ++ (count ∷ rest) = c.split_u32-round.ensures.is ∙ ap (λ (x : List ℕ). u32_bytes round ++ x) c.split_u8-count.ensures.is in
    let at : slice_index c.args.bytes.now 4 ≡ count = ap (λ (x : List ℕ). slice_index x 4) is ∙ get_or_at (u32_bytes round) count rest 0 4 (length_u32 round) in
    let len : length rest ≡ 32 * count = omega (arith, ap length is, c.requires, at, length_u32 round, length-append (u32_bytes round) (count ∷ rest)) in
    let all = chunks_joined 32 count rest len in
    record { kind_is = refl; form = (omega arith, all.fit); is = is ∙ (λ i. u32_bytes round ++ (sym all.long i ∷ (sym all.joined ∙ sym (append-nil (concat (first_chunks 32 count rest)))) i)) }

pub returns-clause-whole : goal.returns-clause-whole
returns-clause-whole c =
    let round = c.split_u32-round.result.0 in
    let count = c.split_u8-count.result.0 in
    let rest = c.split_u8-count.result.1.now in
    let is : c.args.bytes.now ≡ u32_bytes round ++ (count ∷ rest) = c.split_u32-round.ensures.is ∙ ap (λ (x : List ℕ). u32_bytes round ++ x) c.split_u8-count.ensures.is in
    let at : slice_index c.args.bytes.now 4 ≡ count = ap (λ (x : List ℕ). slice_index x 4) is ∙ get_or_at (u32_bytes round) count rest 0 4 (length_u32 round) in
    omega (arith, ap length is, c.requires, at, length_u32 round, length-append (u32_bytes round) (count ∷ rest))

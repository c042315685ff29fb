use Rattle.std.proofs.Common.{◌≡◌, ◌∙◌, ◌||◌, ◌&&◌, ◌==◌, ◌/◌, ℕ, zero, suc, List, [], ◌∷◌, length, map, take, false, nat_lt, refl, ap, arith}
use Rattle.std.specs.List.{list_any}
use Rattle.std.specs.Prelude.{slice_index_or}
use Rattle.std.specs.Simd.{first_chunks}
use Rattle.std.proofs.lemmas.List.{take_all}
use Rattle.bar_bytes.specs.Bytes.{first_u16}
use Rattle.bar_wire.specs.Places.{pairs}
use Rattle.bar_peer.proofs.evictions.Evictions.add.Goals as goal

-- the chunks of two bytes, as numbers, are the pairs
chunks_are_pairs : (n : ℕ) (bytes : List ℕ) → n ≡ length bytes / 2 → map first_u16 (first_chunks 2 n bytes) ≡ pairs bytes
chunks_are_pairs zero [] e = refl
chunks_are_pairs zero (high ∷ []) e = refl
chunks_are_pairs zero (high ∷ low ∷ rest) e = absurd (omega arith)
chunks_are_pairs (suc n) [] e = absurd (omega arith)
chunks_are_pairs (suc n) (high ∷ []) e = absurd (omega arith)
chunks_are_pairs (suc n) (high ∷ low ∷ rest) e = ap (λ ps. first_u16 (high ∷ low ∷ rest) ∷ ps) (chunks_are_pairs n rest (omega arith))

pub returns-clause-parties : goal.returns-clause-parties
returns-clause-parties c = λ p.
    let bytes : List ℕ = c.args.parties.now in
    let all : map first_u16 (take c.loop-pair.pair-index c.as_chunks.result.0.now) ≡ pairs bytes =
    ap (map first_u16) (take_all c.loop-pair.pair-index c.as_chunks.result.0.now c.loop-pair-test.false ∙ c.as_chunks.ensures.front)
    ∙ chunks_are_pairs (length bytes / 2) bytes refl
    in
    c.loop-pair.invariant.named p
    ∙ (λ i. slice_index_or (c.hear.ensures.parties i).items p false
    || list_any (λ q. (q == p) && nat_lt q (length (c.hear.ensures.parties i).items)) (all i))

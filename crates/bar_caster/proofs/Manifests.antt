-- The concatenated digests of a round's blocks.
use Rattle.std.proofs.Common.{◌≡◌, ℕ, zero, suc, ◌+◌, List, [], ◌∷◌, ◌++◌, take, sym, ap, ◌∙◌, append_assoc, arith}
use Rattle.std.specs.Prelude.{map, slice_get, Some}
use Rattle.std.specs.List.{concat}
use Rattle.std.proofs.lemmas.List.{append-nil}
use Rattle.sha2.specs.Sha256.{sha256}

abbrev pub digests_of : List (List ℕ) → List ℕ
digests_of blocks = concat (map sha256 blocks)

-- the digests with one more block
next-digest : (blocks : List (List ℕ)) (i : ℕ) (block : List ℕ) → slice_get blocks i ≡ Some block
    → digests_of (take (suc i) blocks) ≡ digests_of (take i blocks) ++ sha256 block
next-digest [] i block here = cc
next-digest (b ∷ blocks) zero block here =
    let same : b ≡ block = cc in
    append-nil (sha256 b) ∙ ap sha256 same
next-digest (b ∷ blocks) (suc i) block here =
    ap (λ (rest : List ℕ). sha256 b ++ rest) (next-digest blocks i block here)
    ∙ sym (append_assoc (sha256 b) (digests_of (take i blocks)) (sha256 block))

pub digests-more : (blocks : List (List ℕ)) (i : ℕ) (block : List ℕ) → slice_get blocks i ≡ Some block
    → digests_of (take (i + 1) blocks) ≡ digests_of (take i blocks) ++ sha256 block
digests-more blocks i block here =
    let more : i + 1 ≡ suc i = omega arith in
    ap (λ n. digests_of (take n blocks)) more ∙ next-digest blocks i block here

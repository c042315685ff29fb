-- A signature after a message in a buffer.
use Rattle.std.proofs.Common.{◌≡◌, ◌∙◌, ℕ, ◌+◌, List, ◌++◌, length, take, sym}
use Rattle.std.proofs.Math.Seq.{take-append-add}

-- if a buffer is split after a message and the signature is written to the rest, the buffer starts with both
pub behind : (len n : ℕ) (old front back message signature : List ℕ) → length front ≡ len → front ≡ take len old → take len old ≡ message
    → take n back ≡ signature → take (len + n) (front ++ back) ≡ message ++ signature
behind len n old front back message signature long is same signed =
    (λ i. take (sym long i + n) (front ++ back))
    ∙ take-append-add front back n
    ∙ (λ i. (is ∙ same) i ++ signed i)

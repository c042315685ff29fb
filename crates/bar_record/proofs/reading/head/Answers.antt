use Rattle.std.proofs.Common.{◌++◌, ◌∷◌, ◌/◌, ◌%◌, [], List, ℕ, ap}
use Rattle.bar_bytes.specs.Bytes.{u16_bytes}
use Rattle.bar_record.proofs.HeadLemmas.{eight}
use Rattle.bar_record.proofs.reading.head.Goals as goal

pub returns : goal.returns
unfolding u16_bytes
returns c =
    rw c.to_be_bytes.ensures
    (ap (λ (xs : List ℕ). 66 ∷ 65 ∷ 82 ∷ 76 ∷ 1 ∷ (xs ++ (c.args.party / 256) % 256 ∷ c.args.party % 256 ∷ [])) (eight c.args.id.now c.told-id))

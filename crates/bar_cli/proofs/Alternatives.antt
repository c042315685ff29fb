-- If one of two facts holds and the first doesn't, the second does.
use Rattle.std.proofs.Common.{◌⊎◌, inl, inr}

pub second-stands : {A B : Type 0} → A ⊎ B → (A → ⊥) → B
second-stands (inl a) other = absurd (other a)
second-stands (inr b) other = b

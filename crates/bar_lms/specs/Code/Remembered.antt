-- The chain values of signatures that are remembered.
use Rattle.std.specs.Prelude.{◌≡◌, ℕ, ◌*◌, List, Some}
use Rattle.bar_lms.specs.declared.params.Ots.{Ots}
use Rattle.bar_lms.specs.declared.private.Private.{Private}
use Rattle.bar_lms.specs.declared.chain_values.ChainValues.{ChainValues}
use Rattle.bar_lms.specs.Params.{chains}
use Rattle.bar_lms.specs.Chains.{joined}
use Rattle.bar_lms.specs.Signature.{signed_value}

-- the chain values of the signature of a hash under leaf q, one after another
abbrev pub chain_values : Private → ℕ → List ℕ → List ℕ
chain_values t q hash = joined (signed_value t q hash) (chains t.params.ots)

-- there is room for the chain values of such one-time signatures, and those that are kept are of the key, the leaf and the hash beside them
pub record AreValuesOf (ots : Ots) (v : ChainValues) : Type 0 where
  pub size : v.values.size ≡ 32 * chains ots
  pub kept : (bytes : List ℕ) → v.values.kept ≡ Some bytes → bytes ≡ chain_values v.key v.leaf v.hash

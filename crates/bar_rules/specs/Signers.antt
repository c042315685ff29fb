-- The scheme that signs for a party.
use Rattle.std.specs.Prelude.{◌≡◌, ℕ, List}
use Rattle.bar_lms.specs.Schemes.{leaves_by}
use Rattle.bar_rules.specs.Member.{Member}
use Rattle.bar_rules.specs.Secrets.{signature_of}

-- It signs as this member does, and it has as many leaves and as long signatures as the session's scheme.
pub record IsSignerOf (me : Member) (signed : ℕ → List ℕ → List ℕ) (leaves signature_len : ℕ) : Type 0 where
  pub signs : (leaf : ℕ) (message : List ℕ) → signed leaf message ≡ signature_of me leaf message
  pub leaves_are : leaves ≡ leaves_by me.session.top me.session.params
  pub length_is : signature_len ≡ me.session.shape.sig_len

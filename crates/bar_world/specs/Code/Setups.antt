-- The secrets that a world is made from.
use Rattle.std.specs.Prelude.{◌≡◌, ℕ, List, map, slice_get, Some}
use Rattle.bar_seeds.specs.declared.secrets.Secrets.{Secrets}
use Rattle.bar_rules.specs.Member.{Session}
use Rattle.bar_rules.specs.World.World.{Setup}

abbrev pub setup_of : Session → List Secrets → List ℕ → Setup
setup_of session secrets stream = record { session = session; secrets = map (λ (k : Secrets). k.secret) secrets; stream = stream }

-- The secrets are those of the session's parties, in order.
pub record AreOfParties (session : Session) (secrets : List Secrets) : Type 0 where
  pub id : (p : ℕ) (k : Secrets) → slice_get secrets p ≡ Some k → k.id ≡ session.shape.id
  pub party : (p : ℕ) (k : Secrets) → slice_get secrets p ≡ Some k → k.party ≡ p

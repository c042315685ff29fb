-- A setup made from its parties' secrets: its session contains the keys and anchors derived from them.
use Rattle.std.specs.Prelude.{◌≡◌, ℕ, ◌+◌, ◌*◌, ◌^◌, ◌≤◌, List, [], ◌∷◌, map}
use Rattle.bar_window.specs.Limits.{most_items}
use Rattle.bar_lms.specs.declared.params.Params.{Params}
use Rattle.bar_lms.specs.Params.{levels, signature_len}
use Rattle.bar_lms.specs.Secret.{Secret, public_key}
use Rattle.bar_seeds.specs.declared.secrets.Secrets.{Secrets}
use Rattle.bar_seeds.specs.Seeds.{anchor_of}
use Rattle.bar_wire.specs.Limits.{leaves_a_round}
use Rattle.bar_wire.specs.declared.shape.Shape.{Shape}
use Rattle.bar_session.specs.Sessions.{IsSessionShape}
use Rattle.bar_session.specs.SessionData.{session_of_parts}
use Rattle.bar_rules.specs.Member.{Session}
use Rattle.bar_rules.specs.World.World.{Setup}
use Rattle.bar_world.specs.declared.numbers.Numbers.{Numbers}

-- ---- keys

abbrev pub signing : Params → List ℕ → List ℕ → Secret
signing params id secret = record { params = params; id = id; secret = secret }

-- the public keys of the parties with these secrets, the broadcaster's first
abbrev pub keys_of : Params → List ℕ → List (List ℕ) → List (List ℕ)
keys_of params id secrets = map (λ secret. public_key (signing params id secret)) secrets

-- ---- anchors

abbrev pub seeding : List ℕ → ℕ → List ℕ → Secrets
seeding id party secret = record { id = id; party = party; secret = secret }

-- the anchors of consecutive parties, starting with `party`, that have these secrets
abbrev pub anchors_from : List ℕ → ℕ → ℕ → List (List ℕ) → List (List ℕ)
anchors_from id rounds party [] = []
anchors_from id rounds party (secret ∷ secrets) =
    anchor_of (seeding id party secret) rounds ∷ anchors_from id rounds (party + 1) secrets

-- the secrets of the peers
abbrev pub of_peers : List (List ℕ) → List (List ℕ)
of_peers [] = []
of_peers (secret ∷ secrets) = secrets

-- the broadcaster, party 0, has no anchor
abbrev pub anchors_of : List ℕ → ℕ → List (List ℕ) → List (List ℕ)
anchors_of id rounds secrets = anchors_from id rounds 1 (of_peers secrets)

-- ---- the setup

-- The numbers are in the ranges of a session's numbers, and there are enough leaves.
pub record AreNumbers (shape : Shape) (n : Numbers) : Type 0 where
  pub shape_is : IsSessionShape shape
  pub signatures : shape.sig_len ≡ signature_len n.params
  pub cap_low : 1 ≤ n.cap
  pub cap_high : n.cap ≤ most_items
  pub fanout_low : 1 ≤ n.fanout
  pub fanout_high : n.fanout ≤ shape.peers
  pub leaves : leaves_a_round * shape.rounds ≤ 2 ^ levels n.params.height

abbrev pub made_session : Shape → Numbers → List (List ℕ) → Session
made_session shape n secrets =
    session_of_parts shape n.cap n.fanout n.port n.tick_ms n.params (keys_of n.params shape.id secrets)
    (anchors_of shape.id shape.rounds secrets)

abbrev pub made_setup : Shape → Numbers → List (List ℕ) → List ℕ → Setup
made_setup shape n secrets stream = record { session = made_session shape n secrets; secrets = secrets; stream = stream }

-- the session of the parties that hold these secrets
abbrev pub session_by : Shape → Numbers → List Secrets → Session
session_by shape n held = made_session shape n (map (λ (k : Secrets). k.secret) held)

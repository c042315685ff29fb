-- A session made from secrets contains the keys and anchors of each of them.
use Rattle.bar_lms.specs.declared.params.Params.{Params}
use Rattle.bar_lms.specs.Schemes.{public_by}
use Rattle.bar_lms.specs.Secret.{public_key}
use Rattle.bar_seeds.specs.Seeds.{anchor_of}
use Rattle.bar_wire.specs.declared.shape.Shape.{Shape}
use Rattle.bar_session.specs.Fits.{Fits}
use Rattle.bar_session.proofs.Levels.{one_level}
use Rattle.bar_session.specs.Sessions.{IsSession}
use Rattle.bar_rules.specs.World.World.{IsSetup}
use Rattle.bar_world.specs.declared.numbers.Numbers.{Numbers}
use Rattle.bar_world.specs.Made.{AreNumbers, signing, keys_of, seeding, anchors_from, of_peers, anchors_of, made_session, made_setup}
use Rattle.std.proofs.Common.{◌≡◌, ℕ, zero, suc, List, [], ◌∷◌, ◌+◌, ◌-◌, ◌<◌, ◌≤◌, length, refl, ap, ◌∙◌, arith}
use Rattle.std.proofs.lemmas.List.{length-map}
use Rattle.std.specs.Prelude.{Some, slice_get, unwrap_or}

abbrev secret-at : List (List ℕ) → ℕ → List ℕ
secret-at secrets p = unwrap_or (slice_get secrets p) []

-- ---- keys

key-at : (params : Params) (id : List ℕ) (secrets : List (List ℕ)) (p : ℕ) → p < length secrets
    → slice_get (keys_of params id secrets) p ≡ Some (public_key (signing params id (secret-at secrets p)))
key-at params id [] p h = absurd (omega (arith, h))
key-at params id (secret ∷ secrets) zero h = refl
key-at params id (secret ∷ secrets) (suc p) h = key-at params id secrets p (omega (arith, h))

-- ---- anchors

anchors-many : (id : List ℕ) (rounds party : ℕ) (secrets : List (List ℕ))
    → length (anchors_from id rounds party secrets) ≡ length secrets
anchors-many id rounds party [] = refl
anchors-many id rounds party (secret ∷ secrets) = ap (λ n. suc n) (anchors-many id rounds (party + 1) secrets)

peers-many : (secrets : List (List ℕ)) (n : ℕ) → length secrets ≡ n + 1 → length (of_peers secrets) ≡ n
peers-many [] n e = absurd (omega (arith, e))
peers-many (secret ∷ secrets) n e = omega (arith, e)

anchor-at : (id : List ℕ) (rounds party : ℕ) (secrets : List (List ℕ)) (i p : ℕ) → i < length secrets → party + i ≡ p
    → slice_get (anchors_from id rounds party secrets) i ≡ Some (anchor_of (seeding id p (secret-at secrets i)) rounds)
anchor-at id rounds party [] i p h e = absurd (omega (arith, h))
anchor-at id rounds party (secret ∷ secrets) zero p h e =
    let same : party ≡ p = omega (arith, e) in
    ap (λ n. Some (anchor_of (seeding id n secret) rounds)) same
anchor-at id rounds party (secret ∷ secrets) (suc i) p h e =
    anchor-at id rounds (party + 1) secrets i p (omega (arith, h)) (omega (arith, e))

peer-anchor : (id : List ℕ) (rounds : ℕ) (secrets : List (List ℕ)) (p : ℕ) → p < length secrets → 1 ≤ p
    → slice_get (anchors_of id rounds secrets) (p - 1) ≡ Some (anchor_of (seeding id p (secret-at secrets p)) rounds)
peer-anchor id rounds [] p h low = absurd (omega (arith, h))
peer-anchor id rounds (secret ∷ secrets) zero h low = absurd (omega (arith, low))
peer-anchor id rounds (secret ∷ secrets) (suc p) h low =
    let before : suc p - 1 ≡ p = omega arith in
    rw before (anchor-at id rounds 1 secrets p (suc p) (omega (arith, h)) (omega arith))

-- ---- the setup

made-is-session : (shape : Shape) (n : Numbers) (secrets : List (List ℕ)) → AreNumbers shape n → length secrets ≡ shape.peers + 1
    → IsSession (made_session shape n secrets)
made-is-session shape n secrets are all = record {
  shape = are.shape_is;
  signatures = are.signatures;
  levels = one_level n.params;
  cap_low = are.cap_low;
  cap_high = are.cap_high;
  fanout_low = are.fanout_low;
  fanout_high = are.fanout_high;
  keys = length-map secrets (λ secret. public_key (signing n.params shape.id secret)) ∙ all;
  anchors = anchors-many shape.id shape.rounds 1 (of_peers secrets) ∙ peers-many secrets shape.peers all;
  leaves = are.leaves;
}

made-fits : (shape : Shape) (n : Numbers) (secrets : List (List ℕ)) (p : ℕ) → p < length secrets
    → Fits (made_session shape n secrets) p (secret-at secrets p)
unfolding public_by
made-fits shape n secrets p h = record {
  key = key-at n.params shape.id secrets p h;
  anchor = λ low. peer-anchor shape.id shape.rounds secrets p h low;
}

pub made-is-setup : (shape : Shape) (n : Numbers) (secrets : List (List ℕ)) (stream : List ℕ) → AreNumbers shape n
    → length secrets ≡ shape.peers + 1 → IsSetup (made_setup shape n secrets stream)
made-is-setup shape n secrets stream are all = record {
  session = made-is-session shape n secrets are all;
  parties = all;
  fits = λ p low. made-fits shape n secrets p (omega (arith, low, all));
}

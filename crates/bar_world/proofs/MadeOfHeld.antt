-- A session made from what its parties hold.
use Rattle.bar_lms.specs.declared.params.Params.{Params}
use Rattle.bar_lms.specs.Secret.{public_key}
use Rattle.bar_seeds.specs.declared.secrets.Secrets.{Secrets}
use Rattle.bar_seeds.specs.Seeds.{anchor_of}
use Rattle.bar_wire.specs.declared.shape.Shape.{Shape}
use Rattle.bar_roster.specs.declared.key_file.KeyFile.{KeyFile}
use Rattle.bar_session.specs.SessionData.{session_of_parts}
use Rattle.bar_rules.specs.Member.{Session}
use Rattle.bar_rules.specs.World.World.{IsSetup}
use Rattle.bar_world.specs.declared.numbers.Numbers.{Numbers}
use Rattle.bar_world.specs.Keys.{AreMade, anchor_in, held_in, key_by, public_in}
use Rattle.bar_world.specs.Made.{AreNumbers, signing, keys_of, seeding, anchors_from, anchors_of, session_by}
use Rattle.bar_world.specs.Code.Setups.{AreOfParties, setup_of}
use Rattle.bar_world.proofs.MadeLemmas.{made-is-setup}
use Rattle.std.proofs.Common.{◌≡◌, ℕ, zero, suc, List, [], ◌∷◌, ◌+◌, map, drop, length, refl, sym, ap, ◌∙◌, arith}
use Rattle.std.proofs.lemmas.List.{drop-map, length-map}
use Rattle.std.proofs.lemmas.Simd.{map-map}
use Rattle.std.specs.Prelude.{Some, slice_get}

-- what consecutive parties hold that have these secrets, starting with `party`
abbrev pub held_from : List ℕ → ℕ → List (List ℕ) → List Secrets
held_from id party [] = []
held_from id party (secret ∷ secrets) = seeding id party secret ∷ held_from id (party + 1) secrets

held-at : (id : List ℕ) (party : ℕ) (secrets : List (List ℕ)) (p : ℕ) (k : Secrets) → slice_get (held_from id party secrets) p ≡ Some k
    → (k.id ≡ id) × (k.party ≡ party + p)
held-at id party [] p k at = cc
held-at id party (secret ∷ secrets) zero k at =
    let is : seeding id party secret ≡ k = cc in
    let here : party ≡ party + zero = omega arith in
    (ap (λ (s : Secrets). s.id) (sym is), ap (λ (s : Secrets). s.party) (sym is) ∙ here)
held-at id party (secret ∷ secrets) (suc p) k at =
    let later = held-at id (party + 1) secrets p k at in
    let place : party + 1 + p ≡ party + suc p = omega arith in
    (later.0, later.1 ∙ place)

pub held-are : (session : Session) (secrets : List (List ℕ)) → AreOfParties session (held_from session.shape.id 0 secrets)
held-are session secrets = record {
  id = λ p k at. (held-at session.shape.id 0 secrets p k at).0;
  party = λ p k at. let e : k.party ≡ 0 + p = (held-at session.shape.id 0 secrets p k at).1 in omega arith;
}

-- ---- the session

keys-made : (params : Params) (id : List ℕ) (held : List Secrets) → ((p : ℕ) (k : Secrets) → slice_get held p ≡ Some k → k.id ≡ id)
    → map (λ (k : Secrets). public_key (signing params k.id k.secret)) held ≡ keys_of params id (map (λ (k : Secrets). k.secret) held)
keys-made params id [] ids = refl
keys-made params id (k ∷ held) ids =
    let here : k.id ≡ id = ids 0 k refl in
    λ i. public_key (signing params (here i) k.secret) ∷ keys-made params id held (λ p. ids (suc p)) i

anchors-made : (id : List ℕ) (rounds party : ℕ) (held : List Secrets) → ((p : ℕ) (k : Secrets) → slice_get held p ≡ Some k → k.id ≡ id)
    → ((p : ℕ) (k : Secrets) → slice_get held p ≡ Some k → k.party ≡ party + p)
    → map (λ (k : Secrets). anchor_of k rounds) held ≡ anchors_from id rounds party (map (λ (k : Secrets). k.secret) held)
anchors-made id rounds party [] ids parties = refl
anchors-made id rounds party (k ∷ held) ids parties =
    let here : k.id ≡ id = ids 0 k refl in
    let first : k.party ≡ party + 0 = parties 0 k refl in
    let is : k.party ≡ party = omega arith in
    let later : (p : ℕ) (s : Secrets) → slice_get held p ≡ Some s → s.party ≡ party + 1 + p =
    λ p s at. let next : s.party ≡ party + suc p = parties (suc p) s at in omega arith
    in
    λ i. anchor_of (seeding (here i) (is i) k.secret) rounds ∷ anchors-made id rounds (party + 1) held (λ p. ids (suc p)) later i

peers-made : (id : List ℕ) (rounds : ℕ) (held : List Secrets) → ((p : ℕ) (k : Secrets) → slice_get held p ≡ Some k → k.id ≡ id)
    → ((p : ℕ) (k : Secrets) → slice_get held p ≡ Some k → k.party ≡ p)
    → map (λ (k : Secrets). anchor_of k rounds) (drop 1 held) ≡ anchors_of id rounds (map (λ (k : Secrets). k.secret) held)
peers-made id rounds [] ids parties = refl
peers-made id rounds (k ∷ held) ids parties =
    let later : (p : ℕ) (s : Secrets) → slice_get held p ≡ Some s → s.party ≡ 1 + p =
    λ p s at. let next : s.party ≡ suc p = parties (suc p) s at in omega arith
    in
    anchors-made id rounds 1 held (λ p. ids (suc p)) later

-- ---- the session of key files

public-made : (params : Params) (rounds : ℕ) (keys : List KeyFile) → AreMade params rounds keys
    → map public_in keys ≡ map (λ (k : Secrets). public_key (signing params k.id k.secret)) (held_in keys)
public-made params rounds keys made = ap (map public_in) made ∙ map-map public_in (key_by params rounds) (held_in keys)

anchors-in : (params : Params) (rounds : ℕ) (keys : List KeyFile) → AreMade params rounds keys
    → map anchor_in (drop 1 keys) ≡ map (λ (k : Secrets). anchor_of k rounds) (drop 1 (held_in keys))
anchors-in params rounds keys made =
    ap (λ list. map anchor_in (drop 1 list)) made
    ∙ ap (map anchor_in) (drop-map (key_by params rounds) 1 (held_in keys))
    ∙ map-map anchor_in (key_by params rounds) (drop 1 (held_in keys))

pub session-is : (shape : Shape) (n : Numbers) (keys : List KeyFile) (public anchors : List (List ℕ)) → AreMade n.params shape.rounds keys
    → AreOfParties (session_by shape n (held_in keys)) (held_in keys)
    → public ≡ map public_in keys → anchors ≡ map anchor_in (drop 1 keys)
    → session_of_parts shape n.cap n.fanout n.port n.tick_ms n.params public anchors ≡ session_by shape n (held_in keys)
session-is shape n keys public anchors made are keyed anchored =
    let held = held_in keys in
    let all = keyed ∙ public-made n.params shape.rounds keys made ∙ keys-made n.params shape.id held are.id in
    let peers =
    anchored ∙ anchors-in n.params shape.rounds keys made ∙ peers-made shape.id shape.rounds held are.id are.party
    in
    λ i. session_of_parts shape n.cap n.fanout n.port n.tick_ms n.params (all i) (peers i)

pub of-setup : (shape : Shape) (n : Numbers) (keys : List KeyFile) (stream : List ℕ) → AreNumbers shape n → length keys ≡ shape.peers + 1
    → IsSetup (setup_of (session_by shape n (held_in keys)) (held_in keys) stream)
of-setup shape n keys stream numbers count =
    made-is-setup shape n (map (λ (k : Secrets). k.secret) (held_in keys)) stream numbers
    (length-map (held_in keys) (λ (k : Secrets). k.secret) ∙ length-map keys (λ (key : KeyFile). key.secrets) ∙ count)

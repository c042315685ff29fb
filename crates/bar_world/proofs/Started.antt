-- A world whose cores are started.
use Rattle.std.specs.declared.alloc.Global.{Global}
use Rattle.bar_seeds.specs.declared.secrets.Secrets.{Secrets}
use Rattle.bar_roster.specs.declared.key_file.KeyFile.{KeyFile}
use Rattle.bar_session.specs.Fits.{Fits}
use Rattle.bar_roster.specs.KeyFile.{IsHeldBy, IsKeyFileOf}
use Rattle.bar_rules.specs.Member.{Member, Session}
use Rattle.bar_rules.specs.Members.{member_by}
use Rattle.bar_rules.specs.World.World.{IsSetup, member}
use Rattle.bar_world.specs.declared.world.World.{World as KeptWorld}
use Rattle.bar_caster.specs.Code.Core.{caster_rules, face_of as caster_face}
use Rattle.bar_caster.specs.Code.StandsFor.{StandsFor as CasterTook}
use Rattle.bar_peer.specs.Core.{peer_rules, face_of as peer_face}
use Rattle.bar_peer.specs.Code.StandsFor.{StandsFor as PeerTook}
use Rattle.bar_world.specs.Code.Kept.{StandsFor}
use Rattle.bar_world.specs.Code.Cores.{IsNewCore}
use Rattle.bar_world.specs.Keys.{AreMade, held_in}
use Rattle.bar_world.specs.Code.Packets.{packets_of}
use Rattle.bar_world.specs.Code.Setups.{AreOfParties, setup_of}
use Rattle.bar_world.specs.Code.Texts.{texts}
use Rattle.bar_world.proofs.KeyFiles.{is-key-file, made-at, secrets-at}
use Rattle.std.proofs.Common.{◌≡◌, ◌<◌, ◌∙◌, ℕ, zero, suc, ◌+◌, true, false, List, [], ◌∷◌, ◌++◌, length, map, refl, sym, ap, subst, inl, inr, arith}
use Rattle.std.specs.Prelude.{Some, Vec, ◌⊎◌, option_map, remove, replicate, slice_get, slice_index_or, unwrap_or}
use Rattle.std.proofs.lemmas.List.{length-map, length-replicate}
use Rattle.std.proofs.lemmas.Option.{same_Some, slice_get-map, slice_get-get_or, slice_get_within}

replicate-map : {X : Type 0} (xs : List X) (n : ℕ) → length xs ≡ n → ◌≡◌ {A = List (List ℕ)} (replicate n []) (map (λ x. []) xs)
replicate-map [] zero e = refl
replicate-map [] (suc n) e = absurd (omega (arith, e))
replicate-map (s ∷ secrets) zero e = absurd (omega (arith, e))
replicate-map (s ∷ secrets) (suc n) e = ap (λ z. [] ∷ z) (replicate-map secrets n (omega (arith, e)))

-- the first element of a list is removed
taken-first : {X : Type 0} (xs : List X) (x : X) → 0 < length xs → x ≡ slice_index_or xs 0 x → xs ≡ x ∷ remove xs 0
taken-first [] x h e = absurd (omega (arith, h))
taken-first (y ∷ xs) x h e = ap (λ z. z ∷ xs) (sym e)

-- ---- the world

module _ (session : Session) (secrets : List Secrets) (stream : List ℕ) (setup : IsSetup (setup_of session secrets stream))
    (parties : AreOfParties session secrets) where
  -- the secret of a party
  secret-at : (p : ℕ) (k : Secrets) → slice_get secrets p ≡ Some k
      → unwrap_or (slice_get (map (λ (s : Secrets). s.secret) secrets) p) [] ≡ k.secret
  secret-at p k at =
      ap (λ o. unwrap_or o []) (slice_get-map (λ (s : Secrets). s.secret) secrets p)
      ∙ ap (λ o. unwrap_or (option_map (λ (s : Secrets). s.secret) o) []) at

  count : length secrets ≡ session.shape.peers + 1
  count = sym (length-map secrets (λ (s : Secrets). s.secret)) ∙ setup.parties

  member-at : (p : ℕ) (k : Secrets) → slice_get secrets p ≡ Some k → member_by session k ≡ member (setup_of session secrets stream) p
  member-at p k at = λ i. record { session = session; party = parties.party p k at i; secret = sym (secret-at p k at) i }

  held-at : (p : ℕ) (k : Secrets) → slice_get secrets p ≡ Some k → Fits session k.party k.secret
  held-at p k at =
      let low : p < length secrets = slice_get_within secrets p k at in
      let many : length secrets ≡ session.shape.peers + 1 = count in
      subst (λ party. Fits session party k.secret) (sym (parties.party p k at))
      (subst (λ secret. Fits session p secret) (secret-at p k at) (setup.fits p (omega arith)))

  caster-held : (k : Secrets) → slice_get secrets 0 ≡ Some k → IsHeldBy session true k
  caster-held k at =
      let zero_is : k.party ≡ 0 = parties.party 0 k at in
      record { id = parties.id 0 k at; party = omega arith; role = zero_is; fits = held-at 0 k at }

  peer-held : (i : ℕ) (k : Secrets) → slice_get secrets (suc i) ≡ Some k → IsHeldBy session false k
  peer-held i k at =
      let low : suc i < length secrets = slice_get_within secrets (suc i) k at in
      let many : length secrets ≡ session.shape.peers + 1 = count in
      let is : k.party ≡ suc i = parties.party (suc i) k at in
      record { id = parties.id (suc i) k at; party = omega arith; role = omega arith; fits = held-at (suc i) k at }

  pub started : (w : KeptWorld) (first : KeyFile) (others : List KeyFile) → secrets ≡ held_in (first ∷ others)
      → IsNewCore (caster_rules (member_by session first.secrets) stream) (CasterTook w.caster.memory)
      (caster_face w.caster.memory w.caster.orders)
      → length w.peers.items ≡ length others
      → ((i : ℕ) (peer : _) (key : KeyFile) → slice_get w.peers.items i ≡ Some peer → slice_get others i ≡ Some key
      → IsNewCore (peer_rules (member_by session key.secrets)) (PeerTook peer.memory) (peer_face peer.memory peer.orders peer.playing))
      → (n : ℕ) → n ≡ length secrets → texts w.played.items ≡ replicate n [] → packets_of w.pool.items ≡ []
      → StandsFor (setup_of session secrets stream) [] w
  started w first others split caster same peers n all none_played none_sent = record {
    setup_is = setup;
    count =
        let many : length secrets ≡ session.shape.peers + 1 = count in
        let one : length secrets ≡ suc (length others) = ap length split ∙ length-map (first ∷ others) (λ (key : KeyFile). key.secrets) in
        same ∙ omega (arith, many, one);
    caster = record {
      rules_are =
          caster.core.rules_are
          ∙ ap (λ (me : Member). caster_rules me stream) (member-at 0 first.secrets (ap (λ xs. slice_get xs 0) split));
      took = caster.core.took;
    };
    peers = λ i peer at.
        let low : i < length w.peers.items = slice_get_within w.peers.items i peer at in
        let there = slice_get-get_or others i first (omega (arith, low, same)) in
        let new = peers i peer _ at there in
        let next : i + 1 ≡ suc i = omega arith in
        record {
          rules_are =
              new.core.rules_are
              ∙ ap peer_rules
              (member-at (i + 1) _
              (ap (λ xs. slice_get xs (i + 1)) split ∙ ap (λ n. slice_get (held_in (first ∷ others)) n) next
              ∙ secrets-at others i _ there));
          took = new.core.took;
        };
    played =
        none_played
        ∙ replicate-map (map (λ (s : Secrets). s.secret) secrets) n (length-map secrets (λ (s : Secrets). s.secret) ∙ sym all);
    packets = none_sent;
  }

module _ (session : Session) (keys : List KeyFile) (stream : List ℕ) (made : AreMade session.params session.shape.rounds keys)
    (setup : IsSetup (setup_of session (held_in keys) stream)) (parties : AreOfParties session (held_in keys)) where
  pub caster-key : (key : KeyFile) → slice_get keys 0 ≡ Some key → IsKeyFileOf session true key
  caster-key key at =
      is-key-file session true key (made-at session.params session.shape.rounds keys 0 key made at)
      (caster-held session (held_in keys) stream setup parties key.secrets (secrets-at keys 0 key at))

  pub first-and-rest : (first : KeyFile) (rest : List KeyFile) → first ≡ slice_index_or keys 0 first → rest ≡ remove keys 0
      → keys ≡ first ∷ rest
  first-and-rest first rest one others =
      let many : length (held_in keys) ≡ session.shape.peers + 1 = count session (held_in keys) stream setup parties in
      let same : length (held_in keys) ≡ length keys = length-map keys (λ (key : KeyFile). key.secrets) in
      taken-first keys first (omega (arith, many, same)) one ∙ ap (λ xs. first ∷ xs) (sym others)

  pub peer-key : (i : ℕ) (key : KeyFile) → slice_get keys (suc i) ≡ Some key → IsKeyFileOf session false key
  peer-key i key at =
      is-key-file session false key (made-at session.params session.shape.rounds keys (suc i) key made at)
      (peer-held session (held_in keys) stream setup parties i key.secrets (secrets-at keys (suc i) key at))

-- ---- the peers, one after another

push-cases : {X : Type 0} (xs : List X) (x : X) (p : ℕ) (y : X) → slice_get (xs ++ x ∷ []) p ≡ Some y
    → ((p ≡ length xs) × (y ≡ x)) ⊎ (slice_get xs p ≡ Some y)
push-cases [] x zero y e = inl (refl, cc)
push-cases [] x (suc p) y e = cc
push-cases (z ∷ xs) x zero y e = inr e
push-cases (z ∷ xs) x (suc p) y e = go (push-cases xs x p y e)
  where
    go : ((p ≡ length xs) × (y ≡ x)) ⊎ (slice_get xs p ≡ Some y) → ((suc p ≡ suc (length xs)) × (y ≡ x)) ⊎ (slice_get xs p ≡ Some y)
    go (inl h) = inl (ap (λ n. suc n) h.0, h.1)
    go (inr h) = inr h

pub started-more : {X Y : Type 0} (old new : List X) (x : X) (Q : X → Y → Type 0) (keys : List Y) (n : ℕ) (next : Y)
    → new ≡ old ++ x ∷ [] → length old ≡ n → slice_get keys n ≡ Some next → Q x next
    → ((i : ℕ) (y : X) (k : Y) → slice_get old i ≡ Some y → slice_get keys i ≡ Some k → Q y k)
    → (i : ℕ) (y : X) (k : Y) → slice_get new i ≡ Some y → slice_get keys i ≡ Some k → Q y k
started-more {X} {Y} old new x Q keys n next grown long here this before i y k at of =
    go (push-cases old x i y (subst (λ xs. slice_get xs i ≡ Some y) grown at))
  where
    go : ((i ≡ length old) × (y ≡ x)) ⊎ (slice_get old i ≡ Some y) → Q y k
    go (inr h) = before i y k h of
    go (inl h) =
        let place : i ≡ n = h.0 ∙ long in
        let same : Some next ≡ Some k = sym here ∙ ap (λ p. slice_get keys p) (sym place) ∙ of in
        let is : next ≡ k = same_Some next k same in
        subst (λ z. Q z k) (sym h.1) (subst (λ z. Q x z) is this)

-- the element after the first part of a list
at-seam : {X : Type 0} (xs ys : List X) (x : X) → slice_get (xs ++ x ∷ ys) (length xs) ≡ Some x
at-seam [] ys x = refl
at-seam (z ∷ xs) ys x = at-seam xs ys x

-- the next element is the first of those that are left
pub next-at : {X : Type 0} (all taken rest left : List X) (x : X) → all ≡ taken ++ rest → rest ≡ x ∷ left
    → slice_get all (length taken) ≡ Some x
next-at all taken rest left x split next =
    ap (λ xs. slice_get xs (length taken)) (split ∙ ap (λ xs. taken ++ xs) next) ∙ at-seam taken left x

pub texts-count : (played : List (Vec ℕ Global)) (n : ℕ) → texts played ≡ replicate n [] → length played ≡ n
texts-count played n e =
    sym (length-map played (λ (bytes : Vec ℕ Global). bytes.items)) ∙ ap length e ∙ length-replicate {A = List ℕ} n []

-- A kept world after one input of one party.
use Rattle.std.specs.declared.alloc.AllocError.{AllocError}
use Rattle.std.specs.declared.alloc.Global.{Global}
use Rattle.bar_wire.specs.Inputs.{Input}
use Rattle.bar_core.specs.Code.Face.{IsIdle}
use Rattle.bar_core.specs.Rules.{Rules}
use Rattle.bar_rules.specs.Broadcaster.Sending.{caster_step}
use Rattle.bar_rules.specs.Peer.Log.{Log}
use Rattle.bar_rules.specs.Peer.Run.{step}
use Rattle.bar_rules.specs.Runs.{Outcome, state_after}
use Rattle.bar_rules.specs.World.World.{Setup, Move, member, party_step, spelled}
use Rattle.bar_laws.specs.Parties.{after}
use Rattle.bar_laws.specs.OwnRuns.{inputs_of, input_at, IsOwnRun, PeersRun, BroadcasterRuns}
use Rattle.bar_caster.specs.Code.Core.{face_of as caster_face}
use Rattle.bar_caster.specs.Code.StandsFor.{StandsFor as CasterTook}
use Rattle.bar_peer.specs.Core.{face_of as peer_face}
use Rattle.bar_peer.specs.Code.StandsFor.{StandsFor as PeerTook}
use Rattle.bar_world.specs.declared.world.World.{World as KeptWorld}
use Rattle.bar_world.specs.Code.Cores.{Fed}
use Rattle.bar_world.specs.Code.Given.{Gives}
use Rattle.bar_world.specs.Code.Kept.{CasterRan, IsReady, PeerRan, StandsFor}
use Rattle.bar_world.specs.Code.Packets.{packets_of}
use Rattle.bar_world.proofs.Silent.{step-silent}
use Rattle.bar_world.proofs.Worlds.{others-took, others-get-nothing, own-took, packets-more, played-more}
use Rattle.std.proofs.Common.{◌≡◌, ◌<◌, ◌∙◌, ℕ, zero, suc, ◌+◌, false, List, [], ◌∷◌, ◌++◌, eqb, cond, length, refl, sym, ap, subst, inl, inr, arith}
use Rattle.std.specs.Prelude.{Vec, Some, ◌⊎◌, OnOk, Result, Ok, Err, slice_get, slice_set}
use Rattle.std.specs.List.{concat}
use Rattle.std.proofs.lemmas.Bool.{ne_eqb}

set-cases : {X : Type 0} (xs : List X) (p q : ℕ) (y z : X) → slice_get (slice_set xs p y) q ≡ Some z
    → ((q ≡ p) × (z ≡ y)) ⊎ ((q ≡ p → ⊥) × (slice_get xs q ≡ Some z))
set-cases [] p q y z e = cc
set-cases (x ∷ xs) zero zero y z e = inl (refl, cc)
set-cases (x ∷ xs) zero (suc q) y z e = inr (λ h. cc, e)
set-cases (x ∷ xs) (suc p) zero y z e = inr (λ h. cc, e)
set-cases (x ∷ xs) (suc p) (suc q) y z e = go (set-cases xs p q y z e)
  where
    go : ((q ≡ p) × (z ≡ y)) ⊎ ((q ≡ p → ⊥) × (slice_get xs q ≡ Some z))
        → ((suc q ≡ suc p) × (z ≡ y)) ⊎ ((suc q ≡ suc p → ⊥) × (slice_get xs q ≡ Some z))
    go (inl h) = inl (ap (λ n. suc n) h.0, h.1)
    go (inr h) = inr (λ s. h.0 (omega (arith, s)), h.1)

other-party : (p q : ℕ) → (p ≡ q → ⊥) → eqb p q ≡ false
other-party p q ne = ne_eqb p q ne

-- ---- the broadcaster

pub caster-took : (setup : Setup) (moves : List Move) (m : Move) (input : Input) (old new : KeptWorld) (bytes more : Vec ℕ Global)
    → BroadcasterRuns → Gives setup (after setup moves) m 0 input
    → Fed (CasterTook old.caster.memory) (CasterTook new.caster.memory) (caster_face old.caster.memory old.caster.orders)
    (caster_face new.caster.memory new.caster.orders) input (packets_of old.pool.items) (packets_of new.pool.items) bytes.items more.items
    → slice_get old.played.items 0 ≡ Some bytes → new.peers.items ≡ old.peers.items → new.played.items ≡ slice_set old.played.items 0 more
    → StandsFor setup moves old → StandsFor setup (moves ++ m ∷ []) new
caster-took setup moves m input old new bytes more runs gives fed at peers_stay set s = record {
  setup_is = s.setup_is;
  count = ap length peers_stay ∙ s.count;
  caster = own-took setup moves m 0 input gives steps (λ log i. refl) own _ _ _ _ _ s.caster fed.rules fed.stands;
  peers = λ i peer there.
      others-took setup moves m (i + 1) _ _ _
      (others-get-nothing setup moves m 0 input gives steps (λ log i. refl) own (i + 1) (other-party 0 (i + 1) (λ e. omega arith)))
      (s.peers i peer (subst (λ ps. slice_get ps i ≡ Some peer) peers_stay there));
  played =
      played-more setup moves m 0 input gives steps (λ log i. refl) own _ _ bytes more s.played at set
      (fed.played_is before s.caster.took ∙ ap (λ z. bytes.items ++ concat z) silent);
  packets =
      packets-more setup moves m 0 input gives steps (λ log i. refl) own _ _ s.packets
      (fed.packets_are before s.caster.took ∙ ap (λ z. packets_of old.pool.items ++ z) sent);
}
  where
    steps : Log → Input → Outcome Log
    steps = caster_step (member setup 0) setup.stream

    before : List Input
    before = inputs_of setup moves 0

    own : IsOwnRun setup moves 0 steps
    own = runs setup moves s.setup_is

    silent :
        (caster_face old.caster.memory old.caster.orders).rules.contents before input
        ≡ (steps (state_after steps [] before) input).contents
    silent =
        ap (λ (r : Rules). r.contents before input) s.caster.rules_are
        ∙ sym (step-silent (member setup 0) setup.stream (state_after steps [] before) input)

    sent :
        (caster_face old.caster.memory old.caster.orders).rules.sends before input
        ≡ spelled setup.session (steps (state_after steps [] before) input).sends
    sent = ap (λ (r : Rules). r.sends before input) s.caster.rules_are

-- ---- a peer

peer-steps : (setup : Setup) (i : ℕ) (log : Log) (input : Input)
    → party_step setup (i + 1) log input ≡ step (member setup (i + 1)) log input
peer-steps setup i log input =
    ap (λ b. cond b (caster_step (member setup 0) setup.stream log input) (step (member setup (i + 1)) log input))
    (other-party (i + 1) 0 (λ e. omega arith))

pub peer-took : (setup : Setup) (moves : List Move) (m : Move) (i : ℕ) (input : Input) (old new : KeptWorld)
    (bytes more : Vec ℕ Global) → PeersRun
    → Gives setup (after setup moves) m (i + 1) input → (core : _) → slice_get old.peers.items i ≡ Some core → (next : _)
    → new.peers.items ≡ slice_set old.peers.items i next
    → Fed (PeerTook core.memory) (PeerTook next.memory) (peer_face core.memory core.orders core.playing)
    (peer_face next.memory next.orders next.playing) input (packets_of old.pool.items) (packets_of new.pool.items) bytes.items more.items
    → i < length old.peers.items → slice_get old.played.items (i + 1) ≡ Some bytes → new.caster ≡ old.caster
    → length new.peers.items ≡ length old.peers.items → new.played.items ≡ slice_set old.played.items (i + 1) more
    → StandsFor setup moves old → StandsFor setup (moves ++ m ∷ []) new
peer-took setup moves m i input old new bytes more runs gives core here next peers_are fed low at caster_stays many set s = record {
  setup_is = s.setup_is;
  count = many ∙ s.count;
  caster =
      subst (λ caster. CasterRan setup (moves ++ m ∷ []) caster.memory caster.orders) (sym caster_stays)
      (others-took setup moves m 0 _ _ _ (nothing 0 (λ e. omega arith)) s.caster);
  peers = λ q peer there. peers q peer (set-cases old.peers.items i q next peer (subst (λ ps. slice_get ps q ≡ Some peer) peers_are there));
  played =
      played-more setup moves m (i + 1) input gives steps (peer-steps setup i) own _ _ bytes more s.played at set
      (fed.played_is before mine.took ∙ ap (λ z. bytes.items ++ concat z) contents);
  packets =
      packets-more setup moves m (i + 1) input gives steps (peer-steps setup i) own _ _ s.packets
      (fed.packets_are before mine.took ∙ ap (λ z. packets_of old.pool.items ++ z) sent);
}
  where
    steps : Log → Input → Outcome Log
    steps = step (member setup (i + 1))

    before : List Input
    before = inputs_of setup moves (i + 1)

    mine : PeerRan setup moves (i + 1) core.memory core.orders core.playing
    mine = s.peers i core here

    own : IsOwnRun setup moves (i + 1) steps
    own = runs setup moves s.setup_is (i + 1) (omega arith) (let n = s.count in omega arith)

    nothing : (q : ℕ) → (i + 1 ≡ q → ⊥) → input_at (after setup moves) q m ≡ []
    nothing q other =
        others-get-nothing setup moves m (i + 1) input gives steps (peer-steps setup i) own q (other-party (i + 1) q other)

    peers : (q : ℕ) (peer : _) → ((q ≡ i) × (peer ≡ next)) ⊎ ((q ≡ i → ⊥) × (slice_get old.peers.items q ≡ Some peer))
        → PeerRan setup (moves ++ m ∷ []) (q + 1) peer.memory peer.orders peer.playing
    peers q peer (inl h) =
        subst (λ n. PeerRan setup (moves ++ m ∷ []) (n + 1) peer.memory peer.orders peer.playing) (sym h.0)
        (subst (λ p. PeerRan setup (moves ++ m ∷ []) (i + 1) p.memory p.orders p.playing) (sym h.1)
        (own-took setup moves m (i + 1) input gives steps (peer-steps setup i) own _ _ _ _ _ mine fed.rules fed.stands))
    peers q peer (inr h) = others-took setup moves m (q + 1) _ _ _ (nothing (q + 1) (λ e. h.0 (omega (arith, e)))) (s.peers q peer h.1)

    contents :
        (peer_face core.memory core.orders core.playing).rules.contents before input
        ≡ (steps (state_after steps [] before) input).contents
    contents = ap (λ (r : Rules). r.contents before input) mine.rules_are

    sent :
        (peer_face core.memory core.orders core.playing).rules.sends before input
        ≡ spelled setup.session (steps (state_after steps [] before) input).sends
    sent = ap (λ (r : Rules). r.sends before input) mine.rules_are

pub peer-ready : (old new : KeptWorld) (i : ℕ) (next : _) → new.peers.items ≡ slice_set old.peers.items i next
    → IsIdle (peer_face next.memory next.orders next.playing) → new.caster ≡ old.caster → length new.peers.items ≡ length old.peers.items
    → length new.played.items ≡ length old.played.items → length new.buf.items ≡ length old.buf.items → IsReady old → IsReady new
peer-ready old new i next peers_are idle caster_stays many texts room ready = record {
  caster = subst (λ caster. IsIdle (caster_face caster.memory caster.orders)) (sym caster_stays) ready.caster;
  peers = λ q peer there. peers q peer (set-cases old.peers.items i q next peer (subst (λ ps. slice_get ps q ≡ Some peer) peers_are there));
  texts = texts ∙ ready.texts ∙ ap (λ n. n + 1) (sym many);
  room = room ∙ ready.room;
}
  where
    peers : (q : ℕ) (peer : _) → ((q ≡ i) × (peer ≡ next)) ⊎ ((q ≡ i → ⊥) × (slice_get old.peers.items q ≡ Some peer))
        → IsIdle (peer_face peer.memory peer.orders peer.playing)
    peers q peer (inl h) = subst (λ p. IsIdle (peer_face p.memory p.orders p.playing)) (sym h.1) idle
    peers q peer (inr h) = ready.peers q peer h.1

-- ---- if the call succeeds

pub on-ok : {P Q : Type 0} (r : Result (Unit {0}) AllocError) → (P → Q) → OnOk r P → OnOk r Q
on-ok (Ok u) f p = f p
on-ok (Err e) f p = tt

-- A world in which two peers can trade: each is given the block of one update, and the first asks and offers.
use Rattle.std.proofs.Common.{◌≡◌, ◌∙◌, ℕ, ◌+◌, ◌-◌, ◌*◌, ◌<◌, Bool, true, false, ◌&&◌, not, List, [], ◌∷◌, ◌++◌, length, map, refl, eqb, ap, subst, arith}
use Rattle.std.specs.Prelude.{Option, Some, None, cond, filter, nat_lt, slice_get, slice_set, unwrap_or, replicate}
use Rattle.std.specs.Bool.{then_some}
use Rattle.std.specs.List.{AllByRecursion, concat}
use Rattle.std.specs.Option.{option_or}
use Rattle.std.proofs.lemmas.Bool.{and_from, lt-ltb}
use Rattle.sha2.specs.Sha256.{sha256}
use Rattle.bar_bytes.proofs.Tests.{bytes_eq-refl, eqb_refl}
use Rattle.bar_lms.specs.declared.params.Height.TheVariants.{H10}
use Rattle.bar_lms.specs.declared.params.Ots.TheVariants.{W8}
use Rattle.bar_session.proofs.Levels.{one_level}
use Rattle.bar_session.specs.Sessions.{IsSession}
use Rattle.bar_seeds.proofs.PartnerLemmas.{partner_low, partner_high, partner_other}
use Rattle.bar_seeds.proofs.SeedLemmas.{own_seed}
use Rattle.bar_seeds.specs.Seeds as seeds
use Rattle.bar_terms.specs.Table.{Digest, Known, digest_at, is_known, is_past_end}
use Rattle.bar_window.specs.declared.exchange.Exchange.{Exchange}
use Rattle.bar_window.specs.declared.exchange.Role.{Role}
use Rattle.bar_window.specs.declared.exchange.XKind.{XKind}
use Rattle.bar_window.specs.declared.exchange.XKind.TheVariants.{Balanced, Push}
use Rattle.bar_window.specs.declared.update.UpdateId.{UpdateId}
use Rattle.bar_wire.specs.Datagram.{Block, Datagram, Manifest}
use Rattle.bar_wire.specs.Inputs as event
use Rattle.bar_wire.specs.Kinds.{code_of}
use Rattle.bar_wire.specs.Limits.{IsShape}
use Rattle.bar_wire.specs.declared.kind.Kind.{Kind}
use Rattle.bar_rules.specs.Broadcaster.Sending.{caster_signed, caster_step, send_block, send_blocks}
use Rattle.bar_rules.specs.Broadcaster.Stream.{block_bytes, is_in_fanout, manifest_list, piece_of, round_blocks}
use Rattle.bar_rules.specs.Member.{Member, Session}
use Rattle.bar_rules.specs.Peer.Admission.{has_digest, is_admitted}
use Rattle.bar_rules.specs.Peer.Evidence.{new_evidence}
use Rattle.bar_rules.specs.Peer.Knowledge.{known}
use Rattle.bar_rules.specs.Peer.Log.{Heard, Log, Said, Ticked}
use Rattle.bar_rules.specs.Peer.Machine as machine
use Rattle.bar_rules.specs.Peer.Machine.{message_to}
use Rattle.bar_rules.specs.Peer.Orders.{ask_body}
use Rattle.bar_rules.specs.Peer.Run.{step}
use Rattle.bar_rules.specs.Peer.Signing.{signed}
use Rattle.bar_rules.specs.Runs.{Outcome, begun}
use Rattle.bar_rules.specs.Secrets.{is_seed, nonce_of, partner_of, secrets_of, seed_of}
use Rattle.bar_rules.specs.Values.{datagram_bytes, unsigned}
use Rattle.bar_rules.specs.World.World.{Deliver, IsSetup, Move, Setup, TickOf, World, happens, initial, member, run, spelled}
use Rattle.bar_laws.specs.Broadcasting.{FanoutsAreWhole}
use Rattle.bar_laws.specs.Parties.{IsSentBy, StepIsAccepted, after}
use Rattle.bar_laws.specs.Premises.{IsPlainMove, PlainMovesForgeNothing, SetupOf, SetupsExist}
use Rattle.bar_progress.specs.Pushes.{BeginsPush}
use Rattle.bar_progress.specs.Pushing.{CanPush}
use Rattle.bar_progress.specs.Trading.{CanTrade}
use Rattle.bar_progress.specs.Trades.{BeginsTrade, IsUnderWay, pair_in, talk_in}
use Rattle.bar_progress.specs.Witness.{PushBegun, TradeBegun, all_trusted}
use Rattle.bar_progress.proofs.Announcing.{by-admission, step-takes}

-- ---- the session

abbrev id : List ℕ
id = 0 ∷ 0x11 ∷ 0x22 ∷ 0x33 ∷ 0x44 ∷ 0x55 ∷ 0x66 ∷ 0x77 ∷ []

shaped : IsShape id 4
shaped = record { id_long = refl; alive = omega arith; few = omega arith }

abbrev small : List (List ℕ) → List (List ℕ) → Session
small keys anchors = record {
  shape = record { version = 1; id = id; peers = 2; rounds = 10; life = 4; per_round = 2; sig_len = 1452; shaped = shaped };
  cap = 4;
  fanout = 2;
  port = 4000;
  tick_ms = 250;
  top = None;
  params = record { height = H10; ots = W8 };
  keys = keys;
  anchors = anchors;
}

small-is : IsSession (small ([] ∷ [] ∷ [] ∷ []) ([] ∷ [] ∷ []))
small-is = record {
  shape = record {
    version_low = omega arith;
    version_high = omega arith;
    peers_low = omega arith;
    peers_high = omega arith;
    rounds_low = omega arith;
    rounds_high = omega arith;
    life_low = omega arith;
    per_round_low = omega arith;
    per_round_high = omega arith;
  };
  signatures = refl;
  levels = one_level (record { height = H10; ots = W8 });
  cap_low = omega arith;
  cap_high = omega arith;
  fanout_low = omega arith;
  fanout_high = omega arith;
  keys = refl;
  anchors = refl;
  leaves = omega arith;
}

-- ---- lists of two

abbrev pair_by : Bool → Bool → List ℕ
pair_by a b = cond a (1 ∷ cond b (2 ∷ []) []) (cond b (2 ∷ []) [])

both-kept : (f : ℕ → Bool) → length {A = ℕ} (filter f (1 ∷ 2 ∷ [])) ≡ 2 → filter f (1 ∷ 2 ∷ []) ≡ 1 ∷ 2 ∷ []
both-kept f e = go (f 1) (f 2) e
  where
    go : (a b : Bool) → length (pair_by a b) ≡ 2 → pair_by a b ≡ 1 ∷ 2 ∷ []
    go true true e = refl
    go true false e = cc
    go false true e = cc
    go false false e = cc

both-made : {X : Type 0} (f : ℕ → X) (a b : Bool) → a ≡ true → b ≡ true → map f (cond a (0 ∷ cond b (1 ∷ []) []) (cond b (1 ∷ []) [])) ≡ f 0 ∷ f 1 ∷ []
both-made f true true d e = refl
both-made f true false d e = cc
both-made f false b d e = cc

-- a manifest and a block are of no exchange
neither : (a b : Bool) (c d : Datagram) → option_or (option_or None (then_some (a && false) c)) (then_some (b && false) d) ≡ None
neither true true c d = refl
neither true false c d = refl
neither false true c d = refl
neither false false c d = refl

partner-two : (s : Session) (seed : List ℕ) (kind : XKind) → s.shape.peers ≡ 2 → partner_of s seed kind 1 ≡ 2
partner-two s seed kind two =
    let low = partner_low s.shape.id s.shape.peers seed kind 1 in
    let high = partner_high s.shape.id s.shape.peers seed kind 1 (omega (arith, two)) in
    let other = partner_other s.shape.id s.shape.peers seed kind 1 in
    omega (arith, two, low, high, other)

-- ---- the world

module _ (keys anchors : List (List ℕ)) (s0 s1 s2 stream : List ℕ) where
  abbrev s : Session
  s = small keys anchors

  abbrev setup : Setup
  setup = record { session = s; secrets = s0 ∷ s1 ∷ s2 ∷ []; stream = stream }

  abbrev caster : Member
  caster = member setup 0

  abbrev one : Member
  one = member setup 1

  abbrev u0 : UpdateId
  u0 = record { round = 1; index = 0 }

  abbrev u1 : UpdateId
  u1 = record { round = 1; index = 1 }

  abbrev b0 : List ℕ
  b0 = block_bytes (piece_of stream 0)

  abbrev b1 : List ℕ
  b1 = block_bytes (piece_of stream 1)

  -- what is said and sent
  abbrev manifest : Datagram
  manifest = caster_signed caster 0 (Manifest 1 (manifest_list s stream 1))

  abbrev block_to : ℕ → UpdateId → List ℕ → Datagram
  block_to p u b = unsigned (record { from = 0; to = p; body = Block u b })

  abbrev had : ℕ → UpdateId → List ℕ → Log
  had p u b = Heard (block_to p u b) ∷ Heard manifest ∷ []

  abbrev with_one : XKind → ℕ → Exchange
  with_one kind to = record { round = 1; kind = kind; initiator = 1; responder = to }

  abbrev asking : Log → XKind → ℕ → Datagram
  asking log kind to = signed one (known one log) (message_to one (with_one kind to) (ask_body one (known one log) (with_one kind to) kind))

  abbrev ticked : Log
  ticked = Ticked ∷ had 1 u0 b0

  abbrev request : Datagram
  request = asking ticked Balanced 2

  abbrev query : Datagram
  query = asking (Said request ∷ ticked) Push 2

  -- each step
  abbrev out1 : Outcome Log
  out1 = record { state = Said manifest ∷ Ticked ∷ []; sends = (1, manifest) ∷ (2, manifest) ∷ []; contents = [] }

  abbrev out2 : Outcome Log
  out2 = record {
    state = Ticked ∷ Said manifest ∷ Ticked ∷ [];
    sends = (1, block_to 1 u0 b0) ∷ (2, block_to 2 u0 b0) ∷ (1, block_to 1 u1 b1) ∷ (2, block_to 2 u1 b1) ∷ [];
    contents = [];
  }

  abbrev asked : ℕ → ℕ → Outcome Log
  asked p q =
      let r : Datagram = asking ticked Balanced p in
      let d : Datagram = asking (Said r ∷ ticked) Push q in
      record { state = Said d ∷ Said r ∷ ticked; sends = (p, r) ∷ (q, d) ∷ []; contents = [] }

  abbrev becomes : World → ℕ → Outcome Log → World
  becomes w p out = record {
    logs = slice_set w.logs p out.state;
    played = slice_set w.played p (unwrap_or (slice_get w.played p) [] ++ concat out.contents);
    packets = w.packets ++ spelled s out.sends;
  }

  abbrev w0 : World
  w0 = initial setup

  abbrev w1 : World
  w1 = becomes w0 0 out1

  abbrev w2 : World
  w2 = becomes w1 0 out2

  abbrev w3 : World
  w3 = becomes w2 1 (begun (Heard manifest ∷ []))

  abbrev w4 : World
  w4 = becomes w3 2 (begun (Heard manifest ∷ []))

  abbrev w5 : World
  w5 = becomes w4 1 (begun (had 1 u0 b0))

  abbrev w6 : World
  w6 = becomes w5 2 (begun (had 2 u1 b1))

  abbrev w7 : World
  w7 = becomes w6 1 (asked 2 2)

  -- ---- what the broadcaster does

  tick1 : caster_step caster stream [] event.Tick ≡ out1
  unfolding caster_step
  tick1 = refl

  module _ (long : 1022 < length stream) (whole : FanoutsAreWhole) where
    blocks-are : round_blocks s stream 1 ≡ b0 ∷ b1 ∷ []
    blocks-are = both-made (λ i. block_bytes (piece_of stream ((1 - 1) * 2 + i))) (nat_lt 0 (length stream)) (nat_lt 1022 (length stream)) (lt-ltb _ _ (omega (arith, long))) (lt-ltb _ _ long)

    digests-are : manifest_list s stream 1 ≡ sha256 b0 ∷ sha256 b1 ∷ []
    digests-are = ap (map sha256) blocks-are

    fan : (u : UpdateId) → filter (is_in_fanout caster u) (1 ∷ 2 ∷ []) ≡ 1 ∷ 2 ∷ []
    fan u = both-kept (is_in_fanout caster u) (whole caster u (omega arith))

    tick2 : caster_step caster stream (Said manifest ∷ Ticked ∷ []) event.Tick ≡ out2
    unfolding caster_step
    tick2 =
        ap (λ bs. send_blocks caster 1 0 bs (begun (Ticked ∷ Said manifest ∷ Ticked ∷ []))) blocks-are
        ∙ ap (λ ps. send_blocks caster 1 1 (b1 ∷ []) (send_block (begun (Ticked ∷ Said manifest ∷ Ticked ∷ [])) ps u0 b0)) (fan u0)
        ∙ ap (λ ps. send_block (send_block (begun (Ticked ∷ Said manifest ∷ Ticked ∷ [])) (1 ∷ 2 ∷ []) u0 b0) ps u1 b1) (fan u1)

    -- ---- what the peers do

    module _ (is : IsSetup setup) (accepted : StepIsAccepted) where
      -- each of these is accepted as it was sent
      sent1 : AllByRecursion (IsSentBy setup 0) out1.sends
      sent1 = subst (λ (out : Outcome Log). AllByRecursion (IsSentBy setup 0) out.sends) tick1 (accepted setup [] is 0 [] event.Tick refl)

      reach1 : after setup (TickOf 0 ∷ []) ≡ w1
      reach1 = ap (becomes w0 0) tick1

      sent2 : AllByRecursion (IsSentBy setup 0) out2.sends
      sent2 =
          subst (λ (out : Outcome Log). AllByRecursion (IsSentBy setup 0) out.sends) tick2
          (accepted setup (TickOf 0 ∷ []) is 0 (Said manifest ∷ Ticked ∷ []) event.Tick (ap (λ (w : World). slice_get w.logs 0) reach1))

      manifest-admitted : (p : ℕ) → IsSentBy setup 0 (p, manifest) → is_admitted (member setup p) (known (member setup p) []) manifest ≡ true
      unfolding is_admitted
      manifest-admitted p a = and_from _ _ (and_from _ _ (and_from _ _ refl (a.accepted refl)) refl) refl

      takes-manifest : (p : ℕ) → IsSentBy setup 0 (p, manifest) → step (member setup p) [] (event.Datagram (datagram_bytes s manifest)) ≡ begun (Heard manifest ∷ [])
      unfolding new_evidence
      takes-manifest p a =
          step-takes (member setup p) [] (datagram_bytes s manifest) manifest (omega arith) a.reads
          ∙ ap (by-admission (member setup p) [] manifest) (manifest-admitted p a)

      -- a block that is in the manifest
      block-admitted : (p i : ℕ) (b : List ℕ) → digest_at (slice_get (manifest_list s stream 1) i) ≡ Known (sha256 b)
          → is_admitted (member setup p) (known (member setup p) (Heard manifest ∷ [])) (block_to p (record { round = 1; index = i }) b) ≡ true
      unfolding is_admitted
      block-admitted p i b listed =
          and_from _ _ (and_from _ _ (and_from _ _ (and_from _ _ (eqb_refl p) refl) refl) refl)
          (and_from _ _ (and_from _ _ (ap (λ (g : Digest). has_digest g b) listed ∙ bytes_eq-refl (sha256 b)) refl) refl)

      takes-block : (p i : ℕ) (b : List ℕ) → IsSentBy setup 0 (p, block_to p (record { round = 1; index = i }) b) → digest_at (slice_get (manifest_list s stream 1) i) ≡ Known (sha256 b)
          → step (member setup p) (Heard manifest ∷ []) (event.Datagram (datagram_bytes s (block_to p (record { round = 1; index = i }) b))) ≡ begun (had p (record { round = 1; index = i }) b)
      unfolding new_evidence
      takes-block p i b a listed =
          step-takes (member setup p) (Heard manifest ∷ []) (datagram_bytes s (block_to p (record { round = 1; index = i }) b)) (block_to p (record { round = 1; index = i }) b) (omega arith) a.reads
          ∙ ap (by-admission (member setup p) (Heard manifest ∷ []) (block_to p (record { round = 1; index = i }) b)) (block-admitted p i b listed)

      ticks : step one (had 1 u0 b0) event.Tick ≡ asked (partner_of s (seed_of one 1) Balanced 1) (partner_of s (seed_of one 1) Push 1)
      unfolding machine.step
      ticks = refl

      asks : step one (had 1 u0 b0) event.Tick ≡ asked 2 2
      asks = ticks ∙ (λ i. asked (partner-two s (seed_of one 1) Balanced refl i) (partner-two s (seed_of one 1) Push refl i))

      -- ---- the moves

      abbrev before : List Move
      before = TickOf 0 ∷ TickOf 0 ∷ Deliver 0 ∷ Deliver 1 ∷ Deliver 2 ∷ Deliver 5 ∷ []

      abbrev moves : List Move
      moves = TickOf 0 ∷ TickOf 0 ∷ Deliver 0 ∷ Deliver 1 ∷ Deliver 2 ∷ Deliver 5 ∷ TickOf 1 ∷ []

      first : digest_at (slice_get (manifest_list s stream 1) 0) ≡ Known (sha256 b0)
      first = ap (λ l. digest_at (slice_get l 0)) digests-are

      second : digest_at (slice_get (manifest_list s stream 1) 1) ≡ Known (sha256 b1)
      second = ap (λ l. digest_at (slice_get l 1)) digests-are

      e2 : happens setup w1 (TickOf 0) ≡ w2
      e2 = ap (becomes w1 0) tick2

      e3 : happens setup w2 (Deliver 0) ≡ w3
      e3 = ap (becomes w2 1) (takes-manifest 1 sent1.0)

      e4 : happens setup w3 (Deliver 1) ≡ w4
      e4 = ap (becomes w3 2) (takes-manifest 2 sent1.1.0)

      e5 : happens setup w4 (Deliver 2) ≡ w5
      e5 = ap (becomes w4 1) (takes-block 1 0 b0 sent2.0 first)

      e6 : happens setup w5 (Deliver 5) ≡ w6
      e6 = ap (becomes w5 2) (takes-block 2 1 b1 sent2.1.1.1.0 second)

      e7 : happens setup w6 (TickOf 1) ≡ w7
      e7 = ap (becomes w6 1) asks

      reach6 : after setup before ≡ w6
      reach6 =
          ap (λ w. run setup w (TickOf 0 ∷ Deliver 0 ∷ Deliver 1 ∷ Deliver 2 ∷ Deliver 5 ∷ [])) reach1
          ∙ ap (λ w. run setup w (Deliver 0 ∷ Deliver 1 ∷ Deliver 2 ∷ Deliver 5 ∷ [])) e2
          ∙ ap (λ w. run setup w (Deliver 1 ∷ Deliver 2 ∷ Deliver 5 ∷ [])) e3
          ∙ ap (λ w. run setup w (Deliver 2 ∷ Deliver 5 ∷ [])) e4
          ∙ ap (λ w. run setup w (Deliver 5 ∷ [])) e5
          ∙ e6

      reach7 : after setup moves ≡ w7
      reach7 = ap (λ w. happens setup w (TickOf 1)) reach6 ∙ e7

      sent7 : AllByRecursion (IsSentBy setup 1) (asked 2 2).sends
      sent7 =
          subst (λ (out : Outcome Log). AllByRecursion (IsSentBy setup 1) out.sends) asks
          (accepted setup before is 1 (had 1 u0 b0) event.Tick (ap (λ (w : World). slice_get w.logs 1) reach6))

      -- ---- the trade

      abbrev mine : Log
      mine = (asked 2 2).state

      abbrev theirs : Log
      theirs = had 2 u1 b1

      abbrev trade : Exchange
      trade = with_one Balanced 2

      abbrev nonce : List ℕ
      nonce = nonce_of one trade

      abbrev ha : List UpdateId
      ha = u0 ∷ []

      unheard : (p : ℕ) (u : UpdateId) (b : List ℕ) (kind : Kind) (x : Exchange) (role : Role) → (known one (had p u b)).heard kind x role ≡ None
      unheard p u b kind x role = neither (eqb 1 (code_of kind)) (eqb 2 (code_of kind)) manifest (block_to p u b)

      -- the seed of the round is the first peer's
      seeded : is_seed s 1 1 (seed_of one 1) ≡ true
      seeded =
          ap (λ o. seeds.is_seed id (unwrap_or o []) 1 1 (seed_of one 1)) ((is.fits 1 (omega arith)).anchor (omega arith))
          ∙ own_seed (secrets_of one) 10 1 (omega arith)

      admitted : is_admitted (member setup 2) (known (member setup 2) theirs) request ≡ true
      unfolding is_admitted
      admitted =
          and_from _ _ (and_from _ _ (and_from _ _ (and_from _ _ refl refl) (sent7.0.accepted refl)) refl)
          (and_from _ _ (and_from _ _ (and_from _ _ (and_from _ _ seeded (ap (λ z. eqb z 2) (partner-two s (seed_of one 1) Balanced refl))) refl) refl) refl)

      can : CanTrade (pair_in setup 1 2 1) (talk_in setup 1 2 mine theirs request) nonce ha
      can = record {
        apart = λ e. absurd (omega (arith, e));
        seed = seed_of one 1;
        signature = request.signature;
        way = refl;
        admitted = admitted;
        asked = refl;
        committed = refl;
        unsaid_mine = refl;
        unkeyed_mine = refl;
        fresh_mine = record { unheard = λ kind role. ap (λ (o : Option Datagram). option_or (option_or (option_or o None) None) None) (unheard 1 u0 b0 kind trade role); trading = refl; answering = refl; keying = refl };
        unsaid_theirs = λ kind. refl;
        unrevealed = refl;
        fresh_theirs = record { unheard = λ kind role. unheard 2 u1 b1 kind trade role; trading = refl; answering = refl; keying = refl };
        within_mine = ap (λ (g : Digest). is_known g && true) second;
        within_theirs = ap (λ (g : Digest). is_known g && true) first;
        worth = refl;
      }

      -- a packet of the first peer's is on its way
      under : PlainMovesForgeNothing → (number : ℕ) (d : Datagram) → slice_get w7.packets number ≡ Some (2, datagram_bytes s d) → IsSentBy setup 1 (2, d)
          → IsUnderWay setup all_trusted moves number 1 2
      under plain number d packet sent = record {
        unforged = plain setup all_trusted moves is refl (tt, (tt, (tt, (tt, (tt, (tt, (tt, tt)))))));
        mine = mine;
        theirs = theirs;
        asks = record { low = omega arith; trust = refl; log_is = ap (λ (w : World). slice_get w.logs 1) reach7 };
        answers = record { low = omega arith; trust = refl; log_is = ap (λ (w : World). slice_get w.logs 2) reach7 };
        going_mine = omega arith;
        going_theirs = omega arith;
        d = d;
        packet = ap (λ (w : World). slice_get w.packets number) reach7 ∙ packet;
        accepted = sent;
      }

      begins : PlainMovesForgeNothing → BeginsTrade setup all_trusted moves 6 1 2 1 nonce ha
      unfolding under
      begins plain = record { way = under plain 6 request refl sent7.0; can = can }

      -- ---- the push

      abbrev push : Exchange
      push = with_one Push 2

      offered : is_admitted (member setup 2) (known (member setup 2) theirs) query ≡ true
      unfolding is_admitted
      offered =
          and_from _ _ (and_from _ _ (and_from _ _ (and_from _ _ refl refl) (sent7.1.0.accepted refl)) refl)
          (and_from _ _
          (and_from _ _
          (and_from _ _ (and_from _ _ refl (and_from _ _ (ap (λ (g : Digest). not (is_past_end g) && true) first) refl))
          (and_from _ _ (ap (λ (g : Digest). is_known g && true) first) refl))
          refl)
          (and_from _ _ (and_from _ _ (and_from _ _ (and_from _ _ seeded (ap (λ z. eqb z 2) (partner-two s (seed_of one 1) Push refl))) refl) refl) refl))

      can-push : CanPush (pair_in setup 1 2 1) (talk_in setup 1 2 mine theirs query) (u0 ∷ []) []
      can-push = record {
        apart = λ e. absurd (omega (arith, e));
        seed = seed_of one 1;
        signature = query.signature;
        way = refl;
        admitted = offered;
        asked = refl;
        unsaid_mine = refl;
        unkeyed_mine = refl;
        fresh_mine = record { unheard = λ kind role. ap (λ (o : Option Datagram). option_or (option_or (option_or o None) None) None) (unheard 1 u0 b0 kind push role); trading = refl; answering = refl; keying = refl };
        unsaid_theirs = λ kind. refl;
        fresh_theirs = record { unheard = λ kind role. unheard 2 u1 b1 kind push role; trading = refl; answering = refl; keying = refl };
      }

      begins-push : PlainMovesForgeNothing → BeginsPush setup all_trusted moves 7 1 2 1 (u0 ∷ []) []
      unfolding under
      begins-push plain = record { way = under plain 7 query refl sent7.1.0; can = can-push }

abbrev stream : List ℕ
stream = replicate 1023 0

-- the secrets and the stream don't matter
module _ (setups : SetupsExist) (plain : PlainMovesForgeNothing) (accepted : StepIsAccepted) (whole : FanoutsAreWhole) where
  abbrev found : SetupOf (small ([] ∷ [] ∷ [] ∷ []) ([] ∷ [] ∷ [])) ([] ∷ [] ∷ [] ∷ []) stream
  found = setups (small ([] ∷ [] ∷ [] ∷ []) ([] ∷ [] ∷ [])) ([] ∷ [] ∷ [] ∷ []) stream small-is refl

  abbrev keys : List (List ℕ)
  keys = found.setup.session.keys

  abbrev anchors : List (List ℕ)
  anchors = found.setup.session.anchors

  same : found.setup ≡ setup keys anchors [] [] [] stream
  same = (λ i. record { session = found.session_is i; secrets = found.secrets_are i; stream = found.stream_is i })

  is : IsSetup (setup keys anchors [] [] [] stream)
  is = subst IsSetup same found.is

  all-plain : AllByRecursion (IsPlainMove (small keys anchors)) (moves keys anchors [] [] [] stream (omega arith) whole is accepted)
  all-plain = (tt, (tt, (tt, (tt, (tt, (tt, (tt, tt)))))))

  pub trade-begun : TradeBegun
  trade-begun = record {
    setup = setup keys anchors [] [] [] stream;
    peers = refl;
    moves = moves keys anchors [] [] [] stream (omega arith) whole is accepted;
    plain = all-plain;
    request = 6;
    nonce = nonce keys anchors [] [] [] stream (omega arith) whole is accepted;
    ha = ha keys anchors [] [] [] stream (omega arith) whole is accepted;
    begins = begins keys anchors [] [] [] stream (omega arith) whole is accepted plain;
  }

  pub push-begun : PushBegun
  push-begun = record {
    setup = setup keys anchors [] [] [] stream;
    peers = refl;
    moves = moves keys anchors [] [] [] stream (omega arith) whole is accepted;
    plain = all-plain;
    query = 7;
    young = u0 keys anchors [] [] [] stream ∷ [];
    aged = [];
    begins = begins-push keys anchors [] [] [] stream (omega arith) whole is accepted plain;
  }

-- What the broadcaster sends is in the grammar.
use Rattle.bar_session.specs.Limits.{most_long_rounds}
use Rattle.bar_rules.specs.Broadcaster.Sending.{evicted, served, caster_message, caster_signed}
use Rattle.bar_rules.specs.Broadcaster.Stream.{block_bytes, piece_of, round_blocks, manifest_list, peers_of}
use Rattle.bar_lms.specs.Schemes.{leaves_by}
use Rattle.bar_session.specs.Sessions.{IsSession}
use Rattle.bar_rules.specs.Peer.Log.{kept, Log}
use Rattle.bar_rules.specs.Member.{Session, Member}
use Rattle.bar_rules.specs.Secrets.{signature_of}
use Rattle.bar_rules.specs.Values.{message_bytes, unsigned}
use Rattle.bar_window.specs.declared.update.UpdateId.{UpdateId}
use Rattle.bar_wire.specs.Limits.{leaves_a_round}
use Rattle.bar_wire.specs.Datagram.{Manifest, Block, Evict}
use Rattle.bar_wire.specs.Grammar.{IsDatagram, RisesTo}
use Rattle.sha2.specs.Sha256.{sha256}
use Rattle.bar_laws.proofs.Logs.{length-sha256, signed_long, all-mapped}
use Rattle.std.proofs.Common.{◌≡◌, ℕ, zero, suc, ◌+◌, ◌*◌, ◌-◌, ◌<◌, ◌≤◌, ◌^◌, Bool, true, false, List, [], ◌∷◌, length, refl, sym, ◌∙◌, cond, arith, length-append, length-take}
use Rattle.std.specs.Prelude.{Contains, filter, is_some, is_none, nat_lt}
use Rattle.std.specs.List.{AllByRecursion, range_with_len}
use Rattle.std.proofs.lemmas.List.{length-map, length-replicate}
use Rattle.std.proofs.lemmas.List.FromFn.{length-range_with_len}
use Rattle.std.proofs.lemmas.List.Elements.{All-from_recursion, All-contains}
use Rattle.bar_bytes.proofs.Lengths.{length_u16}

-- ---- lists

-- what holds of all elements holds of each element that is there
all-at : {X : Type 0} (P : X → Type 0) (xs : List X) (x : X) → AllByRecursion P xs → Contains xs x → P x
all-at P xs x a c = All-contains P xs x (All-from_recursion P xs a) c

length-filtered : {X : Type 0} (p : X → Bool) (xs : List X) → length (filter p xs) ≤ length xs
length-filtered p [] = omega arith
length-filtered p (x ∷ xs) = go (p x) (length-filtered p xs)
  where
    go : (b : Bool) → length (filter p xs) ≤ length xs → length (cond b (x ∷ filter p xs) (filter p xs)) ≤ length (x ∷ xs)
    go true h = omega (arith, h)
    go false h = omega (arith, h)

-- ---- a part of a range of numbers

abbrev Between : ℕ → ℕ → ℕ → Type 0
Between low high n = (low ≤ n) × (n ≤ high)

between-kept : (p : ℕ → Bool) (low high a n : ℕ) → low ≤ a → a + n ≤ high + 1 → AllByRecursion (Between low high) (filter p (range_with_len a n))
between-kept p low high a zero from to = tt
between-kept p low high a (suc n) from to = go (p a) (between-kept p low high (a + 1) n (omega (arith, from)) (omega (arith, to)))
  where
    go : (b : Bool) → AllByRecursion (Between low high) (filter p (range_with_len (a + 1) n)) → AllByRecursion (Between low high) (cond b (a ∷ filter p (range_with_len (a + 1) n)) (filter p (range_with_len (a + 1) n)))
    go true h = ((from, omega (arith, to)), h)
    go false h = h

-- its numbers rise
kept-rise : (p : ℕ → Bool) (high low a n : ℕ) → low < a → a + n ≤ high + 1 → RisesTo high low (filter p (range_with_len a n))
kept-rise p high low a zero from to = tt
kept-rise p high low a (suc n) from to = go (p a) (λ l h. kept-rise p high l (a + 1) n h (omega (arith, to)))
  where
    go : (b : Bool) → ((l : ℕ) → l < a + 1 → RisesTo high l (filter p (range_with_len (a + 1) n))) → RisesTo high low (cond b (a ∷ filter p (range_with_len (a + 1) n)) (filter p (range_with_len (a + 1) n)))
    go true h = (from, omega (arith, to), h a (omega arith))
    go false h = h low (omega (arith, from))

-- ---- the signature

leaf-length : (me : Member) (leaf : ℕ) (message : List ℕ) → IsSession me.session → leaf < leaves_a_round * me.session.shape.rounds → length (signature_of me leaf message) ≡ me.session.shape.sig_len
leaf-length me leaf message s low =
    let leaves : leaves_a_round * me.session.shape.rounds ≤ leaves_by me.session.top me.session.params = s.leaves in
    signed_long me.session.top me.session.params me.session.shape.id me.secret leaf message (omega (arith, low, leaves)) ∙ sym s.signatures

-- ---- blocks

pub block-whole : (content : List ℕ) → length content ≤ 1022 → length (block_bytes content) ≡ 1024
block-whole content few = simp (length-append, length_u16, length-replicate) (omega (arith, few))

pub piece-short : (stream : List ℕ) (b : ℕ) → length (piece_of stream b) ≤ 1022
piece-short stream b = simp length-take (omega arith)

pub blocks-are-whole : (s : Session) (stream : List ℕ) (round : ℕ) (block : List ℕ) → Contains (round_blocks s stream round) block → length block ≡ 1024
blocks-are-whole s stream round block c =
    all-at (λ (b : List ℕ). length b ≡ 1024) (round_blocks s stream round) block
    (all-mapped (λ (b : List ℕ). length b ≡ 1024) (λ i. block_bytes (piece_of stream ((round - 1) * s.shape.per_round + i))) _
    (λ i. block-whole (piece_of stream ((round - 1) * s.shape.per_round + i)) (piece-short stream ((round - 1) * s.shape.per_round + i)))) c

pub blocks-are-few : (s : Session) (stream : List ℕ) (round : ℕ) → length (round_blocks s stream round) ≤ s.shape.per_round
blocks-are-few s stream round =
    let here : ℕ → Bool = λ i. nat_lt (1022 * ((round - 1) * s.shape.per_round + i)) (length stream) in
    let all : length (range_with_len 0 s.shape.per_round) ≡ s.shape.per_round = length-range_with_len 0 s.shape.per_round in
    let some : length (filter here (range_with_len 0 s.shape.per_round)) ≤ length (range_with_len 0 s.shape.per_round) = length-filtered here (range_with_len 0 s.shape.per_round) in
    let each : length (round_blocks s stream round) ≡ length (filter here (range_with_len 0 s.shape.per_round)) = length-map (filter here (range_with_len 0 s.shape.per_round)) (λ i. block_bytes (piece_of stream ((round - 1) * s.shape.per_round + i))) in
    omega (arith, all, some, each)

-- ---- the parties

pub served-are-peers : (s : Session) (log : Log) (p : ℕ) → Contains (served s log) p → (1 ≤ p) × (p ≤ s.shape.peers)
served-are-peers s log p c =
    all-at (Between 1 s.shape.peers) (served s log) p (between-kept (λ q. is_none (kept log q)) 1 s.shape.peers 1 s.shape.peers (omega arith) (omega arith)) c

evicted-few : (s : Session) (log : Log) → length (evicted s log) ≤ s.shape.peers
evicted-few s log =
    let all : length (peers_of s) ≡ s.shape.peers = length-range_with_len 1 s.shape.peers in
    let some : length (evicted s log) ≤ length (peers_of s) = length-filtered (λ q. is_some (kept log q)) (peers_of s) in
    omega (arith, all, some)

small-parties : (peers : ℕ) (ps : List ℕ) → peers ≤ 200 → AllByRecursion (Between 1 peers) ps → AllByRecursion (λ p. p < 2 ^ 16) ps
small-parties peers [] few a = tt
small-parties peers (p ∷ ps) few a = (omega (arith, few, a.0.1), small-parties peers ps few a.1)

-- ---- datagrams

pub manifest-fits : (me : Member) (stream : List ℕ) (m : ℕ) → IsSession me.session → 1 ≤ m → m ≤ me.session.shape.rounds
    → IsDatagram me.session.shape (caster_signed me (2 * (m - 1)) (Manifest m (manifest_list me.session stream m)))
manifest-fits me stream m s low high =
    let rounds : me.session.shape.rounds ≤ most_long_rounds = s.shape.rounds_high in
    let few : length (round_blocks me.session stream m) ≤ me.session.shape.per_round = blocks-are-few me.session stream m in
    let each : length (manifest_list me.session stream m) ≡ length (round_blocks me.session stream m) = length-map (round_blocks me.session stream m) sha256 in
    record {
      from_fits = omega arith;
      to_fits = omega arith;
      form = (omega (arith, high, rounds), all-mapped (λ (d : List ℕ). length d ≡ 32) sha256 (round_blocks me.session stream m) length-sha256);
      range = ((omega (arith, low), high), omega (arith, few, each));
      may_send = (refl, refl);
      signature_long = leaf-length me (2 * (m - 1)) (message_bytes me.session (caster_message (Manifest m (manifest_list me.session stream m)))) s (omega (arith, low, high));
    }

pub evict-fits : (me : Member) (log : Log) (m : ℕ) → IsSession me.session → 1 ≤ m → m ≤ me.session.shape.rounds → 0 < length (evicted me.session log)
    → IsDatagram me.session.shape (caster_signed me (2 * (m - 1) + 1) (Evict m (evicted me.session log)))
evict-fits me log m s low high some =
    let rounds : me.session.shape.rounds ≤ most_long_rounds = s.shape.rounds_high in
    let is_out : ℕ → Bool = λ q. is_some (kept log q) in
    record {
      from_fits = omega arith;
      to_fits = omega arith;
      form = (omega (arith, high, rounds), small-parties me.session.shape.peers (evicted me.session log) s.shape.peers_high (between-kept is_out 1 me.session.shape.peers 1 me.session.shape.peers (omega arith) (omega arith)));
      range = ((omega (arith, low), high), (some, evicted-few me.session log, kept-rise is_out me.session.shape.peers 0 1 me.session.shape.peers (omega arith) (omega arith)));
      may_send = (refl, refl);
      signature_long = leaf-length me (2 * (m - 1) + 1) (message_bytes me.session (caster_message (Evict m (evicted me.session log)))) s (omega (arith, low, high));
    }

pub block-fits : (s : Session) (u : UpdateId) (block : List ℕ) (p : ℕ) → IsSession s → 1 ≤ u.round → u.round ≤ s.shape.rounds → u.index < s.shape.per_round → length block ≡ 1024 → 1 ≤ p → p ≤ s.shape.peers
    → IsDatagram s.shape (unsigned (record { from = 0; to = p; body = Block u block }))
block-fits s u block p is low high index whole from to =
    let rounds : s.shape.rounds ≤ most_long_rounds = is.shape.rounds_high in
    let peers : s.shape.peers ≤ 200 = is.shape.peers_high in
    record {
      from_fits = omega arith;
      to_fits = omega (arith, to, peers);
      form = (omega (arith, high, rounds), whole);
      range = ((omega (arith, low), high), index);
      may_send = (refl, (omega (arith, from), to));
      signature_long = refl;
    }

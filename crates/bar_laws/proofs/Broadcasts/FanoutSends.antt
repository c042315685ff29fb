-- If none is evicted, the block of an update is sent to each peer of its fan-out at two ticks, and at no other input.
use Rattle.bar_rules.specs.Broadcaster.Party.{IsBroadcaster}
use Rattle.bar_rules.specs.Broadcaster.Sending.{evicted, served, caster_signed, send_all, announce_by, announce, announce_manifest, announce_evictions, repeat_all, repeat_manifest, repeats_manifest, send_block, send_blocks, caster_tick, evict_by, judge_body, judge_datagram, caster_take, caster_step, caster_log_after}
use Rattle.bar_rules.specs.Broadcaster.Stream.{round_blocks, manifest_list, caster_table, is_in_fanout, peers_of}
use Rattle.bar_session.specs.Time.{last_tick, round_after, slot_after}
use Rattle.bar_rules.specs.Member.{Session, Member}
use Rattle.bar_rules.specs.Peer.Log.{Log, Ticked, Said, Kept, kept_in, kept, first_said, has_kind_and_round, ticks, round_now}
use Rattle.bar_rules.specs.Peer.Run.{Out}
use Rattle.bar_rules.specs.Judge.Verdict.{Verdict, Shown, NotShown, verdict}
use Rattle.bar_rules.specs.Runs.{begun, sending, state_after, sends_from}
use Rattle.bar_rules.specs.Values.{datagram_of, unsigned}
use Rattle.bar_window.specs.declared.update.UpdateId.{UpdateId}
use Rattle.bar_wire.specs.Datagram.{kind_number, kind_of, Message, Datagram, Body, Manifest, Block, Evidence, Evict}
use Rattle.bar_wire.specs.Inputs.{Input}
use Rattle.bar_wire.specs.Inputs as event
use Rattle.bar_wire.specs.Kinds.{code_of}
use Rattle.bar_wire.specs.declared.kind.Kind.TheVariants as kinds
use Rattle.bar_laws.specs.Broadcasting.{is_block_of, IsReleased, GoesToTheFanout, GoesOutTwice}
use Rattle.bar_laws.specs.Growing.{IsLater}
use Rattle.bar_laws.proofs.Logs.{find-later, first_said-was, some-is}
use Rattle.bar_laws.proofs.Fitting.{AreOwn, IsFair, caster-casts}
use Rattle.bar_laws.proofs.Broadcasts.FanoutCounts.{fanouts-whole, weaker-keeps}
use Rattle.bar_laws.proofs.Broadcasts.Steps.{ticks-on}
use Rattle.std.proofs.Common.{◌≡◌, ◌⊎◌, ℕ, suc, ◌+◌, ◌-◌, ◌*◌, ◌<◌, ◌≤◌, Bool, true, false, not, ◌&&◌, ◌||◌, List, [], ◌∷◌, ◌++◌, length, map, append-nil, append_assoc, refl, sym, ap, ◌∙◌, subst, cond, eqb, inl, inr, arith, length-append}
use Rattle.std.specs.Prelude.{Option, Some, None, is_some, is_none, filter, nat_le}
use Rattle.std.specs.Option.{option_or}
use Rattle.std.proofs.lemmas.Bool.{and_from, and_left, and_parts, and_right, both_ways, cases_eq, cases_lt, eq-eqb, eqb-true, false_from_ne_true, le-leb, lt-leb, ne_eqb, not-true, or_cases, or_left, or_right}
use Rattle.std.proofs.lemmas.List.{map-append, nil_from_length}
use Rattle.std.proofs.lemmas.List.Elements.{filter-append}

-- ---- the receivers of an update's block

-- what is sent is a block of the update
abbrev has_block : UpdateId → ℕ × Datagram → Bool
has_block u send = is_block_of u send.1.message.body

abbrev receivers : UpdateId → List (ℕ × Datagram) → List ℕ
receivers u sends = map (λ send. send.0) (filter (has_block u) sends)

receivers-append :
    (u : UpdateId) (sends more : List (ℕ × Datagram)) → receivers u (sends ++ more) ≡ receivers u sends ++ receivers u more
receivers-append u sends more =
    ap (map (λ send. send.0)) (filter-append (has_block u) sends more)
    ∙ map-append (λ send. send.0) (filter (has_block u) sends) (filter (has_block u) more)

one-sent :
    (u : UpdateId) (out : Out) (p : ℕ) (d : Datagram) (b : Bool) → is_block_of u d.message.body ≡ b
    → receivers u (sending out p d).sends ≡ receivers u out.sends ++ cond b (p ∷ []) []
one-sent u out p d b e =
    receivers-append u out.sends ((p, d) ∷ [])
    ∙ ap (λ rest. receivers u out.sends ++ rest) (go (is_block_of u d.message.body) ∙ ap (λ c. cond c (p ∷ []) []) e)
  where
    go : (c : Bool) → map (λ (send : ℕ × Datagram). send.0) (cond c ((p, d) ∷ []) []) ≡ cond c (p ∷ []) []
    go true = refl
    go false = refl

none-sent :
    (u : UpdateId) (out : Out) (p : ℕ) (d : Datagram) → is_block_of u d.message.body ≡ false
    → receivers u (sending out p d).sends ≡ receivers u out.sends
none-sent u out p d e = one-sent u out p d false e ∙ append-nil (receivers u out.sends)

-- ---- one block

abbrev block_for : ℕ → UpdateId → List ℕ → Datagram
block_for p v block = unsigned (record { from = 0; to = p; body = Block v block })

block-state : (ps : List ℕ) (out : Out) (v : UpdateId) (block : List ℕ) → (send_block out ps v block).state ≡ out.state
block-state [] out v block = refl
block-state (p ∷ ps) out v block = block-state ps (sending out p (block_for p v block)) v block

-- a block of the update
block-goes :
    (u : UpdateId) (ps : List ℕ) (out : Out) (v : UpdateId) (block : List ℕ) → is_block_of u (Block v block) ≡ true
    → receivers u (send_block out ps v block).sends ≡ receivers u out.sends ++ ps
block-goes u [] out v block e = sym (append-nil (receivers u out.sends))
block-goes u (p ∷ ps) out v block e =
    block-goes u ps (sending out p (block_for p v block)) v block e
    ∙ ap (λ front. front ++ ps) (one-sent u out p (block_for p v block) true e)
    ∙ append_assoc (receivers u out.sends) (p ∷ []) ps

-- a block of another update
other-goes :
    (u : UpdateId) (ps : List ℕ) (out : Out) (v : UpdateId) (block : List ℕ) → is_block_of u (Block v block) ≡ false
    → receivers u (send_block out ps v block).sends ≡ receivers u out.sends
other-goes u [] out v block e = refl
other-goes u (p ∷ ps) out v block e =
    other-goes u ps (sending out p (block_for p v block)) v block e ∙ none-sent u out p (block_for p v block) e

-- ---- the blocks of a round

abbrev update : ℕ → ℕ → UpdateId
update m i = record { round = m; index = i }

-- the peers of an update's fan-out that are served
abbrev fanout_at : Member → UpdateId → Log → List ℕ
fanout_at me u log = filter (is_in_fanout me u) (served me.session log)

blocks-state : (me : Member) (m i : ℕ) (blocks : List (List ℕ)) (out : Out) → (send_blocks me m i blocks out).state ≡ out.state
blocks-state me m i [] out = refl
blocks-state me m i (b ∷ blocks) out =
    blocks-state me m (i + 1) blocks _ ∙ block-state (fanout_at me (update m i) out.state) out (update m i) b

-- the update is none of them
others-go :
    (me : Member) (u : UpdateId) (m i : ℕ) (blocks : List (List ℕ)) (out : Out)
    → ((j : ℕ) → i ≤ j → (eqb m u.round && eqb j u.index) ≡ false)
    → receivers u (send_blocks me m i blocks out).sends ≡ receivers u out.sends
others-go me u m i [] out none = refl
others-go me u m i (b ∷ blocks) out none =
    others-go me u m (i + 1) blocks _ (λ j low. none j (omega (arith, low)))
    ∙ other-goes u (fanout_at me (update m i) out.state) out (update m i) b (none i (omega arith))

-- the update is one of them
its-block-goes :
    (me : Member) (u : UpdateId) (m i : ℕ) (blocks : List (List ℕ)) (out : Out)
    → m ≡ u.round → i ≤ u.index → u.index < i + length blocks
    → receivers u (send_blocks me m i blocks out).sends ≡ receivers u out.sends ++ fanout_at me u out.state
its-block-goes me u m i [] out same low high = absurd (omega (arith, low, high))
its-block-goes me u m i (b ∷ blocks) out same low high =
    go (cases_eq i u.index) (λ next here more. its-block-goes me u m (i + 1) blocks next same here more)
  where
    v : UpdateId
    v = update m i

    to : List ℕ
    to = fanout_at me v out.state

    next : Out
    next = send_block out to v b

    rest : Out → List ℕ
    rest out = receivers u (send_blocks me m (i + 1) blocks out).sends

    go :
        (i ≡ u.index) ⊎ (i ≡ u.index → ⊥)
        → ((out : Out) → i + 1 ≤ u.index → u.index < i + 1 + length blocks
        → rest out ≡ receivers u out.sends ++ fanout_at me u out.state)
        → rest next ≡ receivers u out.sends ++ fanout_at me u out.state
    go (inl e) more =
        let is : ◌≡◌ {A = UpdateId} v u = λ k. update (same k) (e k) in
        others-go me u m (i + 1) blocks next (λ j here. and_right _ _ (ne_eqb j u.index (λ f. absurd (omega (arith, e, f, here)))))
        ∙ block-goes u to out v b (and_from _ _ (eq-eqb m u.round same) (eq-eqb i u.index e))
        ∙ ap (λ w. receivers u out.sends ++ fanout_at me w out.state) is
    go (inr n) more =
        more next (omega (arith, low, n)) (omega (arith, high))
        ∙ ap (λ front. front ++ fanout_at me u next.state) (other-goes u to out v b (and_right _ _ (ne_eqb i u.index n)))
        ∙ ap (λ log. receivers u out.sends ++ fanout_at me u log) (block-state to out v b)

-- ---- what is announced is no block

-- what sends no block of the update, and takes no tick
record Passes (u : UpdateId) (before after : Out) : Type 0 where
  time : ticks after.state ≡ ticks before.state
  sends : receivers u after.sends ≡ receivers u before.sends

passes-on : (u : UpdateId) (a b c : Out) → Passes u a b → Passes u b c → Passes u a c
passes-on u a b c p q = record { time = q.time ∙ p.time; sends = q.sends ∙ p.sends }

no-block : (u : UpdateId) (b : Body) → (kind_number b ≡ 2 → ⊥) → is_block_of u b ≡ false
no-block u (Block v block) n = absurd (n refl)
no-block u _ n = refl

all-pass :
    (u : UpdateId) (ps : List ℕ) (out : Out) (d : Datagram) → is_block_of u d.message.body ≡ false → Passes u out (send_all out ps d)
all-pass u [] out d e = record { time = refl; sends = refl }
all-pass u (p ∷ ps) out d e =
    passes-on u out (sending out p d) _ (record { time = refl; sends = none-sent u out p d e }) (all-pass u ps (sending out p d) d e)

announced-passes :
    (me : Member) (u : UpdateId) (out : Out) (leaf round : ℕ) (body : Body) → (kind_number body ≡ 2 → ⊥)
    → Passes u out (announce me out leaf round body)
announced-passes me u out leaf round body n = go (first_said test out.state) refl
  where
    test : Message → Bool
    test = has_kind_and_round (kind_of body) round

    d : Datagram
    d = caster_signed me leaf body

    said : Out
    said = record out { state = Said d ∷ out.state }

    go : (q : Option Datagram) → first_said test out.state ≡ q → Passes u out (announce_by me out leaf body q)
    go (Some c) e =
        let passes : test c.message ≡ true = (first_said-was test out.state c e).1 in
        let its : kind_number c.message.body ≡ kind_number body = eqb-true _ _ (and_parts _ _ passes).0 in
        all-pass u (served me.session out.state) out c (no-block u c.message.body (λ f. n (sym its ∙ f)))
    go None e =
        passes-on u out said _ (record { time = omega arith; sends = refl })
        (all-pass u (served me.session out.state) said d (no-block u body n))

-- a repeated manifest isn't one either
repeated-passes : (s : Session) (u : UpdateId) (out : Out) (round : ℕ) → Passes u out (repeat_manifest s round out)
repeated-passes s u out round = go (first_said test out.state) refl
  where
    test : Message → Bool
    test = has_kind_and_round kinds.Manifest round

    go : (q : Option Datagram) → first_said test out.state ≡ q → Passes u out (repeat_all s out q)
    go None e = record { time = refl; sends = refl }
    go (Some d) e =
        let its : kind_number d.message.body ≡ code_of kinds.Manifest =
        eqb-true _ _ (and_parts _ _ (first_said-was test out.state d e).1).0 in
        all-pass u (served s out.state) out d (no-block u d.message.body (λ f. absurd (omega (arith, its, f))))

-- ---- one tick

-- at this tick the update's block is sent
abbrev is_due : UpdateId → ℕ → Bool
is_due u time = eqb (round_after time) u.round && (eqb (slot_after time) 1 || eqb (slot_after time) 5)

due-in :
    (u : UpdateId) (time : ℕ) → round_after time ≡ u.round → (slot_after time ≡ 1) ⊎ (slot_after time ≡ 5) → is_due u time ≡ true
due-in u time e (inl f) = and_from _ _ (eq-eqb _ _ e) (or_left _ _ (eq-eqb _ _ f))
due-in u time e (inr f) = and_from _ _ (eq-eqb _ _ e) (or_right _ _ (eq-eqb _ _ f))

record AtTick (me : Member) (u : UpdateId) (log : Log) (out : Out) : Type 0 where
  time : ticks out.state ≡ ticks log
  sends : receivers u out.sends ≡ cond (is_due u (ticks log)) (fanout_at me u log) []

at-tick :
    (me : Member) (stream : List ℕ) (u : UpdateId) (log : Log) → IsReleased me stream u
    → AtTick me u log (caster_tick me stream (begun log))
at-tick me stream u log is =
    go (eqb slot 2) refl (not (nat_le m me.session.shape.rounds)) refl (eqb slot 0) refl (eqb slot 4) refl
    (eqb slot 1 || eqb slot 5) refl
  where
    m : ℕ
    m = round_now log

    slot : ℕ
    slot = slot_after (ticks log)

    round : List (List ℕ)
    round = round_blocks me.session stream m

    after_manifest : Out
    after_manifest = announce_manifest me stream m (begun log)

    notice : Out → Body
    notice out = Evict m (evicted me.session out.state)

    quiet : (out : Out) → is_due u (ticks log) ≡ false → Passes u (begun log) out → AtTick me u log out
    quiet out e p = record { time = p.time; sends = p.sends ∙ ap (λ b. cond b (fanout_at me u log) []) (sym e) }

    manifest : Passes u (begun log) after_manifest
    manifest =
        announced-passes me u (begun log) (2 * (m - 1)) m (Manifest m (manifest_list me.session stream m)) (λ e. absurd (omega (arith, e)))

    evictions :
        (out : Out) → Passes u (begun log) out → (b : Bool)
        → Passes u (begun log) (cond b (announce me out (2 * (m - 1) + 1) m (notice out)) out)
    evictions out p true =
        passes-on u (begun log) out _ p (announced-passes me u out (2 * (m - 1) + 1) m (notice out) (λ e. absurd (omega (arith, e))))
    evictions out p false = p

    again : (b : Bool) → Passes u (begun log) (cond b (repeat_manifest me.session (m - 1) (begun log)) (begun log))
    again true = repeated-passes me.session u (begun log) (m - 1)
    again false = record { time = refl; sends = refl }

    later : nat_le m me.session.shape.rounds ≡ false → is_due u (ticks log) ≡ false
    later e =
        and_left _ _ (ne_eqb m u.round (λ same. both_ways _ e (le-leb m me.session.shape.rounds (omega (arith, same, is.1)))))

    in-slot : (n : ℕ) → eqb slot n ≡ true → (eqb n 1 || eqb n 5) ≡ false → is_due u (ticks log) ≡ false
    in-slot n e f = and_right (eqb m u.round) _ (ap (λ s. eqb s 1 || eqb s 5) (eqb-true slot n e) ∙ f)

    blocks :
        (b : Bool) → eqb m u.round ≡ b → (eqb slot 1 || eqb slot 5) ≡ true → AtTick me u log (send_blocks me m 0 round (begun log))
    blocks true e f =
        let same : m ≡ u.round = eqb-true m u.round e in
        let there : u.index < 0 + length round =
        subst (λ r. u.index < 0 + length (round_blocks me.session stream r)) (sym same) (omega (arith, is.2)) in
        record {
          time = ap ticks (blocks-state me m 0 round (begun log));
          sends =
              its-block-goes me u m 0 round (begun log) same (omega arith) there
              ∙ ap (λ b. cond b (fanout_at me u log) []) (sym (and_from _ _ e f));
        }
    blocks false e f = quiet _ (and_left _ _ e) (record {
      time = ap ticks (blocks-state me m 0 round (begun log));
      sends = others-go me u m 0 round (begun log) (λ j low. and_left _ _ e);
    })

    go :
        (s : Bool) → eqb slot 2 ≡ s → (p : Bool) → not (nat_le m me.session.shape.rounds) ≡ p → (q : Bool) → eqb slot 0 ≡ q
        → (r : Bool) → eqb slot 4 ≡ r → (t : Bool) → (eqb slot 1 || eqb slot 5) ≡ t
        → AtTick me u log (cond s (cond (repeats_manifest me.session m) (repeat_manifest me.session (m - 1) (begun log)) (begun log))
        (cond p (begun log) (cond q (announce_evictions me m after_manifest)
        (cond r after_manifest (cond t (send_blocks me m 0 round (begun log)) (begun log))))))
    go true c p e q f r g t h = quiet _ (in-slot 2 c refl) (again (repeats_manifest me.session m))
    go false c true e q f r g t h = quiet _ (later (not-true _ e)) (record { time = refl; sends = refl })
    go false c false e true f r g t h = quiet _ (in-slot 0 f refl) (evictions _ manifest _)
    go false c false e false f true g t h = quiet _ (in-slot 4 g refl) manifest
    go false c false e false f false g true h = blocks (eqb m u.round) refl h
    go false c false e false f false g false h = quiet _ (and_right (eqb m u.round) _ h) (record { time = refl; sends = refl })

-- ---- if none is evicted, all are served

all-served :
    {A : Type 0} (f : ℕ → Option A) (ps : List ℕ)
    → filter (λ q. is_some (f q)) ps ≡ [] → filter (λ q. is_none (option_or (f q) None)) ps ≡ ps
all-served {A} f [] e = refl
all-served {A} f (p ∷ ps) e = go (f p) e (all-served f ps)
  where
    out : List ℕ
    out = filter (λ q. is_some (f q)) ps

    others : List ℕ
    others = filter (λ q. is_none (option_or (f q) None)) ps

    go :
        (o : Option A) → cond (is_some o) (p ∷ out) out ≡ [] → (out ≡ [] → others ≡ ps)
        → cond (is_none (option_or o None)) (p ∷ others) others ≡ p ∷ ps
    go None e more = ap (λ rest. p ∷ rest) (more e)
    go (Some a) e more = cc

-- none was evicted before
none-before : (s : Session) (log before : Log) → IsLater log before → evicted s log ≡ [] → evicted s before ≡ []
none-before s log before later e =
    let few : length (evicted s before) ≤ length (evicted s log) =
    weaker-keeps (λ q. is_some (kept before q)) (λ q. is_some (kept log q)) (peers_of s) (λ q some.
    let found = some-is (kept before q) some in
    ap is_some (find-later (λ earlier entry. kept_in q entry) log before found.0 later found.1)) in
    nil_from_length (evicted s before) (omega (arith, few, ap length e))

fanout-served :
    (me : Member) (u : UpdateId) (log : Log) → evicted me.session log ≡ []
    → fanout_at me u (Ticked ∷ log) ≡ filter (is_in_fanout me u) (peers_of me.session)
fanout-served me u log e = ap (filter (is_in_fanout me u)) (all-served (kept log) (peers_of me.session) e)

-- ---- the receivers at a tick

pub to-the-fanout : GoesToTheFanout
to-the-fanout me stream is inputs u released none round slot =
    let log : Log = caster_log_after me stream inputs in
    let early : ticks log < last_tick me.session = omega (arith, round, released.1) in
    ap (λ out. receivers u out.sends) (ticks-on me stream log early)
    ∙ (at-tick me stream u (Ticked ∷ log) released).sends
    ∙ ap (λ b. cond b (fanout_at me u (Ticked ∷ log)) []) (due-in u (ticks log + 1) round slot)
    ∙ fanout-served me u log none

-- ---- how many blocks were sent by a time

-- one more from its tick on
abbrev since : ℕ → ℕ → ℕ → ℕ
since start many time = cond (nat_le start time) many 0

abbrev gone_by : UpdateId → ℕ → ℕ → ℕ
gone_by u many time = since (8 * u.round - 6) many time + since (8 * u.round - 2) many time

since-not : (start many time : ℕ) → time < start → since start many time ≡ 0
since-not start many time h = ap (λ b. cond b many 0) (lt-leb start time h)

since-then : (start many time : ℕ) → start ≤ time → since start many time ≡ many
since-then start many time h = ap (λ b. cond b many 0) (le-leb start time h)

since-next : (start many time : ℕ) → (time + 1 ≡ start → ⊥) → since start many (time + 1) ≡ since start many time
since-next start many time n = go (cases_lt time start)
  where
    go : (time < start) ⊎ (start ≤ time) → since start many (time + 1) ≡ since start many time
    go (inl h) = since-not start many (time + 1) (omega (arith, h, n)) ∙ sym (since-not start many time h)
    go (inr h) = since-then start many (time + 1) (omega (arith, h)) ∙ sym (since-then start many time h)

since-now : (start many time : ℕ) → time + 1 ≡ start → since start many (time + 1) ≡ many + since start many time
since-now start many time e =
    omega (arith, since-then start many (time + 1) (omega (arith, e)), since-not start many time (omega (arith, e)))

-- the block is sent at two ticks
gone-next :
    (u : UpdateId) (to : List ℕ) (many time : ℕ) → 1 ≤ u.round → length to ≡ many
    → length (cond (is_due u (time + 1)) to []) + gone_by u many time ≡ gone_by u many (time + 1)
gone-next u to many time low long = go (cases_eq (time + 1) (8 * u.round - 6)) (cases_eq (time + 1) (8 * u.round - 2))
  where
    sent : (b : Bool) → is_due u (time + 1) ≡ b → length (cond (is_due u (time + 1)) to []) ≡ length (cond b to [])
    sent b e = ap (λ c. length (cond c to [])) e

    quiet : (time + 1 ≡ 8 * u.round - 6 → ⊥) → (time + 1 ≡ 8 * u.round - 2 → ⊥) → is_due u (time + 1) ≡ true → ⊥
    quiet n o e =
        let parts = and_parts _ _ e in
        let round : round_after (time + 1) ≡ u.round = eqb-true _ _ parts.0 in
        slots round (or_cases _ _ parts.1)
      where
        slots :
            round_after (time + 1) ≡ u.round → (eqb (slot_after (time + 1)) 1 ≡ true) ⊎ (eqb (slot_after (time + 1)) 5 ≡ true) → ⊥
        slots round (inl f) = let slot : slot_after (time + 1) ≡ 1 = eqb-true _ _ f in n (omega (arith, round, slot, low))
        slots round (inr f) = let slot : slot_after (time + 1) ≡ 5 = eqb-true _ _ f in o (omega (arith, round, slot, low))

    go :
        (time + 1 ≡ 8 * u.round - 6) ⊎ (time + 1 ≡ 8 * u.round - 6 → ⊥)
        → (time + 1 ≡ 8 * u.round - 2) ⊎ (time + 1 ≡ 8 * u.round - 2 → ⊥)
        → length (cond (is_due u (time + 1)) to []) + gone_by u many time ≡ gone_by u many (time + 1)
    go (inl e) (inl f) = absurd (omega (arith, e, f, low))
    go (inl e) (inr n) =
        let now : is_due u (time + 1) ≡ true = due-in u (time + 1) (omega (arith, e, low)) (inl (omega (arith, e, low))) in
        omega (arith, sent true now, long, since-now (8 * u.round - 6) many time e, since-next (8 * u.round - 2) many time n)
    go (inr n) (inl f) =
        let now : is_due u (time + 1) ≡ true = due-in u (time + 1) (omega (arith, f, low)) (inr (omega (arith, f, low))) in
        omega (arith, sent true now, long, since-next (8 * u.round - 6) many time n, since-now (8 * u.round - 2) many time f)
    go (inr n) (inr o) =
        let now : is_due u (time + 1) ≡ false = false_from_ne_true _ (quiet n o) in
        omega (arith, sent false now, since-next (8 * u.round - 6) many time n, since-next (8 * u.round - 2) many time o)

-- ---- one input

-- an input sends the difference of what was sent after it and before it
abbrev Counts : Member → UpdateId → Log → Out → Type 0
Counts me u log out =
    length (receivers u out.sends) + gone_by u me.session.fanout (ticks log) ≡ gone_by u me.session.fanout (ticks out.state)

counts-quiet : (me : Member) (u : UpdateId) (log after : Log) → ticks after ≡ ticks log → Counts me u log (begun after)
counts-quiet me u log after e =
    omega (arith, ap (gone_by u me.session.fanout) e)

evict-time : (log : Log) (evidence : List (List ℕ)) (v : Verdict) → ticks (evict_by log evidence v) ≡ ticks log
evict-time log evidence (NotShown why) = refl
evict-time log evidence (Shown party fault) = go (is_some (kept log party))
  where
    go : (b : Bool) → ticks (cond b log (Kept party evidence ∷ log)) ≡ ticks log
    go true = refl
    go false = omega arith

judge-time : (me : Member) (stream : List ℕ) (log : Log) (b : Body) → ticks (judge_body me stream log b) ≡ ticks log
judge-time me stream log (Evidence evidence) = evict-time log evidence (verdict me.session (caster_table me stream log) evidence)
judge-time me stream log _ = refl

pub datagram-time : (me : Member) (stream : List ℕ) (log : Log) (o : Option Datagram) → ticks (judge_datagram me stream log o) ≡ ticks log
datagram-time me stream log None = refl
datagram-time me stream log (Some d) = judge-time me stream log d.message.body

step-counts :
    (me : Member) (stream : List ℕ) (u : UpdateId) (log : Log) (input : Input)
    → IsBroadcaster me → IsReleased me stream u → evicted me.session log ≡ []
    → Counts me u log (caster_step me stream log input)
unfolding caster_step
step-counts me stream u log input is released none = go (nat_le (last_tick me.session) (ticks log)) input
  where
    to : List ℕ
    to = fanout_at me u (Ticked ∷ log)

    gone : ℕ → ℕ
    gone time = gone_by u me.session.fanout time

    many : length to ≡ me.session.fanout
    many = ap length (fanout-served me u log none) ∙ fanouts-whole me u is.session.fanout_high

    tick : (out : Out) → AtTick me u (Ticked ∷ log) out → Counts me u log out
    tick out at =
        omega (arith, ap length at.sends, ap gone at.time, gone-next u to me.session.fanout (ticks log) released.0 many)

    go : (b : Bool) (input : Input) → Counts me u log (cond b (begun log) (caster_take me stream log input))
    go true input = counts-quiet me u log log refl
    go false event.Tick = tick _ (at-tick me stream u (Ticked ∷ log) released)
    go false (event.Datagram bytes) = counts-quiet me u log _ (datagram-time me stream log (datagram_of me.session bytes))

-- ---- every list of inputs

abbrev Numbered : Type 0
Numbered = List (ℕ × ℕ × Datagram)

-- the sends of one input, with its number
abbrev numbered : ℕ → List (ℕ × Datagram) → Numbered
numbered number sends = map (λ send. (number, send.0, send.1)) sends

-- the blocks of the update among them
abbrev blocks_in : UpdateId → Numbered → Numbered
blocks_in u sends = filter (λ send. is_block_of u send.2.message.body) sends

numbered-blocks :
    (u : UpdateId) (number : ℕ) (sends : List (ℕ × Datagram))
    → length (blocks_in u (numbered number sends)) ≡ length (receivers u sends)
numbered-blocks u number [] = refl
numbered-blocks u number (s ∷ sends) = go (is_block_of u s.1.message.body) (numbered-blocks u number sends)
  where
    mine : List (ℕ × Datagram)
    mine = filter (has_block u) sends

    others : Numbered
    others = blocks_in u (numbered number sends)

    go :
        (b : Bool) → length others ≡ length (receivers u sends)
        → length (cond b ((number, s.0, s.1) ∷ others) others)
        ≡ length (map (λ (send : ℕ × Datagram). send.0) (cond b (s ∷ mine) mine))
    go true e = ap suc e
    go false e = e

blocks-more :
    (u : UpdateId) (number : ℕ) (sends : List (ℕ × Datagram)) (rest : Numbered)
    → length (blocks_in u (numbered number sends ++ rest)) ≡ length (receivers u sends) + length (blocks_in u rest)
blocks-more u number sends rest =
    ap length (filter-append (λ send. is_block_of u send.2.message.body) (numbered number sends) rest)
    ∙ length-append (blocks_in u (numbered number sends)) (blocks_in u rest)
    ∙ ap (λ n. n + length (blocks_in u rest)) (numbered-blocks u number sends)

-- if none is evicted at the end, none was before, and what was sent is what had been sent by that time
record CountsOn (me : Member) (stream : List ℕ) (u : UpdateId) (log : Log) (number : ℕ) (inputs : List Input) : Type 0 where
  none : evicted me.session log ≡ []
  count :
      length (blocks_in u (sends_from (caster_step me stream) log number inputs)) + gone_by u me.session.fanout (ticks log)
      ≡ gone_by u me.session.fanout (ticks (state_after (caster_step me stream) log inputs))

run-counts :
    (me : Member) (stream : List ℕ) (u : UpdateId) (log : Log) (number : ℕ) (inputs : List Input)
    → IsBroadcaster me → IsReleased me stream u → AreOwn me.session stream log → IsFair me stream log
    → evicted me.session (state_after (caster_step me stream) log inputs) ≡ []
    → CountsOn me stream u log number inputs
run-counts me stream u log number [] is released own fair none = record { none = none; count = omega arith }
run-counts me stream u log number (input ∷ inputs) is released own fair none =
    let out : Out = caster_step me stream log input in
    let casts = caster-casts me stream log input (record { session = is.session; party = is.party; fits = is.fits }) own fair in
    let rest : CountsOn me stream u out.state (number + 1) inputs =
    run-counts me stream u out.state (number + 1) inputs is released casts.own casts.fair none in
    let later : IsLater out.state log = record { new = casts.adds.new; split = casts.adds.split } in
    let before : evicted me.session log ≡ [] = none-before me.session out.state log later rest.none in
    let sent = blocks-more u number out.sends (sends_from (caster_step me stream) out.state (number + 1) inputs) in
    record { none = before; count = omega (arith, sent, step-counts me stream u log input is released before, rest.count) }

pub out-twice : GoesOutTwice
out-twice me stream is inputs u released none past =
    let run : CountsOn me stream u [] 1 inputs = run-counts me stream u [] 1 inputs is released (λ d said. absurd said) tt none in
    let many : ℕ = me.session.fanout in
    let time : ℕ = ticks (caster_log_after me stream inputs) in
    let first : since (8 * u.round - 6) many 0 ≡ 0 = since-not (8 * u.round - 6) many 0 (omega (arith, released.0)) in
    let second : since (8 * u.round - 2) many 0 ≡ 0 = since-not (8 * u.round - 2) many 0 (omega (arith, released.0)) in
    let once : since (8 * u.round - 6) many time ≡ many = since-then (8 * u.round - 6) many time (omega (arith, past)) in
    let again : since (8 * u.round - 2) many time ≡ many = since-then (8 * u.round - 2) many time (omega (arith, past)) in
    omega (arith, run.count, first, second, once, again)

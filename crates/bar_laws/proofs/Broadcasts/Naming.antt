-- Evidence is kept against each party that a notice of evictions names.
use Rattle.bar_rules.specs.Broadcaster.Sending.{announce, announce_by, announce_evictions, announce_manifest, caster_signed, caster_step, caster_take, caster_tick, evicted, repeat_manifest, repeats_manifest, send_block, send_blocks, served}
use Rattle.bar_rules.specs.Broadcaster.Stream.{is_in_fanout, manifest_list, peers_of, round_blocks}
use Rattle.bar_rules.specs.Member.{Member}
use Rattle.bar_rules.specs.Peer.Log.{Entry, Kept, Log, Said, Ticked, first_said, has_kind_and_round, kept, kept_in, round_now, said_in, ticks}
use Rattle.bar_rules.specs.Peer.Run.{Out}
use Rattle.bar_rules.specs.Runs.{begun, sending, state_after}
use Rattle.bar_rules.specs.Values.{datagram_of, unsigned}
use Rattle.bar_session.specs.Time.{last_tick}
use Rattle.bar_window.specs.declared.update.UpdateId.{UpdateId}
use Rattle.bar_wire.specs.Bodies.{evictions_in}
use Rattle.bar_wire.specs.Datagram.{Body, Datagram, Evict, Manifest, Block, kind_of}
use Rattle.bar_wire.specs.Inputs.{Input}
use Rattle.bar_wire.specs.Inputs as event
use Rattle.std.proofs.Common.{◌≡◌, ◌∙◌, inl, inr, ℕ, ◌+◌, ◌*◌, ◌-◌, Bool, true, false, ◌||◌, List, [], ◌∷◌, refl, sym, ap, subst, eqb, not, length}
use Rattle.std.specs.Prelude.{Option, Some, None, cond, filter, is_some, nat_le, nat_lt}
use Rattle.std.specs.List.{list_any}
use Rattle.std.specs.Option.{option_or}
use Rattle.std.proofs.lemmas.Bool.{eqb-true}
use Rattle.bar_laws.proofs.Broadcasts.SentToAll.{all-state, repeat-flat}
use Rattle.bar_laws.proofs.Broadcasts.Steps.{judged-keeps}
use Rattle.bar_laws.proofs.Logs.{SaidIn, no-value, some-equal}

-- a body names a party
abbrev names : Body → ℕ → Bool
names b q = list_any (λ p. eqb p q) (evictions_in b)

-- evidence is kept against each party that a signed notice names
abbrev pub NamesKept : Log → Type 0
NamesKept log = (d : Datagram) → SaidIn log d → (q : ℕ) → names d.message.body q ≡ true → is_some (kept log q) ≡ true

-- ---- entries

kept-more : (x : Entry) (log : Log) (q : ℕ) → is_some (kept log q) ≡ true → is_some (kept (x ∷ log) q) ≡ true
kept-more x log q e = go (kept log q) e
  where
    go : (o : Option (List (List ℕ))) → is_some o ≡ true → is_some (option_or o (kept_in q x)) ≡ true
    go (Some v) e = refl
    go None e = cc

names-said : (log : Log) (d : Datagram) → NamesKept log → ((q : ℕ) → names d.message.body q ≡ true → is_some (kept log q) ≡ true) → NamesKept (Said d ∷ log)
names-said log d h f e (inl g) q n =
    let same : d ≡ e = some-equal d e (ap said_in g) in
    kept-more (Said d) log q (f q (ap (λ (z : Datagram). names z.message.body q) same ∙ n))
names-said log d h f e (inr g) q n = kept-more (Said d) log q (h e g q n)

names-other : (log : Log) (x : Entry) → said_in x ≡ None → NamesKept log → NamesKept (x ∷ log)
names-other log x none h e (inl g) q n = absurd (no-value (said_in x) e (ap is_some none) (ap said_in g))
names-other log x none h e (inr g) q n = kept-more x log q (h e g q n)

-- ---- sending adds nothing

block-state : (out : Out) (ps : List ℕ) (u : UpdateId) (block : List ℕ) → (send_block out ps u block).state ≡ out.state
block-state out [] u block = refl
block-state out (p ∷ ps) u block = block-state (sending out p (unsigned (record { from = 0; to = p; body = Block u block }))) ps u block

blocks-state : (me : Member) (m i : ℕ) (blocks : List (List ℕ)) (out : Out) → (send_blocks me m i blocks out).state ≡ out.state
blocks-state me m i [] out = refl
blocks-state me m i (block ∷ blocks) out =
    let u : UpdateId = record { round = m; index = i } in
    let ps : List ℕ = filter (is_in_fanout me u) (served me.session out.state) in
    blocks-state me m (i + 1) blocks (send_block out ps u block) ∙ block-state out ps u block

-- ---- a tick

announce-names : (me : Member) (out : Out) (leaf m : ℕ) (body : Body) → NamesKept out.state → ((q : ℕ) → names body q ≡ true → is_some (kept out.state q) ≡ true) → NamesKept (announce me out leaf m body).state
announce-names me out leaf m body h f = go (first_said (has_kind_and_round (kind_of body) m) out.state)
  where
    go : (o : Option Datagram) → NamesKept (announce_by me out leaf body o).state
    go (Some d) = subst NamesKept (sym (all-state out (served me.session out.state) d)) h
    go None =
        let d : Datagram = caster_signed me leaf body in
        subst NamesKept (sym (all-state (record out { state = Said d ∷ out.state }) (served me.session out.state) d)) (names-said out.state d h f)

manifest-names : (me : Member) (stream : List ℕ) (m : ℕ) (out : Out) → NamesKept out.state → NamesKept (announce_manifest me stream m out).state
manifest-names me stream m out h = announce-names me out (2 * (m - 1)) m (Manifest m (manifest_list me.session stream m)) h (λ q e. cc)

-- each element of a filtered list passes
any-passes : (p : ℕ → Bool) (xs : List ℕ) (q : ℕ) → list_any (λ x. eqb x q) (filter p xs) ≡ true → p q ≡ true
any-passes p [] q e = cc
any-passes p (x ∷ xs) q e = go (p x) refl e (any-passes p xs q)
  where
    here : (b : Bool) → eqb x q ≡ b → p x ≡ true → (b || list_any (λ x. eqb x q) (filter p xs)) ≡ true → (list_any (λ x. eqb x q) (filter p xs) ≡ true → p q ≡ true) → p q ≡ true
    here true f g e rest = ap p (sym (eqb-true x q f)) ∙ g
    here false f g e rest = rest e

    go : (b : Bool) → p x ≡ b → list_any (λ x. eqb x q) (cond b (x ∷ filter p xs) (filter p xs)) ≡ true → (list_any (λ x. eqb x q) (filter p xs) ≡ true → p q ≡ true) → p q ≡ true
    go true g e rest = here (eqb x q) refl g e rest
    go false g e rest = rest e

evictions-names : (me : Member) (m : ℕ) (out : Out) → NamesKept out.state → NamesKept (announce_evictions me m out).state
evictions-names me m out h = go (nat_lt 0 (length (evicted me.session out.state)))
  where
    go : (b : Bool) → NamesKept (cond b (announce me out (2 * (m - 1) + 1) m (Evict m (evicted me.session out.state))) out).state
    go true = announce-names me out (2 * (m - 1) + 1) m (Evict m (evicted me.session out.state)) h (any-passes (λ q. is_some (kept out.state q)) (peers_of me.session))
    go false = h

tick-names : (me : Member) (stream : List ℕ) (out : Out) → NamesKept out.state → NamesKept (caster_tick me stream out).state
tick-names me stream out h = go _ (not (nat_le m me.session.shape.rounds)) _ _ _
  where
    m : ℕ
    m = round_now out.state

    again : (b : Bool) → NamesKept (cond b (repeat_manifest me.session (m - 1) out) out).state
    again true = subst (λ (o : Out). NamesKept o.state) (sym (repeat-flat me.session (m - 1) out).1) h
    again false = h

    go : (s p q r t : Bool)
        → NamesKept (cond s (cond (repeats_manifest me.session m) (repeat_manifest me.session (m - 1) out) out)
        (cond p out (cond q (announce_evictions me m (announce_manifest me stream m out)) (cond r (announce_manifest me stream m out) (cond t (send_blocks me m 0 (round_blocks me.session stream m) out) out))))).state
    go true p q r t = again (repeats_manifest me.session m)
    go false true q r t = h
    go false false true r t = evictions-names me m (announce_manifest me stream m out) (manifest-names me stream m out h)
    go false false false true t = manifest-names me stream m out h
    go false false false false true = subst NamesKept (sym (blocks-state me m 0 (round_blocks me.session stream m) out)) h
    go false false false false false = h

-- ---- one input

take-names : (me : Member) (stream : List ℕ) (log : Log) (i : Input) → NamesKept log → NamesKept (caster_take me stream log i).state
take-names me stream log event.Tick h = tick-names me stream (begun (Ticked ∷ log)) (names-other log Ticked refl h)
take-names me stream log (event.Datagram bytes) h = judged-keeps NamesKept me stream log (datagram_of me.session bytes) h (λ q evidence. names-other log (Kept q evidence) refl h)

step-names : (me : Member) (stream : List ℕ) (log : Log) (i : Input) → NamesKept log → NamesKept (caster_step me stream log i).state
unfolding caster_step
step-names me stream log i h = go (nat_le (last_tick me.session) (ticks log))
  where
    go : (b : Bool) → NamesKept (cond b (begun log) (caster_take me stream log i)).state
    go true = h
    go false = take-names me stream log i h

pub run-names : (me : Member) (stream : List ℕ) (inputs : List Input) (log : Log) → NamesKept log → NamesKept (state_after (caster_step me stream) log inputs)
run-names me stream [] log h = h
run-names me stream (i ∷ inputs) log h = run-names me stream inputs (caster_step me stream log i).state (step-names me stream log i h)

-- What an input adds to the broadcaster's log, and what it sends, one thing after another: each property that these keep holds after the
-- input.
use Rattle.bar_laws.specs.Broadcasting.{IsSignedInTime, manifest_of}
use Rattle.bar_lms.specs.Schemes.{leaves_by}
use Rattle.bar_rules.specs.Broadcaster.Party.{IsBroadcaster}
use Rattle.bar_rules.specs.Broadcaster.Sending.{evicted, served, caster_signed, send_all, announce_by, announce, announce_manifest, announce_evictions, repeat_all, repeat_manifest, repeats_manifest, send_block, send_blocks, caster_tick, caster_step, evict_by, judge_body, judge_datagram}
use Rattle.bar_rules.specs.Broadcaster.Stream.{round_blocks, manifest_list, caster_table, is_in_fanout, peers_of}
use Rattle.bar_rules.specs.Judge.Verdict.{Verdict, Shown, NotShown, verdict}
use Rattle.bar_rules.specs.Member.{Session, Member}
use Rattle.bar_session.specs.Time.{last_tick}
use Rattle.bar_rules.specs.Peer.Log.{Kept, Log, Said, Ticked, first_said, has_kind_and_round, kept, round_now, ticks}
use Rattle.bar_rules.specs.Peer.Run.{Out}
use Rattle.bar_rules.specs.Runs.{begun, sending}
use Rattle.bar_rules.specs.Values.{unsigned}
use Rattle.bar_window.specs.declared.update.UpdateId.{UpdateId}
use Rattle.bar_wire.specs.Datagram.{kind_of, round_of, Datagram, Body, Manifest, Block, Evidence, Evict}
use Rattle.bar_wire.specs.Grammar.{IsPeer}
use Rattle.bar_wire.specs.Inputs as event
use Rattle.bar_wire.specs.declared.kind.Kind.TheVariants as kinds
use Rattle.bar_wire.specs.Limits.{leaves_a_round}
use Rattle.std.proofs.Common.{◌≡◌, ℕ, Bool, true, false, List, [], ◌∷◌, ◌+◌, ◌-◌, ◌*◌, ◌<◌, ◌≤◌, not, length, arith, refl, ap, ◌∙◌}
use Rattle.std.specs.Prelude.{Option, Some, None, is_none, is_some, cond, nat_le, nat_lt, filter}
use Rattle.std.specs.List.{AllByRecursion}
use Rattle.std.proofs.lemmas.Bool.{leb-true, lt-leb, ltb-true, not-false}
use Rattle.std.proofs.lemmas.List.Elements.{All-contains, filter_passes}
use Rattle.bar_laws.proofs.Logs.{all-kept, all-map, all-of}
use Rattle.bar_laws.proofs.Runs.{not_some}
use Rattle.bar_laws.proofs.Fitting.{manifest-fits, evict-fits, served-are-peers}
use Rattle.bar_bytes.proofs.Options.{or-none}

-- a peer that isn't evicted
abbrev pub IsServed : Session → Log → ℕ → Type 0
IsServed s log p = IsPeer s.shape p × (kept log p ≡ None)

pub served-all : (s : Session) (log : Log) → AllByRecursion (IsServed s log) (served s log)
served-all s log = all-of (IsServed s log) (served s log) (λ p c.
    let peer = served-are-peers s log p c in
    ((omega (arith, peer.0), peer.1), not_some (kept log p) (All-contains (λ q. is_none (kept log q) ≡ true) (served s log) p (filter_passes (λ q. is_none (kept log q)) (peers_of s)) c)))

-- no message of the kind and round of a body was said
abbrev pub IsNew : Log → Body → Type 0
IsNew log body = first_said (has_kind_and_round (kind_of body) (round_of body)) log ≡ None

-- properties that are kept by a datagram that is sent to a peer that isn't evicted, and by one that is said in time and is new
pub record IsKept (me : Member) (stream : List ℕ) (P : Out → Type 0) : Type 0 where
  pub sent : (out : Out) (to : ℕ) (d : Datagram) → IsServed me.session out.state to → P out → P (sending out to d)
  pub said : (out : Out) (d : Datagram) → IsSignedInTime me stream out.state d → IsNew out.state d.message.body → P out → P (record out { state = Said d ∷ out.state })

pub all-keep : (me : Member) (stream : List ℕ) (P : Out → Type 0) → IsKept me stream P → (out : Out) (ps : List ℕ) (d : Datagram) → AllByRecursion (IsServed me.session out.state) ps → P out → P (send_all out ps d)
all-keep me stream P k out [] d all h = h
all-keep me stream P k out (p ∷ ps) d all h = all-keep me stream P k (sending out p d) ps d all.1 (k.sent out p d all.0 h)

-- what is said evicts nobody
served-said : (s : Session) (log : Log) (d : Datagram) (p : ℕ) → IsServed s log p → IsServed s (Said d ∷ log) p
served-said s log d p h = (h.0, or-none (kept log p) ∙ h.1)

pub served-those : (s : Session) (log : Log) (d : Datagram) → AllByRecursion (IsServed s (Said d ∷ log)) (served s log)
served-those s log d = all-map (IsServed s log) (IsServed s (Said d ∷ log)) (served s log) (served-said s log d) (served-all s log)

-- a message is announced with its leaf
announce-keeps : (me : Member) (stream : List ℕ) (P : Out → Type 0) → IsKept me stream P → (out : Out) (leaf : ℕ) (body : Body) → IsSignedInTime me stream out.state (caster_signed me leaf body) → P out
    → P (announce me out leaf (round_of body) body)
announce-keeps me stream P k out leaf body may h = go (first_said (has_kind_and_round (kind_of body) (round_of body)) out.state) refl
  where
    d : Datagram
    d = caster_signed me leaf body

    go : (o : Option Datagram) → first_said (has_kind_and_round (kind_of body) (round_of body)) out.state ≡ o → P (announce_by me out leaf body o)
    go (Some c) e = all-keep me stream P k out (served me.session out.state) c (served-all me.session out.state) h
    go None e = all-keep me stream P k (record out { state = Said d ∷ out.state }) (served me.session out.state) d (served-those me.session out.state d) (k.said out d may e h)

-- a manifest that was said is sent again
repeat-keeps : (me : Member) (stream : List ℕ) (P : Out → Type 0) → IsKept me stream P → (round : ℕ) (out : Out) → P out → P (repeat_manifest me.session round out)
repeat-keeps me stream P k round out h = go (first_said (has_kind_and_round kinds.Manifest round) out.state)
  where
    go : (o : Option Datagram) → P (repeat_all me.session out o)
    go None = h
    go (Some d) = all-keep me stream P k out (served me.session out.state) d (served-all me.session out.state) h

block-keeps : (me : Member) (stream : List ℕ) (P : Out → Type 0) → IsKept me stream P → (out : Out) (ps : List ℕ) (u : UpdateId) (block : List ℕ) → AllByRecursion (IsServed me.session out.state) ps → P out → P (send_block out ps u block)
block-keeps me stream P k out [] u block all h = h
block-keeps me stream P k out (p ∷ ps) u block all h =
    let d : Datagram = unsigned (record { from = 0; to = p; body = Block u block }) in
    block-keeps me stream P k (sending out p d) ps u block all.1 (k.sent out p d all.0 h)

blocks-keep : (me : Member) (stream : List ℕ) (P : Out → Type 0) → IsKept me stream P → (m i : ℕ) (blocks : List (List ℕ)) (out : Out) → P out → P (send_blocks me m i blocks out)
blocks-keep me stream P k m i [] out h = h
blocks-keep me stream P k m i (block ∷ blocks) out h =
    let u : UpdateId = record { round = m; index = i } in
    let those = all-kept (IsServed me.session out.state) (is_in_fanout me u) (served me.session out.state) (served-all me.session out.state) in
    blocks-keep me stream P k m (i + 1) blocks (send_block out (filter (is_in_fanout me u) (served me.session out.state)) u block) (block-keeps me stream P k out (filter (is_in_fanout me u) (served me.session out.state)) u block those h)

-- ---- what a tick says is in time

pub manifest-in-time : (me : Member) (stream : List ℕ) (log : Log) (m : ℕ) → IsBroadcaster me → 1 ≤ m → m ≤ me.session.shape.rounds → m ≤ round_now log → IsSignedInTime me stream log (manifest_of me stream m)
manifest-in-time me stream log m is low high begun =
    let few : leaves_a_round * me.session.shape.rounds ≤ leaves_by me.session.top me.session.params = is.session.leaves in
    record { announces = refl; signed = refl; fits = manifest-fits me stream m is.session low high; low = low; high = high; begun = begun; below = omega (arith, few, low, high) }

evict-in-time : (me : Member) (stream : List ℕ) (log : Log) (m : ℕ) → IsBroadcaster me → 1 ≤ m → m ≤ me.session.shape.rounds → m ≤ round_now log → 0 < length (evicted me.session log)
    → IsSignedInTime me stream log (caster_signed me (2 * (m - 1) + 1) (Evict m (evicted me.session log)))
evict-in-time me stream log m is low high begun some =
    let few : leaves_a_round * me.session.shape.rounds ≤ leaves_by me.session.top me.session.params = is.session.leaves in
    record { announces = tt; signed = refl; fits = evict-fits me log m is.session low high some; low = low; high = high; begun = begun; below = omega (arith, few, low, high) }

-- ---- the tick

-- if a property is kept, so is the property together with a round having begun
pub kept-begun : (me : Member) (stream : List ℕ) (P : Out → Type 0) (m : ℕ) → IsKept me stream P → IsKept me stream (λ out. (m ≤ round_now out.state) × P out)
kept-begun me stream P m k = record { sent = λ out to d s h. (h.0, k.sent out to d s h.1); said = λ out d s n h. (omega (arith, h.0), k.said out d s n h.1) }

pub manifest-keeps : (me : Member) (stream : List ℕ) (P : Out → Type 0) → IsKept me stream P → IsBroadcaster me → (m : ℕ) (out : Out) → 1 ≤ m → m ≤ me.session.shape.rounds → m ≤ round_now out.state → P out → P (announce_manifest me stream m out)
manifest-keeps me stream P k is m out low high begun h =
    announce-keeps me stream P k out (2 * (m - 1)) (Manifest m (manifest_list me.session stream m)) (manifest-in-time me stream out.state m is low high begun) h

pub evictions-keep : (me : Member) (stream : List ℕ) (P : Out → Type 0) → IsKept me stream P → IsBroadcaster me → (m : ℕ) (out : Out) → 1 ≤ m → m ≤ me.session.shape.rounds → m ≤ round_now out.state → P out → P (announce_evictions me m out)
evictions-keep me stream P k is m out low high begun h = go (nat_lt 0 (length (evicted me.session out.state))) refl
  where
    go : (b : Bool) → nat_lt 0 (length (evicted me.session out.state)) ≡ b → P (cond b (announce me out (2 * (m - 1) + 1) m (Evict m (evicted me.session out.state))) out)
    go true e = announce-keeps me stream P k out (2 * (m - 1) + 1) (Evict m (evicted me.session out.state)) (evict-in-time me stream out.state m is low high begun (ltb-true _ _ e)) h
    go false e = h

pub tick-keeps : (me : Member) (stream : List ℕ) (P : Out → Type 0) → IsKept me stream P → IsBroadcaster me → (out : Out) → 1 ≤ round_now out.state → P out → P (caster_tick me stream out)
tick-keeps me stream P k is out low h = go _ (not (nat_le m me.session.shape.rounds)) refl _ _ _
  where
    m : ℕ
    m = round_now out.state

    within : not (nat_le m me.session.shape.rounds) ≡ false → m ≤ me.session.shape.rounds
    within e = leb-true m me.session.shape.rounds (not-false _ e)

    manifest : m ≤ me.session.shape.rounds → P (announce_manifest me stream m out)
    manifest high = manifest-keeps me stream P k is m out low high (omega arith) h

    both : m ≤ me.session.shape.rounds → P (announce_evictions me m (announce_manifest me stream m out))
    both high =
        let first = manifest-keeps me stream (λ out. (m ≤ round_now out.state) × P out) (kept-begun me stream P m k) is m out low high (omega arith) (omega arith, h) in
        evictions-keep me stream P k is m (announce_manifest me stream m out) low high first.0 first.1

    again : (b : Bool) → P (cond b (repeat_manifest me.session (m - 1) out) out)
    again true = repeat-keeps me stream P k (m - 1) out h
    again false = h

    go : (s p : Bool) → not (nat_le m me.session.shape.rounds) ≡ p → (q r t : Bool)
        → P (cond s (cond (repeats_manifest me.session m) (repeat_manifest me.session (m - 1) out) out)
        (cond p out (cond q (announce_evictions me m (announce_manifest me stream m out)) (cond r (announce_manifest me stream m out) (cond t (send_blocks me m 0 (round_blocks me.session stream m) out) out)))))
    go true p e q r t = again (repeats_manifest me.session m)
    go false true e q r t = h
    go false false e true r t = both (within e)
    go false false e false true t = manifest (within e)
    go false false e false false true = blocks-keep me stream P k m 0 (round_blocks me.session stream m) out h
    go false false e false false false = h

-- before the last tick, a tick is taken
pub ticks-on :
    (me : Member) (stream : List ℕ) (log : Log) → ticks log < last_tick me.session
    → caster_step me stream log event.Tick ≡ caster_tick me stream (begun (Ticked ∷ log))
unfolding caster_step
ticks-on me stream log early =
    ap (λ b. cond b (begun log) (caster_tick me stream (begun (Ticked ∷ log)))) (lt-leb (last_tick me.session) (ticks log) early)

-- ---- a datagram

-- evidence that is judged is kept, or nothing is added
pub judged-keeps : (P : Log → Type 0) (me : Member) (stream : List ℕ) (log : Log) (o : Option Datagram) → P log → ((q : ℕ) (evidence : List (List ℕ)) → P (Kept q evidence ∷ log)) → P (judge_datagram me stream log o)
judged-keeps P me stream log None h k = h
judged-keeps P me stream log (Some d) h k = body d.message.body
  where
    evicted : (evidence : List (List ℕ)) (v : Verdict) → P (evict_by log evidence v)
    evicted evidence (NotShown why) = h
    evicted evidence (Shown party fault) = go (is_some (kept log party))
      where
        go : (b : Bool) → P (cond b log (Kept party evidence ∷ log))
        go true = h
        go false = k party evidence

    body : (b : Body) → P (judge_body me stream log b)
    body (Evidence evidence) = evicted evidence (verdict me.session (caster_table me stream log) evidence)
    body _ = h

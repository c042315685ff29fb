-- The broadcaster signs one manifest and at most one notice of evictions a round, each with its own leaf.
use Rattle.bar_laws.specs.Broadcasting.{IsAnnouncement, IsSignedInTime, SignsOnceARound, caster_leaf, manifest_of}
use Rattle.bar_rules.specs.Broadcaster.Party.{IsBroadcaster}
use Rattle.bar_rules.specs.Broadcaster.Sending.{announce_by, announce_evictions, announce_manifest, caster_log_after, caster_signed, caster_step, caster_take, caster_tick, served}
use Rattle.bar_rules.specs.Broadcaster.Stream.{manifest_list}
use Rattle.bar_session.specs.Time.{last_tick, slot_after}
use Rattle.bar_rules.specs.Member.{Member}
use Rattle.bar_rules.specs.Peer.Log.{Entry, Heard, Kept, Log, Said, Ticked, first_said, has_kind_and_round, if_passes, round_now, ticks}
use Rattle.bar_rules.specs.Peer.Run.{Out}
use Rattle.bar_rules.specs.Runs.{begun, state_after}
use Rattle.bar_wire.specs.Datagram.{Body, Datagram, Evict, Manifest, kind_number, kind_of, round_of}
use Rattle.bar_wire.specs.Inputs.{Input}
use Rattle.bar_wire.specs.Inputs as event
use Rattle.bar_wire.specs.Kinds.{code_of}
use Rattle.bar_wire.specs.declared.kind.Kind.TheVariants as kinds
use Rattle.std.proofs.Common.{◌≡◌, ℕ, Bool, true, false, List, [], ◌∷◌, ◌++◌, ◌-◌, ◌*◌, ◌<◌, ◌≤◌, eqb, not, arith, refl, sym, ap, subst, ◌∙◌, inl, inr}
use Rattle.std.specs.Prelude.{Option, Some, None, ◌⊎◌, Contains, is_some, cond, nat_le}
use Rattle.std.proofs.lemmas.Bool.{and_from, and_parts, both_ways, eq-eqb, eqb-true, le-leb, cond-true, cond-false, not_from_true, cases_lt}
use Rattle.bar_laws.specs.Growing.{IsLater}
use Rattle.bar_laws.proofs.Logs.{SaidIn, find-later, first_said-was, later-entry, option_or-some, round-later, said-found, said-in, was-said}
use Rattle.bar_laws.proofs.Runs.{ticked-low, was-said-in}
use Rattle.bar_laws.proofs.Broadcasts.Steps.{IsKept, IsNew, all-keep, evictions-keep, judged-keeps, kept-begun, manifest-keeps, served-all, served-those, tick-keeps}
use Rattle.bar_bytes.proofs.Tests.{eqb_refl}

-- ---- what was said

-- each that was said was the first of its kind and round
abbrev AreNew : Log → Type 0
AreNew [] = Unit {0}
AreNew (Said d ∷ log) = IsNew log d.message.body × AreNew log
AreNew (Ticked ∷ log) = AreNew log
AreNew (Heard d ∷ log) = AreNew log
AreNew (Kept q e ∷ log) = AreNew log

record Signs (me : Member) (stream : List ℕ) (log : Log) : Type 0 where
  each : (d : Datagram) → SaidIn log d → IsSignedInTime me stream log d
  new : AreNew log

stays-in-time : (me : Member) (stream : List ℕ) (x : Entry) (log : Log) (d : Datagram) → IsSignedInTime me stream log d → IsSignedInTime me stream (x ∷ log) d
stays-in-time me stream x log d h =
    let later : round_now log ≤ round_now (x ∷ log) = round-later (x ∷ log) log (record { new = x ∷ []; split = refl }) in
    record { announces = h.announces; signed = h.signed; fits = h.fits; low = h.low; high = h.high; begun = omega (arith, later, h.begun); below = h.below }

signs-said : (me : Member) (stream : List ℕ) (log : Log) (d : Datagram) → IsSignedInTime me stream log d → IsNew log d.message.body → Signs me stream log → Signs me stream (Said d ∷ log)
signs-said me stream log d may new h = record { each = each; new = (new, h.new) }
  where
    each : (e : Datagram) → SaidIn (Said d ∷ log) e → IsSignedInTime me stream (Said d ∷ log) e
    each e (inl p) = let same : d ≡ e = cc in subst (λ z. IsSignedInTime me stream (Said d ∷ log) z) same (stays-in-time me stream (Said d) log d may)
    each e (inr p) = stays-in-time me stream (Said d) log e (h.each e p)

signs-other : (me : Member) (stream : List ℕ) (x : Entry) (log : Log) → ((d : Datagram) → x ≡ Said d → ⊥) → AreNew (x ∷ log) → Signs me stream log → Signs me stream (x ∷ log)
signs-other me stream x log other new h = record { each = each; new = new }
  where
    each : (e : Datagram) → SaidIn (x ∷ log) e → IsSignedInTime me stream (x ∷ log) e
    each e (inl p) = absurd (other e p)
    each e (inr p) = stays-in-time me stream x log e (h.each e p)

signs-kept : (me : Member) (stream : List ℕ) → IsKept me stream (λ out. Signs me stream out.state)
signs-kept me stream = record { sent = λ out to d s h. h; said = λ out d may new h. signs-said me stream out.state d may new h }

-- ---- the manifests

abbrev HasManifest : Member → List ℕ → ℕ → Log → Type 0
HasManifest me stream round log = first_said (has_kind_and_round kinds.Manifest round) log ≡ Some (manifest_of me stream round)

abbrev HasManifests : Member → List ℕ → Log → Type 0
HasManifests me stream log = (round : ℕ) → 1 ≤ round → round ≤ me.session.shape.rounds → round ≤ round_now log → HasManifest me stream round log

-- the manifest of a round that was said is the stream's
said-manifest : (me : Member) (stream : List ℕ) (m : ℕ) (log : Log) (d : Datagram) → Signs me stream log → first_said (has_kind_and_round kinds.Manifest m) log ≡ Some d → d ≡ manifest_of me stream m
said-manifest me stream m log d h e =
    let was = first_said-was (has_kind_and_round kinds.Manifest m) log d e in
    let is : IsSignedInTime me stream log d = h.each d (said-in log d was.0) in
    let p = and_parts _ _ was.1 in
    is.signed ∙ ap (λ b. caster_signed me (caster_leaf b) b) (body d.message.body is.announces (eqb-true _ _ p.0) (eqb-true _ _ p.1))
  where
    body : (b : Body) → IsAnnouncement me stream b → kind_number b ≡ code_of kinds.Manifest → round_of b ≡ m → b ≡ Manifest m (manifest_list me.session stream m)
    body (Manifest r ds) a k e = cc
    body (Evict r ps) a k e = cc
    body _ a k e = absurd a

passes : (me : Member) (stream : List ℕ) (m : ℕ) → if_passes (has_kind_and_round kinds.Manifest m) (Some (manifest_of me stream m)) ≡ Some (manifest_of me stream m)
passes me stream m = rw (eqb_refl m) refl

manifest-stays : (me : Member) (stream : List ℕ) (m : ℕ) → IsKept me stream (λ out. HasManifest me stream m out.state)
manifest-stays me stream m = record {
  sent = λ out to d s h. h;
  said = λ out d may new h. option_or-some (first_said (has_kind_and_round kinds.Manifest m) out.state) (if_passes (has_kind_and_round kinds.Manifest m) (Some d)) (manifest_of me stream m) h;
}

announced-manifest : (me : Member) (stream : List ℕ) (m : ℕ) (out : Out) → Signs me stream out.state → HasManifest me stream m (announce_manifest me stream m out).state
announced-manifest me stream m out h = go (first_said (has_kind_and_round kinds.Manifest m) out.state) refl
  where
    d : Datagram
    d = manifest_of me stream m

    go : (o : Option Datagram) → first_said (has_kind_and_round kinds.Manifest m) out.state ≡ o → HasManifest me stream m (announce_by me out (2 * (m - 1)) (Manifest m (manifest_list me.session stream m)) o).state
    go (Some c) e =
        all-keep me stream (λ out. HasManifest me stream m out.state) (manifest-stays me stream m) out (served me.session out.state) c (served-all me.session out.state) (e ∙ ap Some (said-manifest me stream m out.state c h e))
    go None e =
        all-keep me stream (λ out. HasManifest me stream m out.state) (manifest-stays me stream m) (record out { state = Said d ∷ out.state }) (served me.session out.state) d (served-those me.session out.state d)
        (rw e (passes me stream m))

-- the first tick of a round announces its manifest
first-tick : (me : Member) (stream : List ℕ) (out : Out) → IsBroadcaster me → 1 ≤ round_now out.state → round_now out.state ≤ me.session.shape.rounds → slot_after (ticks out.state) ≡ 0 → Signs me stream out.state
    → HasManifest me stream (round_now out.state) (caster_tick me stream out).state
first-tick me stream out is low high slot h = subst (λ z. HasManifest me stream m z.state) (sym tick) (evictions-keep me stream (λ out. HasManifest me stream m out.state) (manifest-stays me stream m) is m (announce_manifest me stream m out) low high begun (announced-manifest me stream m out h))
  where
    m : ℕ
    m = round_now out.state

    begun : m ≤ round_now (announce_manifest me stream m out).state
    begun = (manifest-keeps me stream (λ out. (m ≤ round_now out.state) × Unit {0}) (kept-begun me stream (λ out. Unit {0}) m (record { sent = λ out to d s h. tt; said = λ out d may new h. tt })) is m out low high (omega arith) (omega arith, tt)).0

    tick : caster_tick me stream out ≡ announce_evictions me m (announce_manifest me stream m out)
    tick =
        cond-false (eqb (slot_after (ticks out.state)) 2) _ _ (ap (λ s. eqb s 2) slot)
        ∙ cond-false (not (nat_le m me.session.shape.rounds)) _ _ (not_from_true _ (le-leb m me.session.shape.rounds high))
        ∙ cond-true (eqb (slot_after (ticks out.state)) 0) _ _ (eq-eqb _ _ slot)

-- ---- one input

-- the log has grown, without a tick
abbrev Grows : Log → Log → Type 0
Grows log new = IsLater new log × (ticks new ≡ ticks log)

grows-kept : (me : Member) (stream : List ℕ) (log : Log) → IsKept me stream (λ out. Grows log out.state)
grows-kept me stream log = record {
  sent = λ out to d s h. h;
  said = λ out d may new h. (record { new = Said d ∷ h.0.new; split = ap (λ l. Said d ∷ l) h.0.split }, omega (arith, h.1));
}

record Announces (me : Member) (stream : List ℕ) (log : Log) : Type 0 where
  signs : Signs me stream log
  manifests : HasManifests me stream log

tick-announces : (me : Member) (stream : List ℕ) (log : Log) → IsBroadcaster me → Announces me stream log → Announces me stream (caster_tick me stream (begun (Ticked ∷ log))).state
tick-announces me stream log is h = record { signs = tick-keeps me stream (λ out. Signs me stream out.state) (signs-kept me stream) is out low ticked; manifests = manifests }
  where
    out : Out
    out = begun (Ticked ∷ log)

    low : 1 ≤ round_now (Ticked ∷ log)
    low = ticked-low log

    ticked : Signs me stream (Ticked ∷ log)
    ticked = signs-other me stream Ticked log (λ d e. cc) h.signs.new h.signs

    grown : Grows (Ticked ∷ log) (caster_tick me stream out).state
    grown = tick-keeps me stream (λ out. Grows (Ticked ∷ log) out.state) (grows-kept me stream (Ticked ∷ log)) is out low (record { new = []; split = refl }, refl)

    later : IsLater (caster_tick me stream out).state log
    later = later-entry (caster_tick me stream out).state log Ticked (record { after = grown.0.new; split = grown.0.split })

    manifests : HasManifests me stream (caster_tick me stream out).state
    manifests round one high now = go (cases_lt (round_now log) round)
      where
        go : (round_now log < round) ⊎ (round ≤ round_now log) → HasManifest me stream round (caster_tick me stream out).state
        go (inr old) = find-later _ (caster_tick me stream out).state log (manifest_of me stream round) later (h.manifests round one high old)
        go (inl new) =
            let this : round_now (Ticked ∷ log) ≡ round = omega (arith, new, now, grown.1) in
            let slot : slot_after (ticks (Ticked ∷ log)) ≡ 0 = omega (arith, new, this) in
            subst (λ r. HasManifest me stream r (caster_tick me stream out).state) this (first-tick me stream out is low (omega (arith, this, high)) slot ticked)

kept-announces : (me : Member) (stream : List ℕ) (log : Log) (q : ℕ) (evidence : List (List ℕ)) → Announces me stream log → Announces me stream (Kept q evidence ∷ log)
kept-announces me stream log q evidence h = record {
  signs = signs-other me stream (Kept q evidence) log (λ d e. cc) h.signs.new h.signs;
  manifests = λ round one high now. find-later _ (Kept q evidence ∷ log) log (manifest_of me stream round) (record { new = Kept q evidence ∷ []; split = refl }) (h.manifests round one high (omega (arith, now)));
}

step-announces : (me : Member) (stream : List ℕ) (log : Log) (i : Input) → IsBroadcaster me → Announces me stream log → Announces me stream (caster_step me stream log i).state
unfolding caster_step
step-announces me stream log i is h = go (nat_le (last_tick me.session) (ticks log)) i
  where
    go : (b : Bool) (i : Input) → Announces me stream (cond b (begun log) (caster_take me stream log i)).state
    go true i = h
    go false event.Tick = tick-announces me stream log is h
    go false (event.Datagram bytes) = judged-keeps (Announces me stream) me stream log _ h (λ q evidence. kept-announces me stream log q evidence h)

run-announces : (me : Member) (stream : List ℕ) (log : Log) (inputs : List Input) → IsBroadcaster me → Announces me stream log → Announces me stream (state_after (caster_step me stream) log inputs)
run-announces me stream log [] is h = h
run-announces me stream log (i ∷ inputs) is h = run-announces me stream (caster_step me stream log i).state inputs is (step-announces me stream log i is h)

-- ---- one message a leaf

new-rest : (x : Entry) (log : Log) → AreNew (x ∷ log) → AreNew log
new-rest Ticked log h = h
new-rest (Heard d) log h = h
new-rest (Said d) log h = h.1
new-rest (Kept q e) log h = h

new-at : (later before : Log) (d : Datagram) → AreNew (later ++ Said d ∷ before) → IsNew before d.message.body
new-at [] before d h = h.0
new-at (x ∷ later) before d h = new-at later before d (new-rest x (later ++ Said d ∷ before) h)

-- one message of each kind and round is said
not-again : (x : Entry) (log : Log) (d e : Datagram) → AreNew (x ∷ log) → x ≡ Said d → SaidIn log e → kind_of d.message.body ≡ kind_of e.message.body → round_of d.message.body ≡ round_of e.message.body → ⊥
not-again x log d e h is said kind round =
    let new : IsNew log d.message.body = (subst (λ y. AreNew (y ∷ log)) is h).0 in
    let same = and_from _ _ (eq-eqb (kind_number e.message.body) (kind_number d.message.body) (ap code_of (sym kind))) (eq-eqb (round_of e.message.body) (round_of d.message.body) (sym round)) in
    both_ways _ (ap is_some new) (said-found (has_kind_and_round (kind_of d.message.body) (round_of d.message.body)) log e (was-said log e said) same)

once : (log : Log) (d e : Datagram) → AreNew log → SaidIn log d → SaidIn log e → kind_of d.message.body ≡ kind_of e.message.body → round_of d.message.body ≡ round_of e.message.body → d ≡ e
once [] d e h p q kind round = absurd p
once (x ∷ log) d e h (inl p) (inl q) kind round = cc
once (x ∷ log) d e h (inl p) (inr q) kind round = absurd (not-again x log d e h p q kind round)
once (x ∷ log) d e h (inr p) (inl q) kind round = absurd (not-again x log e d h q p (sym kind) (sym round))
once (x ∷ log) d e h (inr p) (inr q) kind round = once log d e (new-rest x log h) p q kind round

-- a leaf determines the kind and the round
leaf-tells : (me : Member) (stream : List ℕ) (b c : Body) → IsAnnouncement me stream b → IsAnnouncement me stream c → 1 ≤ round_of b → 1 ≤ round_of c → caster_leaf b ≡ caster_leaf c → (kind_of b ≡ kind_of c) × (round_of b ≡ round_of c)
leaf-tells me stream (Manifest r ds) (Manifest q es) a b low below e = (refl, omega (arith, low, below, e))
leaf-tells me stream (Evict r ps) (Evict q qs) a b low below e = (refl, omega (arith, low, below, e))
leaf-tells me stream (Manifest r ds) (Evict q qs) a b low below e = absurd (omega (arith, low, below, e))
leaf-tells me stream (Evict r ps) (Manifest q es) a b low below e = absurd (omega (arith, low, below, e))
leaf-tells me stream (Manifest r ds) _ a b low below e = absurd b
leaf-tells me stream (Evict r ps) _ a b low below e = absurd b
leaf-tells me stream _ c a b low below e = absurd a

pub signs-once : SignsOnceARound
signs-once me stream is inputs = record {
  each = λ d c. at.signs.each d (said d c);
  manifests = at.manifests;
  new = λ later before d split. new-at later before d (subst (λ l. AreNew l) split at.signs.new);
  leaves = λ d e c k same.
      let one = at.signs.each d (said d c) in
      let two = at.signs.each e (said e k) in
      let tells = leaf-tells me stream d.message.body e.message.body one.announces two.announces one.low two.low same in
      once log d e at.signs.new (said d c) (said e k) tells.0 tells.1;
}
  where
    log : Log
    log = caster_log_after me stream inputs

    at : Announces me stream log
    at = run-announces me stream [] inputs is (record { signs = record { each = λ d s. absurd s; new = tt }; manifests = λ round one high now. absurd (omega (arith, one, now)) })

    said : (d : Datagram) → Contains log (Said d) → SaidIn log d
    said d c = said-in log d (was-said-in log d c)

-- What one input adds to the broadcaster's log, and what it sends.
use Rattle.bar_rules.specs.Broadcaster.Party.{IsBroadcaster}
use Rattle.bar_rules.specs.Broadcaster.Sending.{evicted, served, caster_message, caster_signed, send_all, announce_by, announce, announce_manifest, announce_evictions, repeat_all, repeat_manifest, repeats_manifest, send_block, send_blocks, caster_tick, evict_by, judge_body, judge_datagram, caster_take, caster_step}
use Rattle.bar_rules.specs.Broadcaster.Stream.{round_blocks, manifest_list, caster_table, is_in_fanout}
use Rattle.bar_wire.specs.Limits.{leaves_a_round}
use Rattle.bar_wire.specs.Bodies.{evidence_in}
use Rattle.bar_rules.specs.Runs.{begun, sending}
use Rattle.bar_rules.specs.Peer.Log.{kept, Entry, Heard, Log, Ticked, Said, Kept, first_said, has_kind_and_round, ticks, round_now}
use Rattle.bar_session.specs.Time.{last_tick}
use Rattle.bar_rules.specs.Member.{Session, Member}
use Rattle.bar_rules.specs.Peer.Run.{Out}
use Rattle.bar_rules.specs.Values.{datagram_of, is_signed_by, unsigned}
use Rattle.bar_rules.specs.Judge.Verdict.{Verdict, Shown, NotShown, Fault, verdict}
use Rattle.bar_window.specs.declared.update.UpdateId.{UpdateId}
use Rattle.bar_wire.specs.Datagram.{kind_of, Datagram, Message, Body, Manifest, Block, Evidence, Evict}
use Rattle.bar_wire.specs.Inputs.{Input}
use Rattle.bar_wire.specs.Inputs as event
use Rattle.bar_wire.specs.declared.kind.Kind.TheVariants as kinds
use Rattle.std.proofs.Common.{◌≡◌, ℕ, Bool, true, false, List, [], ◌∷◌, ◌+◌, ◌-◌, ◌*◌, ◌<◌, ◌≤◌, not, length, arith, refl, sym, ap, subst, inl, inr}
use Rattle.std.specs.Prelude.{Option, Some, None, is_some, cond, nat_le, nat_lt, filter}
use Rattle.bar_laws.proofs.Logs.{first_said-was, SaidIn, said-in, all-of, all-kept, all-map}
use Rattle.bar_laws.proofs.Runs.{Adds, SentBy, adds-send, sent-said, came, ticked-low}
use Rattle.bar_laws.proofs.Fitting.SignedAccepted.{signed-accepted}
use Rattle.bar_lms.specs.Schemes.{leaves_by}
use Rattle.bar_laws.proofs.Fitting.CasterFits.{manifest-fits, evict-fits, block-fits, served-are-peers, blocks-are-whole, blocks-are-few}
use Rattle.bar_session.specs.Sessions.{IsSession}
use Rattle.bar_wire.specs.Grammar.{IsDatagram}
use Rattle.std.specs.List.{AllByRecursion}
use Rattle.std.proofs.lemmas.Bool.{leb-true, ltb-true}
use Rattle.bar_wire.proofs.Lists.{AllByRecursion-push}

-- a body that a party signs: no evidence, and a manifest only if it is the stream's
abbrev pub IsOwnBody : Session → List ℕ → Body → Type 0
IsOwnBody s stream (Manifest r ds) = ds ≡ manifest_list s stream r
IsOwnBody s stream (Evidence ds) = ⊥
IsOwnBody s stream _ = Unit {0}

pub own-inside : (s : Session) (stream : List ℕ) (b : Body) → IsOwnBody s stream b → evidence_in b ≡ []
own-inside s stream (Evidence ds) h = absurd h
own-inside s stream _ h = refl

-- a manifest is of a round that has begun
abbrev pub IsOfBegunRound : Log → Body → Type 0
IsOfBegunRound log (Manifest r ds) = r ≤ round_now log
IsOfBegunRound log _ = Unit {0}

-- what a party signs is from the party, and in the grammar
pub record IsOwnMessage (s : Session) (stream : List ℕ) (party : ℕ) (d : Datagram) : Type 0 where
  pub from : d.message.from ≡ party
  pub body : IsOwnBody s stream d.message.body
  pub fits : IsDatagram s.shape d
  pub accepted : is_signed_by s d ≡ true

-- the broadcaster's own messages
abbrev pub AreOwn : Session → List ℕ → Log → Type 0
AreOwn s stream log = (d : Datagram) → SaidIn log d → IsOwnMessage s stream 0 d × IsOfBegunRound log d.message.body

-- each piece of evidence that is kept was shown under the table at that moment
abbrev pub IsFair : Member → List ℕ → Log → Type 0
IsFair me stream [] = Unit {0}
IsFair me stream (Kept q ev ∷ log) = ((f : Fault) × (verdict me.session (caster_table me stream log) ev ≡ Shown q f)) × IsFair me stream log
IsFair me stream (Ticked ∷ log) = IsFair me stream log
IsFair me stream (Heard d ∷ log) = IsFair me stream log
IsFair me stream (Said d ∷ log) = IsFair me stream log

abbrev pub AllFit : Session → List (ℕ × Datagram) → Type 0
AllFit s sends = AllByRecursion (λ (send : ℕ × Datagram). IsDatagram s.shape send.1) sends

pub record Casts (me : Member) (stream : List ℕ) (log : Log) (o : Option Datagram) (out : Out) : Type 0 where
  pub adds : Adds me log o out
  pub own : AreOwn me.session stream out.state
  pub fair : IsFair me stream out.state
  pub fits : AllFit me.session out.sends

-- a round that has begun has begun ever after
round-grows : (x : Entry) (log : Log) → round_now log ≤ round_now (x ∷ log)
round-grows Ticked log = omega arith
round-grows (Heard d) log = omega arith
round-grows (Said d) log = omega arith
round-grows (Kept q e) log = omega arith

begun-grows : (x : Entry) (log : Log) (b : Body) → IsOfBegunRound log b → IsOfBegunRound (x ∷ log) b
begun-grows x log (Manifest r ds) h = let g : round_now log ≤ round_now (x ∷ log) = round-grows x log in omega (arith, h, g)
begun-grows x log _ h = tt

own-grows : (s : Session) (stream : List ℕ) (x : Entry) (log : Log) → ((d : Datagram) → x ≡ Said d → ⊥) → AreOwn s stream log → AreOwn s stream (x ∷ log)
own-grows s stream x log none own d (inl h) = absurd (none d h)
own-grows s stream x log none own d (inr h) = let o = own d h in (o.0, begun-grows x log d.message.body o.1)

casts-send : (me : Member) (stream : List ℕ) (log : Log) (o : Option Datagram) (out : Out) (to : ℕ) (d : Datagram) → Casts me stream log o out → SentBy me out.state (to, d) → IsDatagram me.session.shape d → Casts me stream log o (sending out to d)
casts-send me stream log o out to d a s fits =
    record { adds = adds-send me log o out to d a.adds s; own = a.own; fair = a.fair; fits = AllByRecursion-push (λ (send : ℕ × Datagram). IsDatagram me.session.shape send.1) out.sends (to, d) a.fits fits }

casts-all : (me : Member) (stream : List ℕ) (log : Log) (o : Option Datagram) (ps : List ℕ) (out : Out) (d : Datagram) → Casts me stream log o out → SaidIn out.state d → Casts me stream log o (send_all out ps d)
casts-all me stream log o [] out d a s = a
casts-all me stream log o (p ∷ ps) out d a s = casts-all me stream log o ps (sending out p d) d (casts-send me stream log o out p d a (inl s) (a.own d s).0.fits) s

casts-announce : (me : Member) (stream : List ℕ) (log : Log) (o : Option Datagram) (out : Out) (leaf round : ℕ) (body : Body) → IsOwnBody me.session stream body → IsOfBegunRound out.state body → IsDatagram me.session.shape (caster_signed me leaf body) → is_signed_by me.session (caster_signed me leaf body) ≡ true
    → Casts me stream log o out → Casts me stream log o (announce me out leaf round body)
casts-announce me stream log o out leaf round body plain begun fits accepted a = go (first_said (has_kind_and_round (kind_of body) round) out.state) refl
  where
    d : Datagram
    d = caster_signed me leaf body

    said : Out
    said = record out { state = Said d ∷ out.state }

    own : AreOwn me.session stream (Said d ∷ out.state)
    own e (inl h) =
        let same : d ≡ e = cc in
        subst (λ z. IsOwnMessage me.session stream 0 z × IsOfBegunRound (Said d ∷ out.state) z.message.body) same
        (record { from = refl; body = plain; fits = fits; accepted = accepted }, begun-grows (Said d) out.state body begun)
    own e (inr h) = let o = a.own e h in (o.0, begun-grows (Said d) out.state e.message.body o.1)

    grown : Casts me stream log o said
    grown = record {
      adds = record {
        new = Said d ∷ a.adds.new;
        split = ap (λ l. Said d ∷ l) a.adds.split;
        added = (tt, a.adds.added);
        sent = all-map (SentBy me out.state) (SentBy me (Said d ∷ out.state)) out.sends (sent-said me out.state d) a.adds.sent;
      };
      own = own;
      fair = a.fair;
      fits = a.fits;
    }

    go : (q : Option Datagram) → first_said (has_kind_and_round (kind_of body) round) out.state ≡ q → Casts me stream log o (announce_by me out leaf body q)
    go (Some c) e = casts-all me stream log o (served me.session out.state) out c a (said-in out.state c (first_said-was (has_kind_and_round (kind_of body) round) out.state c e).0)
    go None e = casts-all me stream log o (served me.session out.state) said d grown (inl refl)

-- a manifest that was said is sent again
casts-repeat : (me : Member) (stream : List ℕ) (log : Log) (o : Option Datagram) (out : Out) (round : ℕ) → Casts me stream log o out → Casts me stream log o (repeat_manifest me.session round out)
casts-repeat me stream log o out round a = go (first_said test out.state) refl
  where
    test : Message → Bool
    test = has_kind_and_round kinds.Manifest round

    go : (q : Option Datagram) → first_said test out.state ≡ q → Casts me stream log o (repeat_all me.session out q)
    go None e = a
    go (Some d) e = casts-all me stream log o (served me.session out.state) out d a (said-in out.state d (first_said-was test out.state d e).0)

abbrev IsPeerOf : Session → ℕ → Type 0
IsPeerOf s p = (1 ≤ p) × (p ≤ s.shape.peers)

casts-block : (me : Member) (stream : List ℕ) (log : Log) (o : Option Datagram) (ps : List ℕ) (out : Out) (u : UpdateId) (block : List ℕ) → me.party ≡ 0
    → ((p : ℕ) → IsPeerOf me.session p → IsDatagram me.session.shape (unsigned (record { from = 0; to = p; body = Block u block }))) → AllByRecursion (IsPeerOf me.session) ps
    → Casts me stream log o out → Casts me stream log o (send_block out ps u block)
casts-block me stream log o [] out u block z fits peers a = a
casts-block me stream log o (p ∷ ps) out u block z fits peers a =
    casts-block me stream log o ps (sending out p (unsigned (record { from = 0; to = p; body = Block u block }))) u block z fits peers.1
    (casts-send me stream log o out p (unsigned (record { from = 0; to = p; body = Block u block })) a (inr (sym z, record { unsigned_kind = refl; evidence = inl refl })) (fits p peers.0))

casts-blocks : (me : Member) (stream : List ℕ) (log : Log) (o : Option Datagram) (m i : ℕ) (blocks : List (List ℕ)) (out : Out) → me.party ≡ 0
    → IsSession me.session → 1 ≤ m → m ≤ me.session.shape.rounds → i + length blocks ≤ me.session.shape.per_round → AllByRecursion (λ (block : List ℕ). length block ≡ 1024) blocks
    → Casts me stream log o out → Casts me stream log o (send_blocks me m i blocks out)
casts-blocks me stream log o m i [] out z s low high few whole a = a
casts-blocks me stream log o m i (b ∷ blocks) out z s low high few whole a =
    casts-blocks me stream log o m (i + 1) blocks _ z s low high (omega (arith, few)) whole.1
    (casts-block me stream log o (filter (is_in_fanout me (record { round = m; index = i })) (served me.session out.state)) out (record { round = m; index = i }) b z
    (λ p peer. block-fits me.session (record { round = m; index = i }) b p s low high (omega (arith, few)) whole.0 peer.0 peer.1)
    (all-kept (IsPeerOf me.session) (is_in_fanout me (record { round = m; index = i })) (served me.session out.state) (all-of (IsPeerOf me.session) (served me.session out.state) (served-are-peers me.session out.state))) a)

pub caster-accepted : (me : Member) (leaf : ℕ) (body : Body) → IsBroadcaster me → leaf < leaves_by me.session.top me.session.params → is_signed_by me.session (caster_signed me leaf body) ≡ true
caster-accepted me leaf body is below = signed-accepted me.session 0 me.secret leaf (caster_message body) is.fits refl below

casts-tick : (me : Member) (stream : List ℕ) (log : Log) (o : Option Datagram) (out : Out) → IsBroadcaster me → 1 ≤ round_now out.state → Casts me stream log o out → Casts me stream log o (caster_tick me stream out)
casts-tick me stream log o out is low a = go _ (not (nat_le m me.session.shape.rounds)) refl _ _ _
  where
    m : ℕ
    m = round_now out.state

    below : m ≤ me.session.shape.rounds → 2 * (m - 1) < leaves_by me.session.top me.session.params
    below high = let few : leaves_a_round * me.session.shape.rounds ≤ leaves_by me.session.top me.session.params = is.session.leaves in omega (arith, few, low, high)

    above : m ≤ me.session.shape.rounds → 2 * (m - 1) + 1 < leaves_by me.session.top me.session.params
    above high = let few : leaves_a_round * me.session.shape.rounds ≤ leaves_by me.session.top me.session.params = is.session.leaves in omega (arith, few, low, high)

    manifest : m ≤ me.session.shape.rounds → Casts me stream log o (announce_manifest me stream m out)
    manifest high = casts-announce me stream log o out (2 * (m - 1)) m (Manifest m (manifest_list me.session stream m)) refl (omega arith) (manifest-fits me stream m is.session low high) (caster-accepted me (2 * (m - 1)) (Manifest m (manifest_list me.session stream m)) is (below high)) a

    evictions : m ≤ me.session.shape.rounds → (out : Out) → Casts me stream log o out → (b : Bool) → nat_lt 0 (length (evicted me.session out.state)) ≡ b
        → Casts me stream log o (cond b (announce me out (2 * (m - 1) + 1) m (Evict m (evicted me.session out.state))) out)
    evictions high out a true some =
        casts-announce me stream log o out (2 * (m - 1) + 1) m (Evict m (evicted me.session out.state)) tt tt (evict-fits me out.state m is.session low high (ltb-true 0 (length (evicted me.session out.state)) some))
        (caster-accepted me (2 * (m - 1) + 1) (Evict m (evicted me.session out.state)) is (above high)) a
    evictions high out a false some = a

    within : not (nat_le m me.session.shape.rounds) ≡ false → m ≤ me.session.shape.rounds
    within e = leb-true m me.session.shape.rounds (not-false _ e)
      where
        not-false : (b : Bool) → not b ≡ false → b ≡ true
        not-false true e = refl
        not-false false e = cc

    few-blocks : not (nat_le m me.session.shape.rounds) ≡ false → 0 + length (round_blocks me.session stream m) ≤ me.session.shape.per_round
    few-blocks e = let few : length (round_blocks me.session stream m) ≤ me.session.shape.per_round = blocks-are-few me.session stream m in omega (arith, few)

    again : (b : Bool) → Casts me stream log o (cond b (repeat_manifest me.session (m - 1) out) out)
    again true = casts-repeat me stream log o out (m - 1) a
    again false = a

    go : (s p : Bool) → not (nat_le m me.session.shape.rounds) ≡ p → (q r t : Bool)
        → Casts me stream log o (cond s (cond (repeats_manifest me.session m) (repeat_manifest me.session (m - 1) out) out)
        (cond p out (cond q (announce_evictions me m (announce_manifest me stream m out)) (cond r (announce_manifest me stream m out) (cond t (send_blocks me m 0 (round_blocks me.session stream m) out) out)))))
    go true p e q r t = again (repeats_manifest me.session m)
    go false true e q r t = a
    go false false e true r t = evictions (within e) (announce_manifest me stream m out) (manifest (within e)) _ refl
    go false false e false true t = manifest (within e)
    go false false e false false true =
        casts-blocks me stream log o m 0 (round_blocks me.session stream m) out is.party is.session low (within e) (few-blocks e)
        (all-of (λ (block : List ℕ). length block ≡ 1024) (round_blocks me.session stream m) (blocks-are-whole me.session stream m)) a
    go false false e false false false = a

casts-begun : (me : Member) (stream : List ℕ) (log : Log) (o : Option Datagram) → AreOwn me.session stream log → IsFair me stream log → Casts me stream log o (begun log)
casts-begun me stream log o own fair = record { adds = record { new = []; split = refl; added = tt; sent = tt }; own = own; fair = fair; fits = tt }

casts-evict : (me : Member) (stream : List ℕ) (log : Log) (d : Datagram) (ev : List (List ℕ)) (v : Verdict) → verdict me.session (caster_table me stream log) ev ≡ v → evidence_in d.message.body ≡ ev → AreOwn me.session stream log → IsFair me stream log → Casts me stream log (Some d) (begun (evict_by log ev v))
casts-evict me stream log d ev (NotShown why) r e own fair = casts-begun me stream log (Some d) own fair
casts-evict me stream log d ev (Shown party fault) r e own fair = go (is_some (kept log party))
  where
    own' : AreOwn me.session stream (Kept party ev ∷ log)
    own' = own-grows me.session stream (Kept party ev) log (λ d e. cc) own

    go : (b : Bool) → Casts me stream log (Some d) (begun (cond b log (Kept party ev ∷ log)))
    go true = casts-begun me stream log (Some d) own fair
    go false = record { adds = record { new = Kept party ev ∷ []; split = refl; added = (inr (d, refl, e), tt); sent = tt }; own = own'; fair = ((fault, r), fair); fits = tt }

casts-judge : (me : Member) (stream : List ℕ) (log : Log) (d : Datagram) (b : Body) → d.message.body ≡ b → AreOwn me.session stream log → IsFair me stream log → Casts me stream log (Some d) (begun (judge_body me stream log b))
casts-judge me stream log d (Evidence ev) e own fair = casts-evict me stream log d ev (verdict me.session (caster_table me stream log) ev) refl (ap evidence_in e) own fair
casts-judge me stream log d _ e own fair = casts-begun me stream log (Some d) own fair

-- the broadcaster's step
pub caster-casts : (me : Member) (stream : List ℕ) (log : Log) (i : Input) → IsBroadcaster me → AreOwn me.session stream log → IsFair me stream log → Casts me stream log (came me i) (caster_step me stream log i)
unfolding caster_step
caster-casts me stream log i is own fair = go (nat_le (last_tick me.session) (ticks log)) i
  where
    ticked : AreOwn me.session stream (Ticked ∷ log)
    ticked = own-grows me.session stream Ticked log (λ d e. cc) own

    datagram : (o : Option Datagram) → Casts me stream log o (begun (judge_datagram me stream log o))
    datagram None = casts-begun me stream log None own fair
    datagram (Some d) = casts-judge me stream log d d.message.body refl own fair

    go : (b : Bool) (i : Input) → Casts me stream log (came me i) (cond b (begun log) (caster_take me stream log i))
    go true i = casts-begun me stream log (came me i) own fair
    go false event.Tick = casts-tick me stream log None (begun (Ticked ∷ log)) is (ticked-low log) (record { adds = record { new = Ticked ∷ []; split = refl; added = (tt, tt); sent = tt }; own = ticked; fair = fair; fits = tt })
    go false (event.Datagram bytes) = datagram (datagram_of me.session bytes)

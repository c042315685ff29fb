-- The broadcaster evicts exactly the parties against which evidence arrived in time, and keeps the first evidence against each.
use Rattle.bar_laws.specs.Broadcasting.{EvictsExactly, WasShown, WasShownFirst}
use Rattle.bar_rules.specs.Broadcaster.Party.{IsBroadcaster}
use Rattle.bar_rules.specs.Broadcaster.Sending.{caster_log_after, caster_step, caster_take, evict_by, evicted, judge_body, judge_datagram}
use Rattle.bar_rules.specs.Broadcaster.Stream.{caster_table, peers_of}
use Rattle.bar_rules.specs.Judge.Verdict.{Fault, NotShown, Shown, Verdict, all_read, are_of_one_peer, fault_of, sender_of, verdict}
use Rattle.bar_session.specs.Time.{last_tick}
use Rattle.bar_rules.specs.Member.{Member, Session}
use Rattle.bar_rules.specs.Peer.Log.{Kept, Log, kept, kept_in, ticks}
use Rattle.bar_rules.specs.Runs.{Outcome, begun, state_after}
use Rattle.bar_rules.specs.Values.{datagram_of}
use Rattle.bar_terms.specs.Table.{Table}
use Rattle.bar_wire.specs.Datagram.{Body, Datagram, Evidence}
use Rattle.bar_wire.specs.Grammar.{IsPeer}
use Rattle.bar_wire.specs.Inputs.{Input}
use Rattle.bar_wire.specs.Inputs as event
use Rattle.std.proofs.Common.{◌≡◌, ℕ, Bool, true, false, List, [], ◌∷◌, ◌++◌, ◌<◌, arith, eqb, refl, sym, ap, subst, ◌∙◌, inl, inr}
use Rattle.std.specs.Prelude.{Option, Some, None, ◌⊎◌, Contains, cond, is_some, nat_le, option_and_then, option_map, unwrap_or}
use Rattle.std.specs.Bool.{then_some}
use Rattle.std.proofs.lemmas.Bool.{and_parts, cond-false, eqb-true, leb-false, lt-leb}
use Rattle.std.proofs.lemmas.List.{map-id}
use Rattle.std.proofs.lemmas.List.Elements.{All-contains, filter_passes}
use Rattle.bar_window.proofs.Ranges.{image_is_in}
use Rattle.bar_wire.proofs.Signed.{peer_kind_sends}
use Rattle.bar_rules.proofs.LongerRuns.{state_after_both}
use Rattle.bar_laws.proofs.Logs.{no-value, option_or-cases, option_or-some, read-fits, some-equal, some-is}
use Rattle.bar_laws.proofs.Worlds.{IsShown, shown-is}
use Rattle.bar_laws.proofs.Broadcasts.Serving.{tick-serves}
use Rattle.bar_laws.proofs.Broadcasts.Steps.{judged-keeps}
use Rattle.bar_bytes.proofs.Tests.{eqb_refl}

-- ---- whom evidence is shown against

first-read : (s : Session) (bs : List (List ℕ)) (d : Datagram) (ds : List Datagram) → all_read s bs ≡ Some (d ∷ ds) → (b : List ℕ) × (datagram_of s b ≡ Some d)
first-read s [] d ds e = cc
first-read s (b ∷ bs) d ds e = go (datagram_of s b) (all_read s bs) refl e
  where
    go : (o : Option Datagram) (p : Option (List Datagram)) → datagram_of s b ≡ o → option_and_then (λ c. option_map (λ cs. c ∷ cs) p) o ≡ Some (d ∷ ds) → (b : List ℕ) × (datagram_of s b ≡ Some d)
    go None p f e = cc
    go (Some c) None f e = cc
    go (Some c) (Some cs) f e = let same : c ≡ d = cc in (b, f ∙ ap Some same)

sender-peer : (s : Session) (t : Table) (evidence : List (List ℕ)) (ds : List Datagram) (fault : Fault) → all_read s evidence ≡ Some ds → are_of_one_peer ds ≡ true → fault_of s t ds ≡ Some fault → IsPeer s.shape (sender_of ds)
sender-peer s t evidence [] fault read peer found = cc
sender-peer s t evidence (d ∷ ds) fault read peer found =
    let r = first-read s evidence d ds read in
    peer_kind_sends s.shape d.message.body d.message.from d.message.to (and_parts _ _ (and_parts _ _ peer).0).0 (read-fits s r.0 d r.1).may_send

-- evidence is shown against a peer
shown-peer : (s : Session) (t : Table) (evidence : List (List ℕ)) (party : ℕ) (fault : Fault) → verdict s t evidence ≡ Shown party fault → IsPeer s.shape party
shown-peer s t evidence party fault e =
    let w : IsShown s t evidence party fault = shown-is s t evidence party fault e in
    subst (IsPeer s.shape) w.sender (sender-peer s t evidence w.datagrams fault w.read w.peer w.fault)

-- ---- one input

-- An input's bytes show evidence against a party, in time.
record IsShowing (me : Member) (stream : List ℕ) (log : Log) (bytes : List ℕ) (party : ℕ) (evidence : List (List ℕ)) : Type 0 where
  in_time : ticks log < last_tick me.session
  datagram : Datagram
  read : datagram_of me.session bytes ≡ Some datagram
  body : datagram.message.body ≡ Evidence evidence
  fault : Fault
  shown : verdict me.session (caster_table me stream log) evidence ≡ Shown party fault

-- such evidence is kept, unless some was kept before
showing-kept : (me : Member) (stream : List ℕ) (log : Log) (bytes : List ℕ) (q : ℕ) (evidence : List (List ℕ)) → IsShowing me stream log bytes q evidence
    → kept (caster_step me stream log (event.Datagram bytes)).state q ≡ Some (unwrap_or (kept log q) evidence)
unfolding caster_step
showing-kept me stream log bytes q evidence w = ap (λ l. kept l q) state ∙ go (kept log q) refl
  where
    state : (cond (nat_le (last_tick me.session) (ticks log)) (begun log) (caster_take me stream log (event.Datagram bytes))).state ≡ evict_by log evidence (Shown q w.fault)
    state =
        ap (λ (out : Outcome Log). out.state) (cond-false (nat_le (last_tick me.session) (ticks log)) (begun log) (caster_take me stream log (event.Datagram bytes)) (lt-leb (last_tick me.session) (ticks log) w.in_time))
        ∙ ap (judge_datagram me stream log) w.read ∙ ap (judge_body me stream log) w.body ∙ ap (evict_by log evidence) w.shown

    go : (o : Option (List (List ℕ))) → kept log q ≡ o → kept (cond (is_some o) log (Kept q evidence ∷ log)) q ≡ Some (unwrap_or o evidence)
    go (Some f) e = e
    go None e = rw (e, eqb_refl q) refl

-- evidence that is kept remains kept
step-keeps : (me : Member) (stream : List ℕ) (log : Log) (i : Input) (q : ℕ) (evidence : List (List ℕ)) → IsBroadcaster me → kept log q ≡ Some evidence → kept (caster_step me stream log i).state q ≡ Some evidence
unfolding caster_step
step-keeps me stream log i q evidence is h = go (nat_le (last_tick me.session) (ticks log)) i
  where
    go : (b : Bool) (i : Input) → kept (cond b (begun log) (caster_take me stream log i)).state q ≡ Some evidence
    go true i = h
    go false event.Tick = (tick-serves me stream log is).0 q ∙ h
    go false (event.Datagram bytes) = judged-keeps (λ l. kept l q ≡ Some evidence) me stream log _ h (λ p other. option_or-some (kept log q) (kept_in q (Kept p other)) evidence h)

-- evidence that is newly kept was shown
newly-kept : (me : Member) (stream : List ℕ) (log : Log) (i : Input) (q : ℕ) (evidence : List (List ℕ)) → IsBroadcaster me → kept log q ≡ None → kept (caster_step me stream log i).state q ≡ Some evidence
    → (bytes : List ℕ) × (i ≡ event.Datagram bytes) × IsShowing me stream log bytes q evidence
unfolding caster_step
newly-kept me stream log i q evidence is none e = go (nat_le (last_tick me.session) (ticks log)) refl i e
  where
    no : kept log q ≡ Some evidence → ⊥
    no e = no-value (kept log q) evidence (ap is_some none) e

    new : (bytes : List ℕ) (d : Datagram) (other : List (List ℕ)) (party : ℕ) (fault : Fault) → ticks log < last_tick me.session → datagram_of me.session bytes ≡ Some d → d.message.body ≡ Evidence other
        → verdict me.session (caster_table me stream log) other ≡ Shown party fault → (b : Bool) → kept (cond b log (Kept party other ∷ log)) q ≡ Some evidence → IsShowing me stream log bytes q evidence
    new bytes d other party fault time read body shown true e = absurd (no e)
    new bytes d other party fault time read body shown false e = pick (option_or-cases (kept log q) (kept_in q (Kept party other)) evidence e)
      where
        passed : (b : Bool) → eqb party q ≡ b → then_some b other ≡ Some evidence → IsShowing me stream log bytes q evidence
        passed false f e = cc
        passed true f e =
            let same : other ≡ evidence = some-equal other evidence e in
            record { in_time = time; datagram = d; read = read; body = body ∙ ap Evidence same; fault = fault; shown = rw (← same) (shown ∙ ap (λ p. Shown p fault) (eqb-true party q f)) }

        pick : (kept log q ≡ Some evidence) ⊎ ((kept log q ≡ None) × (then_some (eqb party q) other ≡ Some evidence)) → IsShowing me stream log bytes q evidence
        pick (inl e) = absurd (no e)
        pick (inr e) = passed (eqb party q) refl e.1

    judged : (bytes : List ℕ) (d : Datagram) (other : List (List ℕ)) (v : Verdict) → ticks log < last_tick me.session → datagram_of me.session bytes ≡ Some d → d.message.body ≡ Evidence other
        → verdict me.session (caster_table me stream log) other ≡ v → kept (evict_by log other v) q ≡ Some evidence → IsShowing me stream log bytes q evidence
    judged bytes d other (NotShown why) time read body shown e = absurd (no e)
    judged bytes d other (Shown party fault) time read body shown e = new bytes d other party fault time read body shown (is_some (kept log party)) e

    body : (bytes : List ℕ) (d : Datagram) (b : Body) → ticks log < last_tick me.session → datagram_of me.session bytes ≡ Some d → d.message.body ≡ b → kept (judge_body me stream log b) q ≡ Some evidence → IsShowing me stream log bytes q evidence
    body bytes d (Evidence other) time read is e = judged bytes d other (verdict me.session (caster_table me stream log) other) time read is refl e
    body bytes d _ time read is e = absurd (no e)

    datagram : (bytes : List ℕ) (o : Option Datagram) → ticks log < last_tick me.session → datagram_of me.session bytes ≡ o → kept (judge_datagram me stream log o) q ≡ Some evidence → IsShowing me stream log bytes q evidence
    datagram bytes None time read e = absurd (no e)
    datagram bytes (Some d) time read e = body bytes d d.message.body time read refl e

    go : (b : Bool) → nat_le (last_tick me.session) (ticks log) ≡ b → (i : Input) → kept (cond b (begun log) (caster_take me stream log i)).state q ≡ Some evidence
        → (bytes : List ℕ) × (i ≡ event.Datagram bytes) × IsShowing me stream log bytes q evidence
    go true f i e = absurd (no e)
    go false f event.Tick e = absurd (no (sym ((tick-serves me stream log is).0 q) ∙ e))
    go false f (event.Datagram bytes) e = (bytes, refl, datagram bytes (datagram_of me.session bytes) (leb-false (last_tick me.session) (ticks log) f) refl e)

-- ---- a run

run-keeps : (me : Member) (stream : List ℕ) (log : Log) (inputs : List Input) (q : ℕ) (evidence : List (List ℕ)) → IsBroadcaster me → kept log q ≡ Some evidence → kept (state_after (caster_step me stream) log inputs) q ≡ Some evidence
run-keeps me stream log [] q evidence is h = h
run-keeps me stream log (i ∷ inputs) q evidence is h = run-keeps me stream (caster_step me stream log i).state inputs q evidence is (step-keeps me stream log i q evidence is h)

-- The input of a run, from a log on, that first shows evidence against a party.
record IsFirst (me : Member) (stream : List ℕ) (log : Log) (inputs : List Input) (party : ℕ) (evidence : List (List ℕ)) : Type 0 where
  before : List Input
  bytes : List ℕ
  later : List Input
  split : inputs ≡ before ++ event.Datagram bytes ∷ later
  showing : IsShowing me stream (state_after (caster_step me stream) log before) bytes party evidence
  none : kept (state_after (caster_step me stream) log before) party ≡ None

first-shown : (me : Member) (stream : List ℕ) (log : Log) (inputs : List Input) (q : ℕ) (evidence : List (List ℕ)) → IsBroadcaster me → kept log q ≡ None → kept (state_after (caster_step me stream) log inputs) q ≡ Some evidence
    → IsFirst me stream log inputs q evidence
first-shown me stream log [] q evidence is none e = absurd (no-value (kept log q) evidence (ap is_some none) e)
first-shown me stream log (i ∷ inputs) q evidence is none e = go (kept next q) refl (λ g. first-shown me stream next inputs q evidence is g e)
  where
    next : Log
    next = (caster_step me stream log i).state

    go : (o : Option (List (List ℕ))) → kept next q ≡ o → (kept next q ≡ None → IsFirst me stream next inputs q evidence) → IsFirst me stream log (i ∷ inputs) q evidence
    go None g more =
        let w = more g in
        record { before = i ∷ w.before; bytes = w.bytes; later = w.later; split = ap (λ l. i ∷ l) w.split; showing = w.showing; none = w.none }
    go (Some other) g more =
        let same : other ≡ evidence = some-equal other evidence (sym (run-keeps me stream next inputs q other is g) ∙ e) in
        let n = newly-kept me stream log i q evidence is none (g ∙ ap Some same) in
        record { before = []; bytes = n.0; later = inputs; split = ap (λ j. j ∷ inputs) n.1; showing = n.2; none = none }

-- ---- the law

-- evidence that was shown is kept, unless some was kept before, which remains
shown-kept : (me : Member) (stream : List ℕ) (inputs : List Input) (q : ℕ) (evidence : List (List ℕ)) → IsBroadcaster me → (w : WasShown me stream inputs q evidence)
    → kept (caster_log_after me stream inputs) q ≡ Some (unwrap_or (kept (caster_log_after me stream w.before) q) evidence)
shown-kept me stream inputs q evidence is w =
    let log : Log = caster_log_after me stream w.before in
    ap (λ l. kept l q) (ap (caster_log_after me stream) w.split ∙ state_after_both (caster_step me stream) [] w.before (event.Datagram w.bytes ∷ w.later))
    ∙ run-keeps me stream (caster_step me stream log (event.Datagram w.bytes)).state w.later q (unwrap_or (kept log q) evidence) is
    (showing-kept me stream log w.bytes q evidence (record { in_time = w.in_time; datagram = w.datagram; read = w.read; body = w.body; fault = w.fault; shown = w.shown }))

was-first : (me : Member) (stream : List ℕ) (inputs : List Input) (q : ℕ) (evidence : List (List ℕ)) → IsBroadcaster me → IsFirst me stream [] inputs q evidence → WasShownFirst me stream inputs q evidence
was-first me stream inputs q evidence is w = record {
  shown = record {
    before = w.before;
    bytes = w.bytes;
    later = w.later;
    split = w.split;
    in_time = w.showing.in_time;
    datagram = w.showing.datagram;
    read = w.showing.read;
    body = w.showing.body;
    fault = w.showing.fault;
    shown = w.showing.shown;
  };
  none_before = λ other s. no-value (kept (caster_log_after me stream w.before) q) _ (ap is_some w.none) (shown-kept me stream w.before q other is s);
}

kept-first : (me : Member) (stream : List ℕ) (inputs : List Input) (q : ℕ) (evidence : List (List ℕ)) → IsBroadcaster me → kept (caster_log_after me stream inputs) q ≡ Some evidence → WasShownFirst me stream inputs q evidence
kept-first me stream inputs q evidence is e = was-first me stream inputs q evidence is (first-shown me stream [] inputs q evidence is refl e)

first-kept : (me : Member) (stream : List ℕ) (inputs : List Input) (q : ℕ) (evidence : List (List ℕ)) → IsBroadcaster me → WasShownFirst me stream inputs q evidence → kept (caster_log_after me stream inputs) q ≡ Some evidence
first-kept me stream inputs q evidence is f = shown-kept me stream inputs q evidence is f.shown ∙ go (kept (caster_log_after me stream f.shown.before) q) refl
  where
    go : (o : Option (List (List ℕ))) → kept (caster_log_after me stream f.shown.before) q ≡ o → ◌≡◌ {A = Option (List (List ℕ))} (Some (unwrap_or o evidence)) (Some evidence)
    go None e = refl
    go (Some other) e = absurd (f.none_before other (kept-first me stream f.shown.before q other is e).shown)

evicted-has : (s : Session) (log : Log) (q : ℕ) → IsPeer s.shape q → is_some (kept log q) ≡ true → Contains (evicted s log) q
evicted-has s log q peer some = subst (λ qs. Contains qs q) (map-id (evicted s log)) (image_is_in (λ p. is_some (kept log p)) (λ p. p) 1 s.shape.peers q (record { place = q; low = omega (arith, peer.0); high = omega (arith, peer.1); passes = some; is = refl }))

pub evicts-exactly : EvictsExactly
evicts-exactly me stream is inputs = record {
  evicted_was_shown = λ party has.
      let some = All-contains (λ q. is_some (kept log q) ≡ true) (evicted me.session log) party (filter_passes (λ q. is_some (kept log q)) (peers_of me.session)) has in
      let k = some-is (kept log party) some in
      (k.0, (kept-first me stream inputs party k.0 is k.1).shown);
  shown_is_evicted = λ party evidence w.
      evicted-has me.session log party (shown-peer me.session (caster_table me stream (caster_log_after me stream w.before)) evidence party w.fault w.shown) (ap is_some (shown-kept me stream inputs party evidence is w));
  first_is_kept = λ party evidence w. first-kept me stream inputs party evidence is w;
  kept_is_first = λ party evidence e. kept-first me stream inputs party evidence is e;
}
  where
    log : Log
    log = caster_log_after me stream inputs

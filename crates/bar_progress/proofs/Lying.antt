-- A peer asks another peer than its partner, and is denounced for it.
use Rattle.std.proofs.Common.{◌≡◌, ◌≢◌, ◌∙◌, ℕ, ◌*◌, ◌<◌, ◌≤◌, Bool, true, false, ◌&&◌, not, List, [], ◌∷◌, replicate, refl, sym, ap, subst, eqb, cond, arith}
use Rattle.std.specs.Prelude.{Option, Some, None, nat_le, option_and_then, option_map, slice_get, if◌then◌else◌}
use Rattle.std.specs.Bool.{then_some}
use Rattle.std.specs.Option.{option_or}
use Rattle.std.proofs.lemmas.Bool.{and_from, both_ways, cond-true, eq-eqb, eqb-true, le-leb, ne_eqb}
use Rattle.bar_bytes.proofs.Tests.{eqb_refl}
use Rattle.bar_lms.specs.Schemes.{leaves_by}
use Rattle.bar_session.specs.Time.{last_tick}
use Rattle.bar_terms.specs.Table.{Table}
use Rattle.bar_window.specs.declared.exchange.XKind.TheVariants.{Balanced}
use Rattle.bar_wire.specs.Bodies.{evidence_in}
use Rattle.bar_wire.specs.Datagram.{Datagram, Message, Request, place_of}
use Rattle.bar_wire.specs.Grammar.{IsDatagram}
use Rattle.bar_wire.specs.Inputs as event
use Rattle.bar_wire.specs.Limits.{leaves_a_round}
use Rattle.bar_rules.specs.Broadcaster.Sending.{caster_step, caster_take}
use Rattle.bar_rules.specs.Judge.Verdict.{NotShown, NotSigned, Shown, Verdict, WrongPartner, fault_of, judged, verdict, verdict_on}
use Rattle.bar_rules.specs.Member.{Member, Session}
use Rattle.bar_rules.specs.Peer.Admission.{is_admitted}
use Rattle.bar_rules.specs.Peer.Evidence.{accuses, is_tried, new_evidence, pairs_of}
use Rattle.bar_rules.specs.Peer.Knowledge.{known, table_of}
use Rattle.bar_rules.specs.Peer.Log.{Kept, Log, ticks}
use Rattle.bar_rules.specs.Peer.Run.{Out, answered_to, report_new, with_evidence}
use Rattle.bar_rules.specs.Runs.{begun}
use Rattle.bar_rules.specs.Secrets.{is_seed, partner_of, signature_of}
use Rattle.bar_rules.specs.Values.{datagram_bytes, datagram_of, is_signed_by, message_bytes}
use Rattle.bar_rules.specs.World.World.{AllGenuine, Deliver, Hostile, IsSetup, IsUnforged, Setup, TickOf, World, happens, initial, member, party_step, spelled, takes_by}
use Rattle.bar_laws.specs.OwnRuns.{BroadcasterRuns, PeersRun, brought_to, input_at}
use Rattle.bar_laws.specs.Parties.{after}
use Rattle.bar_laws.proofs.Broadcasts.{judged-keeps}
use Rattle.bar_laws.proofs.Fitting.{signed-accepted}
use Rattle.bar_laws.proofs.Logs.{fits-back, signed_long, some-equal}
use Rattle.bar_progress.specs.Evictions.{report_bytes, report_of}
use Rattle.bar_progress.specs.Liars.{HasLiar, LiarsAreDenounced}
use Rattle.bar_progress.proofs.Announcing.{by-admission, step-takes}
use Rattle.bar_progress.proofs.Fetching.{peer-steps}
use Rattle.bar_progress.proofs.Moves.{happens-is, set-other, set-same}

and-false : (a : Bool) → (a && false) ≡ false
and-false true = refl
and-false false = refl

never : (a c d e : Bool) → ((((a && false) && c) && d) && e) ≡ false
never true c d e = refl
never false c d e = refl

-- any bytes serve as the seed and as the commitment
abbrev seed : List ℕ
seed = replicate 32 0

abbrev chosen : Setup → ℕ
chosen setup = partner_of setup.session seed Balanced 1

-- the liar is the first peer, and all others are trusted
abbrev others : ℕ → Bool
others p = not (eqb p 1)

-- a datagram leaves the broadcaster's time unchanged
caster-time : (me : Member) (stream : List ℕ) (bytes : List ℕ) → ticks (caster_step me stream [] (event.Datagram bytes)).state ≡ 0
unfolding caster_step
caster-time me stream bytes = go (nat_le (last_tick me.session) 0)
  where
    go : (b : Bool) → ticks (cond b (begun []) (caster_take me stream [] (event.Datagram bytes))).state ≡ 0
    go true = refl
    go false = judged-keeps (λ l. ticks l ≡ 0) me stream [] (datagram_of me.session bytes) refl (λ q evidence. refl)

module _ (peers : PeersRun) (casters : BroadcasterRuns) (setup : Setup) (is : IsSetup setup) (p : ℕ) (low : 2 ≤ p) (high : p ≤ setup.session.shape.peers) (wrong : chosen setup ≢ p) where
  abbrev s : Session
  s = setup.session

  abbrev me : Member
  me = member setup p

  -- ---- the lie

  abbrev m : Message
  m = record { from = 1; to = p; body = Request 1 seed seed }

  abbrev d : Datagram
  d = record { message = m; signature = signature_of (member setup 1) 0 (message_bytes s m) }

  abbrev bytes : List ℕ
  bytes = datagram_bytes s d

  abbrev evidence : List (List ℕ)
  evidence = bytes ∷ []

  below : 0 < leaves_by s.top s.params
  below =
      let leaves : leaves_a_round * s.shape.rounds ≤ leaves_by s.top s.params = is.session.leaves in
      let some : 1 ≤ s.shape.rounds = is.session.shape.rounds_low in omega (arith, leaves, some)

  fits : IsDatagram s.shape d
  fits =
      let many : s.shape.peers ≤ 200 = is.session.shape.peers_high in
      record {
        from_fits = omega arith;
        to_fits = omega (arith, many, high);
        form = (omega arith, refl, refl);
        range = (omega arith, is.session.shape.rounds_low);
        may_send = ((omega arith, omega (arith, low, high)), (omega (arith, low), high), λ e. absurd (omega (arith, e, low)));
        signature_long = signed_long s.top s.params s.shape.id (member setup 1).secret 0 (message_bytes s m) below ∙ sym is.session.signatures;
      }

  reads : datagram_of s bytes ≡ Some d
  reads = fits-back s d fits

  accepted : is_signed_by s d ≡ true
  accepted = signed-accepted s 1 (member setup 1).secret 0 m (is.fits 1 (omega (arith, low, high))) refl below

  apart : eqb (chosen setup) p ≡ false
  apart = ne_eqb (chosen setup) p wrong

  shown : (t : Table) → verdict s t evidence ≡ Shown 1 WrongPartner
  shown t =
      ap (λ o. verdict_on s t (option_and_then (λ c. option_map (λ ds. c ∷ ds) (Some [])) o)) reads
      ∙ ap (λ b. if not (b && true) then NotShown NotSigned else judged s t (d ∷ []) (fault_of s t (d ∷ []))) accepted
      ∙ ap (λ b. judged s t (d ∷ []) (then_some (not (is_seed s 1 1 seed && b)) WrongPartner)) apart
      ∙ ap (λ b. judged s t (d ∷ []) (then_some (not b) WrongPartner)) (and-false (is_seed s 1 1 seed))

  -- ---- what the other peer does

  abbrev keeps : Log
  keeps = Kept 1 evidence ∷ []

  completes : new_evidence me (known me []) d ≡ Some evidence
  unfolding new_evidence
  completes =
      cond-true (is_tried me (known me []) d) (by (verdict s (table_of (known me [])) evidence)) None tried ∙ ap by (shown (table_of (known me [])))
    where
      by : Verdict → Option (List (List ℕ))
      by v = option_or (then_some (accuses 1 v) evidence) (pairs_of me (known me []) d (place_of m))

      tried : is_tried me (known me []) d ≡ true
      tried = and_from _ _ (and_from _ _ (and_from _ _ (and_from _ _ (and_from _ _ refl (eqb_refl p)) refl) accepted) refl) (le-leb _ _ (omega arith))

  refused : is_admitted me (known me keeps) d ≡ false
  unfolding is_admitted
  refused = rw apart (rw (never (is_seed s 1 1 seed) _ _ _) (and-false _))

  abbrev told : Out
  told = record { state = keeps; sends = (0, report_of me evidence) ∷ []; contents = [] }

  stepped : party_step setup p [] (event.Datagram bytes) ≡ told
  stepped =
      peer-steps setup p [] (event.Datagram bytes) (omega (arith, low))
      ∙ step-takes me [] bytes d (omega arith) reads
      ∙ ap (λ o. report_new me (answered_to me (with_evidence me [] 1 o) d) 1 o) completes
      ∙ ap (λ b. report_new me (by-admission me keeps d b) 1 (Some evidence)) refused

  -- ---- the world

  abbrev w1 : World
  w1 = after setup (Hostile p bytes ∷ [])

  w1-is : w1 ≡ takes_by setup (initial setup) p (event.Datagram bytes) (Some [])
  w1-is = ap (takes_by setup (initial setup) p (event.Datagram bytes)) (peers setup [] is p (omega (arith, low)) high).log

  peer1 : slice_get w1.logs p ≡ Some keeps
  peer1 =
      ap (λ (w : World). slice_get w.logs p) w1-is
      ∙ set-same (initial setup).logs p [] _ (peers setup [] is p (omega (arith, low)) high).log
      ∙ ap (λ (o : Out). Some o.state) stepped

  caster1 : slice_get w1.logs 0 ≡ Some []
  caster1 =
      ap (λ (w : World). slice_get w.logs 0) w1-is
      ∙ set-other (initial setup).logs p 0 _ (λ e. absurd (omega (arith, e, low)))
      ∙ (casters setup [] is).log

  brings : input_at w1 0 (Deliver 0) ≡ event.Datagram (report_bytes me evidence) ∷ []
  brings = ap (λ (w : World). brought_to 0 (slice_get w.packets 0)) w1-is ∙ ap (λ (o : Out). brought_to 0 (slice_get (spelled s o.sends) 0)) stepped

  abbrev w2 : World
  w2 = happens setup w1 (Deliver 0)

  abbrev judges : Log
  judges = (caster_step (member setup 0) setup.stream [] (event.Datagram (report_bytes me evidence))).state

  w2-is : w2 ≡ takes_by setup w1 0 (event.Datagram (report_bytes me evidence)) (Some [])
  w2-is = happens-is setup w1 0 (Deliver 0) (event.Datagram (report_bytes me evidence)) brings ∙ ap (takes_by setup w1 0 (event.Datagram (report_bytes me evidence))) caster1

  caster2 : slice_get w2.logs 0 ≡ Some judges
  caster2 = ap (λ (w : World). slice_get w.logs 0) w2-is ∙ set-same w1.logs 0 [] judges caster1

  peer2 : slice_get w2.logs p ≡ Some keeps
  peer2 = ap (λ (w : World). slice_get w.logs p) w2-is ∙ set-other w1.logs 0 p judges (λ e. absurd (omega (arith, e, low))) ∙ peer1

  peer3 : slice_get (happens setup w2 (TickOf 0)).logs p ≡ Some keeps
  peer3 = ap (λ (o : Option Log). slice_get (takes_by setup w2 0 event.Tick o).logs p) caster2 ∙ set-other w2.logs 0 p _ (λ e. absurd (omega (arith, e, low))) ∙ peer2

  -- ---- nothing is forged

  hostile : IsUnforged setup others (initial setup) bytes
  hostile = (
    λ e log read sign trust valid at. absurd (both_ways (others e.message.from) (ap (λ (z : Datagram). others z.message.from) (same e read)) trust),
    λ e read. subst (λ b. AllGenuine setup others (initial setup) b) (sym (ap (λ (z : Datagram). evidence_in z.message.body) (same e read))) tt,
  )
    where
      same : (e : Datagram) → datagram_of s bytes ≡ Some e → e ≡ d
      same e read = some-equal e d (sym read ∙ reads)

  trusts : others p ≡ true
  trusts = ap not (ne_eqb p 1 (λ e. absurd (omega (arith, e, low))))

  liar : HasLiar setup
  liar = record {
    trusted = others;
    moves = Hostile p bytes ∷ [];
    report = Deliver 0;
    waiting = [];
    party = 1;
    round = 1;
    denounced = record {
      reported = record {
        unforged = record { setup_is = is; broadcaster = refl; unforged = (hostile, tt) };
        peer = p;
        present = high;
        log = keeps;
        is = record { low = omega (arith, low); trust = trusts; log_is = peer1 };
        evidence = evidence;
        keeps = refl;
        caster = [];
        caster_is = caster1;
        in_time = omega arith;
        brings = brings;
      };
      unforged = record { setup_is = is; broadcaster = refl; unforged = (hostile, tt) };
      caster = judges;
      caster_is = caster2;
      due = record {
        high = is.session.shape.rounds_low;
        now = (let time = caster-time (member setup 0) setup.stream (report_bytes me evidence) in omega (arith, time));
        slot = (let time = caster-time (member setup 0) setup.stream (report_bytes me evidence) in omega (arith, time));
      };
    };
    peer = p;
    present = (omega (arith, low), high);
    trust = trusts;
    awaits = record {
      unforged = record { setup_is = is; broadcaster = refl; unforged = (hostile, tt) };
      present = high;
      log = keeps;
      is = record { low = omega (arith, low); trust = trusts; log_is = peer3 };
      early = omega arith;
      going = omega arith;
    };
  }

pub liars-denounced : PeersRun → BroadcasterRuns → LiarsAreDenounced
liars-denounced peers casters setup is three = go (eqb (chosen setup) 2) refl
  where
    go : (b : Bool) → eqb (chosen setup) 2 ≡ b → HasLiar setup
    go true e = let two : chosen setup ≡ 2 = eqb-true (chosen setup) 2 e in liar peers casters setup is 3 (omega arith) three (λ z. absurd (omega (arith, z, two)))
    go false e = liar peers casters setup is 2 (omega arith) (omega (arith, three)) (λ z. both_ways _ e (eq-eqb (chosen setup) 2 z))

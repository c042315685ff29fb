-- From the report of evidence to the end of all trade with its party.
use Rattle.std.proofs.Common.{◌≡◌, ◌∙◌, ℕ, zero, suc, ◌+◌, ◌<◌, Bool, true, List, [], ◌∷◌, ◌++◌, length, map, refl, sym, ap, subst, cond, arith}
use Rattle.std.specs.Prelude.{Option, Some, None, Contains, is_none, slice_get, slice_index_or}
use Rattle.std.specs.List.{AllByRecursion}
use Rattle.std.proofs.lemmas.List.{map-id}
use Rattle.std.proofs.lemmas.Bool.{eq-eqb}
use Rattle.bar_window.proofs.Ranges.{image_is_in}
use Rattle.bar_wire.specs.Datagram.{Datagram}
use Rattle.bar_wire.specs.Grammar.{IsPeer}
use Rattle.bar_wire.specs.Inputs.{Input}
use Rattle.bar_wire.specs.Inputs as event
use Rattle.bar_rules.specs.Broadcaster.Sending.{caster_log_after, caster_step, evicted, served}
use Rattle.bar_rules.specs.Member.{Member}
use Rattle.bar_rules.specs.Peer.Log.{Log, Said, is_announced, kept}
use Rattle.bar_rules.specs.Peer.Run.{Out, log_after, step}
use Rattle.bar_rules.specs.Values.{datagram_bytes}
use Rattle.bar_rules.specs.World.World.{Deliver, Hostile, IsSetup, Move, Setup, TickOf, World, delivered, happens, initial, member, run, spelled, takes, takes_by}
use Rattle.bar_laws.specs.Growing.{HasGrown, PartiesGrow}
use Rattle.bar_laws.specs.OwnRuns.{BroadcasterRuns, PeersRun, brought_to, input_at, inputs_of}
use Rattle.bar_laws.specs.Parties.{NobodyIsAccused, after}
use Rattle.bar_laws.specs.Premises.{PeersAreMembers}
use Rattle.bar_laws.proofs.Logs.{some-equal}
use Rattle.bar_progress.specs.Evictions.{AnnouncedAreIgnored, AnnouncedGetNothing, AwaitsNotice, IsSpared, NoticesArrive, NoticesAreSent, ReportsEvict, SendsNotice}
use Rattle.bar_progress.specs.Rounds.{IsRoundDue}
use Rattle.bar_progress.specs.Silence.{EvidenceEndsTrade, IsDenounced, LeavesAlone, until_tick}
use Rattle.bar_progress.proofs.Holding.{contains-back}
use Rattle.bar_progress.proofs.Moves.{run-on, set-same}

-- ---- packets by number

contained-at : {X Y : Type 0} (f : X → Y) (xs : List X) (x : X) (k : ℕ) → k < length xs → slice_index_or xs k x ≡ x → slice_get (map f xs) k ≡ Some (f x)
contained-at f [] x k below at = absurd (omega (arith, below))
contained-at f (y ∷ ys) x zero below at = ap (λ z. Some (f z)) at
contained-at f (y ∷ ys) x (suc k) below at = contained-at f ys x k (omega (arith, below)) at

get-behind : {X : Type 0} (xs ys : List X) (k : ℕ) → slice_get (xs ++ ys) (length xs + k) ≡ slice_get ys k
get-behind {X = X} [] ys k = let here : length {A = X} [] + k ≡ k = omega arith in ap (slice_get ys) here
get-behind (x ∷ xs) ys k = let next : length (x ∷ xs) + k ≡ suc (length xs + k) = omega arith in ap (slice_get (x ∷ (xs ++ ys))) next ∙ get-behind xs ys k

get-front : {X : Type 0} (xs ys : List X) (k : ℕ) (x : X) → slice_get xs k ≡ Some x → slice_get (xs ++ ys) k ≡ Some x
get-front [] ys k x e = cc
get-front (y ∷ xs) ys zero x e = e
get-front (y ∷ xs) ys (suc k) x e = get-front xs ys k x e

-- a packet remains in the pool
module _ (setup : Setup) (n : ℕ) (packet : ℕ × List ℕ) where
  takes-stays : (w : World) (p : ℕ) (i : Input) → slice_get w.packets n ≡ Some packet → slice_get (takes setup w p i).packets n ≡ Some packet
  takes-stays w p i e = go (slice_get w.logs p)
    where
      go : (o : Option Log) → slice_get (takes_by setup w p i o).packets n ≡ Some packet
      go None = e
      go (Some log) = get-front w.packets _ n packet e

  happens-stays : (w : World) (m : Move) → slice_get w.packets n ≡ Some packet → slice_get (happens setup w m).packets n ≡ Some packet
  happens-stays w (TickOf p) e = takes-stays w p event.Tick e
  happens-stays w (Hostile p bytes) e = takes-stays w p (event.Datagram bytes) e
  happens-stays w (Deliver k) e = go (slice_get w.packets k)
    where
      go : (o : Option (ℕ × List ℕ)) → slice_get (delivered setup w o).packets n ≡ Some packet
      go None = e
      go (Some d) = takes-stays w d.0 (event.Datagram d.1) e

  run-stays : (w : World) (moves : List Move) → slice_get w.packets n ≡ Some packet → slice_get (run setup w moves).packets n ≡ Some packet
  run-stays w [] e = e
  run-stays w (m ∷ ms) e = run-stays (happens setup w m) ms (happens-stays w m e)

-- ---- an announced party is left alone

module _ (peers : PeersRun) (members : PeersAreMembers) (ignored : AnnouncedAreIgnored) (spared : AnnouncedGetNothing) (setup : Setup) (is : IsSetup setup) where
  left-alone : (moves : List Move) (peer party : ℕ) (end : Log) → IsPeer setup.session.shape peer → slice_get (after setup moves).logs peer ≡ Some end → is_announced end party ≡ true → LeavesAlone (member setup peer) end party
  left-alone moves peer party end p at announced = record {
    takes_nothing = λ bytes d read from. ignored me end bytes d read (ap (is_announced end) from ∙ announced);
    sends_nothing = λ input. subst (λ (l : Log). AllByRecursion (IsSpared party) (step me l input).sends) (sym end-is) (spared me (members setup peer is p.0 p.1) inputs party input (sym (ap (λ (l : Log). is_announced l party) end-is) ∙ announced));
  }
    where
      me : Member
      me = member setup peer

      inputs : List Input
      inputs = inputs_of setup moves peer

      end-is : end ≡ log_after me [] inputs
      end-is = some-equal _ _ (sym at ∙ (peers setup moves is peer p.0 p.1).log)

-- ---- the notice that the tick sends

module _ (evicts : ReportsEvict) (sends : NoticesAreSent) (accuses : NobodyIsAccused) (peers : PeersRun) (casters : BroadcasterRuns) (setup : Setup) (trusted : ℕ → Bool) (moves waiting : List Move) (report : Move) (party round peer : ℕ)
    (r : IsDenounced setup trusted moves report waiting party round) (p : IsPeer setup.session.shape peer) (trust : trusted peer ≡ true) where
  abbrev before : List Move
  before = until_tick moves report waiting

  abbrev told : List Move
  told = before ++ TickOf 0 ∷ []

  is_setup : IsSetup setup
  is_setup = r.unforged.setup_is

  abbrev caster : Member
  caster = member setup 0

  abbrev out : Out
  out = caster_step caster setup.stream r.caster event.Tick

  -- the peer is served, as no trusted peer is evicted
  serves : Contains (served setup.session r.caster) peer
  serves =
      subst (λ (qs : List ℕ). Contains qs peer) (map-id (served setup.session r.caster))
      (image_is_in (λ q. is_none (kept r.caster q)) (λ q. q) 1 setup.session.shape.peers peer
      (record { place = peer; low = p.0; high = omega (arith, p.1); passes = ap is_none unkept; is = refl }))
    where
      unkept : kept r.caster peer ≡ None
      unkept =
          accuses setup trusted before r.unforged 0 peer r.caster _ (record { trust = r.unforged.broadcaster; log_is = r.caster_is })
          (record { low = p.0; trust = trust; log_is = (peers setup before is_setup peer p.0 p.1).log })

  notice : SendsNotice out peer round (evicted setup.session r.caster)
  notice =
      subst (λ (l : Log). SendsNotice (caster_step caster setup.stream l event.Tick) peer round (evicted setup.session l)) (sym caster-is)
      (sends caster setup.stream (record { session = is_setup.session; party = refl; fits = is_setup.fits 0 (omega arith) }) (inputs_of setup before 0) round peer party
      (subst (λ (l : Log). IsRoundDue caster l round) caster-is r.due)
      (subst (λ (l : Log). Contains (evicted setup.session l) party) caster-is (evicts setup trusted moves waiting report party r.caster r.reported r.caster_is))
      (subst (λ (l : Log). Contains (served setup.session l) peer) caster-is serves))
    where
      caster-is : r.caster ≡ caster_log_after caster setup.stream (inputs_of setup before 0)
      caster-is = some-equal _ _ (sym r.caster_is ∙ (casters setup before is_setup).log)

  abbrev bytes : List ℕ
  bytes = datagram_bytes setup.session notice.notice

  abbrev number : ℕ
  number = length (after setup before).packets + notice.sent.0

  ticked : after setup told ≡ takes_by setup (after setup before) 0 event.Tick (Some r.caster)
  ticked = run-on setup (initial setup) before (TickOf 0 ∷ []) ∙ ap (takes_by setup (after setup before) 0 event.Tick) r.caster_is

  packet : slice_get (after setup told).packets number ≡ Some (peer, bytes)
  packet =
      ap (λ (w : World). slice_get w.packets number) ticked
      ∙ get-behind (after setup before).packets (spelled setup.session out.sends) notice.sent.0
      ∙ contained-at (λ (s : ℕ × Datagram). (s.0, datagram_bytes setup.session s.1)) out.sends (peer, notice.notice) notice.sent.0 notice.sent.1 notice.sent.2

  caster-told : slice_get (after setup told).logs 0 ≡ Some out.state
  caster-told = ap (λ (w : World). slice_get w.logs 0) ticked ∙ set-same (after setup before).logs 0 r.caster out.state r.caster_is

  -- if it is delivered in time, it announces the party
  announces : NoticesArrive → PartiesGrow → (more later : List Move) (end : Log) → AwaitsNotice setup trusted (told ++ more) peer round
      → slice_get (after setup ((told ++ more) ++ Deliver number ∷ later)).logs peer ≡ Some end → is_announced end party ≡ true
  announces arrive grow more later end awaits at =
      arrive setup trusted (told ++ more) later (Deliver number) peer party (evicted setup.session r.caster) end
      (record {
        round = round;
        awaits = awaits;
        caster = grown.log;
        caster_is = grown.log_is;
        notice = notice.notice;
        said = subst (λ (l : Log). Contains l (Said notice.notice)) (sym grown.later.split) (contains-back grown.later.new out.state (Said notice.notice) notice.said);
        body = notice.body;
        brings = brings;
      })
      (evicts setup trusted moves waiting report party r.caster r.reported r.caster_is) at
    where
      grown : HasGrown (after setup (told ++ more)) 0 out.state
      grown = grow setup told more 0 out.state is_setup caster-told

      brings : input_at (after setup (told ++ more)) peer (Deliver number) ≡ event.Datagram bytes ∷ []
      brings =
          ap (λ (w : World). brought_to peer (slice_get w.packets number)) (run-on setup (initial setup) told more)
          ∙ ap (brought_to peer) (run-stays setup number (peer, bytes) (after setup told) more packet)
          ∙ ap (λ b. cond b (event.Datagram bytes ∷ []) []) (eq-eqb peer peer refl)

pub evidence-ends : ReportsEvict → NoticesAreSent → NoticesArrive → AnnouncedAreIgnored → AnnouncedGetNothing → NobodyIsAccused → PeersRun → BroadcasterRuns → PartiesGrow → PeersAreMembers → EvidenceEndsTrade
evidence-ends evicts sends arrive ignored spared accuses peers casters grow members setup trusted moves waiting report party round peer r p trust = record {
  number = number evicts sends accuses peers casters setup trusted moves waiting report party round peer r p trust;
  bytes = bytes evicts sends accuses peers casters setup trusted moves waiting report party round peer r p trust;
  packet = packet evicts sends accuses peers casters setup trusted moves waiting report party round peer r p trust;
  ends = λ more later end awaits at.
      let all : List Move = ((until_tick moves report waiting ++ TickOf 0 ∷ []) ++ more) ++ Deliver (number evicts sends accuses peers casters setup trusted moves waiting report party round peer r p trust) ∷ later in
      left-alone peers members ignored spared setup r.unforged.setup_is all peer party end p at
      (announces evicts sends accuses peers casters setup trusted moves waiting report party round peer r p trust arrive grow more later end awaits at);
}

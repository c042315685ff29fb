-- What moves do to one peer: what it hears, when it heard it, and what it sent for it.
use Rattle.std.proofs.Common.{◌≡◌, ◌∙◌, ◌⊎◌, inl, inr, ℕ, zero, suc, ◌<◌, ◌≤◌, Bool, true, false, List, [], ◌∷◌, ◌++◌, refl, sym, ap, subst, eqb, append_assoc, append-nil}
use Rattle.std.specs.Prelude.{Option, Some, None, is_some, slice_get, if◌then◌else◌}
use Rattle.std.specs.List.{AllByRecursion}
use Rattle.std.proofs.lemmas.Bool.{both_ways}
use Rattle.bar_session.specs.Time.{last_tick}
use Rattle.bar_window.specs.declared.exchange.Exchange.{Exchange}
use Rattle.bar_window.specs.declared.exchange.Role.{Role}
use Rattle.bar_window.specs.declared.update.UpdateId.{UpdateId}
use Rattle.bar_wire.specs.Datagram.{Datagram, is_of, is_signed}
use Rattle.bar_wire.specs.Inputs.{Input}
use Rattle.bar_wire.specs.Inputs as event
use Rattle.bar_wire.specs.declared.kind.Kind.{Kind}
use Rattle.bar_rules.proofs.LongerRuns.{state_after_both}
use Rattle.bar_rules.specs.Member.{Member}
use Rattle.bar_rules.specs.Peer.Admission.{is_admitted}
use Rattle.bar_rules.specs.Peer.Evidence.{new_evidence}
use Rattle.bar_rules.specs.Peer.Knowledge.{Knowledge, known, with_heard}
use Rattle.bar_rules.specs.Peer.Log.{Log, ticks}
use Rattle.bar_rules.specs.Peer.Machine.{step_known}
use Rattle.bar_rules.specs.Peer.Rules.{IsObedient}
use Rattle.bar_rules.specs.Peer.Run.{Out, log_after, step}
use Rattle.bar_rules.specs.Runs.{Outcome}
use Rattle.bar_rules.specs.Values.{datagram_bytes, datagram_of}
use Rattle.bar_rules.specs.World.World.{Deliver, Hostile, IsSetup, Move, Setup, TickOf, World, delivered, happens, initial, member, party_step, run, spelled, takes_by}
use Rattle.bar_laws.specs.Growing.{IsLater, PeersGrow}
use Rattle.bar_laws.specs.Knowing.{StepIsKnown}
use Rattle.bar_laws.specs.Obedience.{SignedByRule}
use Rattle.bar_laws.specs.OwnRuns.{PeersRun, brought_to, given_to, input_at, inputs_from, inputs_of}
use Rattle.bar_laws.specs.Parties.{IsSentBy, StepIsAccepted, after}
use Rattle.bar_laws.specs.Premises.{PeersAreMembers}
use Rattle.bar_laws.proofs.Logs.{SaidIn, find-later}
use Rattle.bar_laws.proofs.Runs.{SentBy, step-adds}
use Rattle.bar_progress.proofs.Fetching.{peer-steps}
use Rattle.bar_progress.proofs.Hearing.{HearsNow, IsAmong, answer-hears, answer-is, answer-reveals, answers, hears-now}
use Rattle.bar_progress.proofs.Moves.{happens-is, inputs-on, run-on}

-- ---- lists

front-get : {X : Type 0} (xs ys : List X) (n : ℕ) (x : X) → slice_get xs n ≡ Some x → slice_get (xs ++ ys) n ≡ Some x
front-get [] ys n x e = cc
front-get (y ∷ xs) ys zero x e = e
front-get (y ∷ xs) ys (suc n) x e = front-get xs ys n x e

pub behind-get : {X : Type 0} (xs ys : List X) (n : ℕ) (x : X) → slice_get ys n ≡ Some x → (m : ℕ) × (slice_get (xs ++ ys) m ≡ Some x)
behind-get [] ys n x e = (n, e)
behind-get (y ∷ xs) ys n x e = let f = behind-get xs ys n x e in (suc f.0, f.1)

said-grown : (new log : Log) (d : Datagram) → SaidIn log d → SaidIn (new ++ log) d
said-grown [] log d h = h
said-grown (x ∷ new) log d h = inr (said-grown new log d h)

join : (a b c : Log) → IsLater a b → IsLater b c → IsLater a c
join a b c f g = record { new = f.new ++ g.new; split = f.split ∙ ap (λ (l : Log). f.new ++ l) g.split ∙ sym (append_assoc f.new g.new c) }

-- ---- the pool

-- what was sent remains in the pool
abbrev Grows : World → World → Type 0
Grows w v = (more : List (ℕ × List ℕ)) × (v.packets ≡ w.packets ++ more)

takes-grows : (setup : Setup) (w : World) (p : ℕ) (i : Input) (o : Option Log) → Grows w (takes_by setup w p i o)
takes-grows setup w p i None = ([], sym (append-nil w.packets))
takes-grows setup w p i (Some log) = (spelled setup.session (party_step setup p log i).sends, refl)

move-grows : (setup : Setup) (w : World) (m : Move) → Grows w (happens setup w m)
move-grows setup w (TickOf p) = takes-grows setup w p event.Tick (slice_get w.logs p)
move-grows setup w (Hostile p bytes) = takes-grows setup w p (event.Datagram bytes) (slice_get w.logs p)
move-grows setup w (Deliver n) = go (slice_get w.packets n)
  where
    go : (o : Option (ℕ × List ℕ)) → Grows w (delivered setup w o)
    go None = ([], sym (append-nil w.packets))
    go (Some s) = takes-grows setup w s.0 (event.Datagram s.1) (slice_get w.logs s.0)

run-grows : (setup : Setup) (w : World) (ms : List Move) → Grows w (run setup w ms)
run-grows setup w [] = ([], sym (append-nil w.packets))
run-grows setup w (m ∷ ms) =
    let one = move-grows setup w m in
    let all = run-grows setup (happens setup w m) ms in
    (one.0 ++ all.0, all.1 ∙ ap (λ l. l ++ all.0) one.1 ∙ append_assoc w.packets one.0 all.0)

packet-stays : (setup : Setup) (ms ns : List Move) (n : ℕ) (s : ℕ × List ℕ) → slice_get (after setup ms).packets n ≡ Some s → slice_get (after setup (ms ++ ns)).packets n ≡ Some s
packet-stays setup ms ns n s e =
    let g = run-grows setup (after setup ms) ns in
    ap (λ (w : World). slice_get w.packets n) (run-on setup (initial setup) ms ns) ∙ ap (λ l. slice_get l n) g.1 ∙ front-get (after setup ms).packets g.0 n s e

-- ---- a move gives at most one input

given-cases : (p q : ℕ) (i : Input) → (given_to p q i ≡ []) ⊎ ((j : Input) × (given_to p q i ≡ j ∷ []))
given-cases p q i = go (eqb q p)
  where
    go : (b : Bool) → ((if b then i ∷ [] else []) ≡ []) ⊎ ((j : Input) × ((if b then i ∷ [] else []) ≡ j ∷ []))
    go true = inr (i, refl)
    go false = inl refl

input-cases : (w : World) (p : ℕ) (m : Move) → (input_at w p m ≡ []) ⊎ ((i : Input) × (input_at w p m ≡ i ∷ []))
input-cases w p (TickOf q) = given-cases p q event.Tick
input-cases w p (Hostile q bytes) = given-cases p q (event.Datagram bytes)
input-cases w p (Deliver n) = go (slice_get w.packets n)
  where
    go : (o : Option (ℕ × List ℕ)) → (brought_to p o ≡ []) ⊎ ((i : Input) × (brought_to p o ≡ i ∷ []))
    go None = inl refl
    go (Some s) = given-cases p s.0 (event.Datagram s.1)

-- ---- what is sent

-- each of some sends that is among them
among-all : (P : ℕ × Datagram → Type 0) (s : ℕ × Datagram) (sends : List (ℕ × Datagram)) → AllByRecursion P sends → IsAmong s sends → P s
among-all P s [] a h = absurd h
among-all P s (t ∷ sends) a (inl e) = subst P e a.0
among-all P s (t ∷ sends) a (inr h) = among-all P s sends a.1 h

among-get : (setup : Setup) (s : ℕ × Datagram) (sends : List (ℕ × Datagram)) → IsAmong s sends → (n : ℕ) × (slice_get (spelled setup.session sends) n ≡ Some (s.0, datagram_bytes setup.session s.1))
among-get setup s [] h = absurd h
among-get setup s (t ∷ sends) (inl e) = (0, ap (λ (z : ℕ × Datagram). Some (z.0, datagram_bytes setup.session z.1)) e)
among-get setup s (t ∷ sends) (inr h) = let f = among-get setup s sends h in (suc f.0, f.1)

sent-said : (me : Member) (log : Log) (s : ℕ × Datagram) → SentBy me log s → is_signed s.1.message.body ≡ true → SaidIn log s.1
sent-said me log s (inl h) e = h
sent-said me log s (inr h) e = absurd (both_ways (is_signed s.1.message.body) h.1.unsigned_kind e)

-- ---- one peer

module _ (knows : StepIsKnown) (peers : PeersRun) (grow : PeersGrow) (accepts : StepIsAccepted) (ruled : SignedByRule) (members : PeersAreMembers) (setup : Setup) (is : IsSetup setup) (p : ℕ) (low : 1 ≤ p)
    (high : p ≤ setup.session.shape.peers) where
  abbrev me : Member
  me = member setup p

  -- what it holds and knows after some moves
  abbrev pub log_at : List Move → Log
  log_at ms = log_after me [] (inputs_of setup ms p)

  abbrev pub knows_at : List Move → Knowledge
  knows_at ms = known me (log_at ms)

  pub log-is : (ms : List Move) → slice_get (after setup ms).logs p ≡ Some (log_at ms)
  log-is ms = (peers setup ms is p low high).log

  pub obedient : (ms : List Move) → IsObedient me (log_at ms)
  obedient ms = (ruled me (members setup p is low high) (inputs_of setup ms p)).obedient

  log-on : (ms ns : List Move) → log_at (ms ++ ns) ≡ log_after me (log_at ms) (inputs_from setup (after setup ms) p ns)
  log-on ms ns =
      ap (log_after me []) (inputs-on setup (initial setup) p ms ns) ∙ state_after_both (step me) [] (inputs_of setup ms p) (inputs_from setup (after setup ms) p ns)

  pub later : (ms ns : List Move) → IsLater (log_at (ms ++ ns)) (log_at ms)
  later ms ns = subst (λ l. IsLater l (log_at ms)) (sym (log-on ms ns)) (grow me (log_at ms) (inputs_from setup (after setup ms) p ns))

  unmoved : (ms : List Move) (m : Move) → input_at (after setup ms) p m ≡ [] → log_at (ms ++ m ∷ []) ≡ log_at ms
  unmoved ms m e = log-on ms (m ∷ []) ∙ ap (λ l. log_after me (log_at ms) (l ++ [])) e

  moved : (ms : List Move) (m : Move) (i : Input) → input_at (after setup ms) p m ≡ i ∷ [] → log_at (ms ++ m ∷ []) ≡ (step me (log_at ms) i).state
  moved ms m i e = log-on ms (m ∷ []) ∙ ap (λ l. log_after me (log_at ms) (l ++ [])) e

  pub knows-moved : (ms : List Move) (m : Move) (i : Input) → input_at (after setup ms) p m ≡ i ∷ [] → knows_at (ms ++ m ∷ []) ≡ (step_known me (knows_at ms) i).state
  knows-moved ms m i e = ap (known me) (moved ms m i e) ∙ ap (λ (o : Outcome Knowledge). o.state) (knows me (log_at ms) i)

  -- ---- what was found remains found

  pub heard-stays : (ms ns : List Move) (kind : Kind) (x : Exchange) (role : Role) (d : Datagram) → (knows_at ms).heard kind x role ≡ Some d → (knows_at (ms ++ ns)).heard kind x role ≡ Some d
  heard-stays ms ns kind x role d e = find-later _ (log_at (ms ++ ns)) (log_at ms) d (later ms ns) e

  pub said-stays : (ms ns : List Move) (kind : Kind) (x : Exchange) (role : Role) (d : Datagram) → (knows_at ms).said kind x role ≡ Some d → (knows_at (ms ++ ns)).said kind x role ≡ Some d
  said-stays ms ns kind x role d e = find-later _ (log_at (ms ++ ns)) (log_at ms) d (later ms ns) e

  pub revealed-stays : (ms ns : List Move) (x : Exchange) (a : List ℕ × List UpdateId) → (knows_at ms).revealed x ≡ Some a → (knows_at (ms ++ ns)).revealed x ≡ Some a
  revealed-stays ms ns x a e = find-later _ (log_at (ms ++ ns)) (log_at ms) a (later ms ns) e

  -- ---- the moment at which something was heard

  pub record HeardAt (start ms : List Move) (kind : Kind) (x : Exchange) (role : Role) : Type 0 where
    pub before : List Move
    pub move : Move
    pub rest : List Move
    pub split : ms ≡ before ++ move ∷ rest
    pub more : List Move
    pub since : before ≡ start ++ more
    pub input : Input
    pub brings : input_at (after setup before) p move ≡ input ∷ []
    pub none : (knows_at before).heard kind x role ≡ None
    pub now : HearsNow me (knows_at before) input kind x role

  no-both : (o : Option Datagram) (d : Datagram) → o ≡ None → o ≡ Some d → ⊥
  no-both o d e f = cc

  here : (start : List Move) (m : Move) (rest ms : List Move) (kind : Kind) (x : Exchange) (role : Role) (e : Datagram) → ms ≡ start ++ m ∷ rest → (knows_at start).heard kind x role ≡ None
      → (knows_at (start ++ m ∷ [])).heard kind x role ≡ Some e → (input_at (after setup start) p m ≡ []) ⊎ ((i : Input) × (input_at (after setup start) p m ≡ i ∷ [])) → HeardAt start ms kind x role
  here start m rest ms kind x role e split none f (inl g) =
      absurd (no-both ((knows_at start).heard kind x role) e none (subst (λ (l : Log). (known me l).heard kind x role ≡ Some e) (unmoved start m g) f))
  here start m rest ms kind x role e split none f (inr g) = record {
    before = start;
    move = m;
    rest = rest;
    split = split;
    more = [];
    since = sym (append-nil start);
    input = g.0;
    brings = g.1;
    none = none;
    now = hears-now me (knows_at start) g.0 kind x role none (subst (λ (k : Knowledge). is_some (k.heard kind x role) ≡ true) (knows-moved start m g.0 g.1) (ap is_some f));
  }

  since-before : (start : List Move) (m : Move) (ms : List Move) (kind : Kind) (x : Exchange) (role : Role) → HeardAt (start ++ m ∷ []) ms kind x role → HeardAt start ms kind x role
  since-before start m ms kind x role h = record {
    before = h.before;
    move = h.move;
    rest = h.rest;
    split = h.split;
    more = m ∷ h.more;
    since = h.since ∙ append_assoc start (m ∷ []) h.more;
    input = h.input;
    brings = h.brings;
    none = h.none;
    now = h.now;
  }

  moment : (rest start ms : List Move) (kind : Kind) (x : Exchange) (role : Role) (d : Datagram) → ms ≡ start ++ rest → (knows_at start).heard kind x role ≡ None → (knows_at ms).heard kind x role ≡ Some d
      → HeardAt start ms kind x role
  moment [] start ms kind x role d split none some =
      absurd (no-both ((knows_at start).heard kind x role) d none (subst (λ z. (knows_at z).heard kind x role ≡ Some d) (split ∙ append-nil start) some))
  moment (m ∷ rest) start ms kind x role d split none some =
      go ((knows_at (start ++ m ∷ [])).heard kind x role) refl (λ f. moment rest (start ++ m ∷ []) ms kind x role d (split ∙ sym (append_assoc start (m ∷ []) rest)) f some)
    where
      go : (o : Option Datagram) → (knows_at (start ++ m ∷ [])).heard kind x role ≡ o → ((knows_at (start ++ m ∷ [])).heard kind x role ≡ None → HeardAt (start ++ m ∷ []) ms kind x role) → HeardAt start ms kind x role
      go (Some e) f more = here start m rest ms kind x role e split none f (input-cases (after setup start) p m)
      go None f more = since-before start m ms kind x role (more f)

  state-then : (start ms : List Move) (kind : Kind) (x : Exchange) (role : Role) (h : HeardAt start ms kind x role)
      → knows_at (h.before ++ h.move ∷ []) ≡ (answers me (knows_at h.before) h.now.d (new_evidence me (knows_at h.before) h.now.d)).state
  state-then start ms kind x role h =
      knows-moved h.before h.move h.input h.brings
      ∙ ap (λ (o : Outcome Knowledge). o.state) (ap (step_known me (knows_at h.before)) h.now.input ∙ answer-is me (knows_at h.before) h.now.bytes h.now.d h.now.going h.now.read h.now.admitted)

  pub heard-at : (start more : List Move) (kind : Kind) (x : Exchange) (role : Role) (d : Datagram) → (knows_at start).heard kind x role ≡ None → (knows_at (start ++ more)).heard kind x role ≡ Some d
      → HeardAt start (start ++ more) kind x role
  heard-at start more kind x role d none some = moment more start (start ++ more) kind x role d refl none some

  -- it is the datagram that is heard ever after
  pub heard-then : (start ms : List Move) (kind : Kind) (x : Exchange) (role : Role) (h : HeardAt start ms kind x role) → (knows_at ms).heard kind x role ≡ Some h.now.d
  heard-then start ms kind x role h =
      subst (λ z. (knows_at z).heard kind x role ≡ Some h.now.d) (append_assoc h.before (h.move ∷ []) h.rest ∙ sym h.split)
      (heard-stays (h.before ++ h.move ∷ []) h.rest kind x role h.now.d
      (ap (λ (k : Knowledge). k.heard kind x role) (state-then start ms kind x role h) ∙ answer-hears me (knows_at h.before) h.now.d (new_evidence me (knows_at h.before) h.now.d) kind x role h.none h.now.of))

  -- the same holds for what is revealed
  pub revealed-then : (start ms : List Move) (kind : Kind) (x y : Exchange) (role : Role) (h : HeardAt start ms kind x role) (a : List ℕ × List UpdateId) → (with_heard me h.now.d (knows_at h.before)).revealed y ≡ Some a
      → (knows_at ms).revealed y ≡ Some a
  revealed-then start ms kind x y role h a e =
      subst (λ z. (knows_at z).revealed y ≡ Some a) (append_assoc h.before (h.move ∷ []) h.rest ∙ sym h.split)
      (revealed-stays (h.before ++ h.move ∷ []) h.rest y a
      (ap (λ (k : Knowledge). k.revealed y) (state-then start ms kind x role h) ∙ answer-reveals me y a (knows_at h.before) h.now.d (new_evidence me (knows_at h.before) h.now.d) e))

  -- ---- what was sent

  -- The packet is in the pool, as this peer sent it; if it is signed, it is in the peer's log.
  pub record SentIn (ms : List Move) (to : ℕ) (d : Datagram) : Type 0 where
    pub number : ℕ
    pub packet : slice_get (after setup ms).packets number ≡ Some (to, datagram_bytes setup.session d)
    pub accepted : IsSentBy setup p (to, d)
    pub said : is_signed d.message.body ≡ true → SaidIn (log_at ms) d

  pub sent-stays : (ms ns : List Move) (to : ℕ) (d : Datagram) → SentIn ms to d → SentIn (ms ++ ns) to d
  sent-stays ms ns to d s = record {
    number = s.number;
    packet = packet-stays setup ms ns s.number (to, datagram_bytes setup.session d) s.packet;
    accepted = s.accepted;
    said = λ e. let l = later ms ns in subst (λ z. SaidIn z d) (sym l.split) (said-grown l.new (log_at ms) d (s.said e));
  }

  sent-now : (ms : List Move) (m : Move) (i : Input) (to : ℕ) (d : Datagram) → input_at (after setup ms) p m ≡ i ∷ [] → IsAmong (to, d) (step_known me (knows_at ms) i).sends → SentIn (ms ++ m ∷ []) to d
  sent-now ms m i to d e h = record {
    number = there.0;
    packet =
        ap (λ (w : World). slice_get w.packets there.0) (run-on setup (initial setup) ms (m ∷ []) ∙ happens-is setup (after setup ms) p m i e ∙ ap (takes_by setup (after setup ms) p i) (log-is ms))
        ∙ there.1;
    accepted = among-all (IsSentBy setup p) (to, d) (party_step setup p (log_at ms) i).sends (accepts setup ms is p (log_at ms) i (log-is ms)) by_party;
    said =
        λ f. subst (λ (l : Log). SaidIn l d) (sym (moved ms m i e))
        (sent-said me (step me (log_at ms) i).state (to, d) (among-all (SentBy me (step me (log_at ms) i).state) (to, d) (step me (log_at ms) i).sends (step-adds me (log_at ms) i).sent by_log) f);
  }
    where
      by_log : IsAmong (to, d) (step me (log_at ms) i).sends
      by_log = subst (λ (o : Outcome Knowledge). IsAmong (to, d) o.sends) (sym (knows me (log_at ms) i)) h

      by_party : IsAmong (to, d) (party_step setup p (log_at ms) i).sends
      by_party = subst (λ (o : Out). IsAmong (to, d) o.sends) (sym (peer-steps setup p (log_at ms) i low)) by_log

      there : (n : ℕ) × (slice_get ((after setup ms).packets ++ spelled setup.session (party_step setup p (log_at ms) i).sends) n ≡ Some (to, datagram_bytes setup.session d))
      there =
          let f = among-get setup (to, d) (party_step setup p (log_at ms) i).sends by_party in
          behind-get (after setup ms).packets (spelled setup.session (party_step setup p (log_at ms) i).sends) f.0 (to, datagram_bytes setup.session d) f.1

  -- what is sent at the moment at which something was heard
  pub sent-then : (start ms : List Move) (kind : Kind) (x : Exchange) (role : Role) (h : HeardAt start ms kind x role) (to : ℕ) (d : Datagram)
      → IsAmong (to, d) (answers me (knows_at h.before) h.now.d (new_evidence me (knows_at h.before) h.now.d)).sends → SentIn ms to d
  sent-then start ms kind x role h to d among =
      subst (λ z. SentIn z to d) (append_assoc h.before (h.move ∷ []) h.rest ∙ sym h.split)
      (sent-stays (h.before ++ h.move ∷ []) h.rest to d
      (sent-now h.before h.move h.input to d h.brings
      (subst (λ (o : Outcome Knowledge). IsAmong (to, d) o.sends) (sym (ap (step_known me (knows_at h.before)) h.now.input ∙ answer-is me (knows_at h.before) h.now.bytes h.now.d h.now.going h.now.read h.now.admitted)) among)))

  -- ---- what it is given

  pub knows-given : (ms : List Move) (m : Move) (d : Datagram) → input_at (after setup ms) p m ≡ event.Datagram (datagram_bytes setup.session d) ∷ [] → datagram_of setup.session (datagram_bytes setup.session d) ≡ Some d
      → ticks (log_at ms) < last_tick setup.session → is_admitted me (knows_at ms) d ≡ true → knows_at (ms ++ m ∷ []) ≡ (answers me (knows_at ms) d (new_evidence me (knows_at ms) d)).state
  knows-given ms m d brings reads going admitted =
      knows-moved ms m (event.Datagram (datagram_bytes setup.session d)) brings
      ∙ ap (λ (o : Outcome Knowledge). o.state) (answer-is me (knows_at ms) (datagram_bytes setup.session d) d going reads admitted)

  -- what it is given is heard, or one like it was heard before
  pub arrives : (ms : List Move) (m : Move) (kind : Kind) (x : Exchange) (role : Role) (d : Datagram) → input_at (after setup ms) p m ≡ event.Datagram (datagram_bytes setup.session d) ∷ []
      → datagram_of setup.session (datagram_bytes setup.session d) ≡ Some d → is_of kind x role d.message ≡ true → ticks (log_at ms) < last_tick setup.session
      → ((knows_at ms).heard kind x role ≡ None → is_admitted me (knows_at ms) d ≡ true) → (e : Datagram) × ((knows_at (ms ++ m ∷ [])).heard kind x role ≡ Some e)
  arrives ms m kind x role d brings reads of going admits = go ((knows_at ms).heard kind x role) refl
    where
      go : (o : Option Datagram) → (knows_at ms).heard kind x role ≡ o → (e : Datagram) × ((knows_at (ms ++ m ∷ [])).heard kind x role ≡ Some e)
      go (Some e) f = (e, heard-stays ms (m ∷ []) kind x role e f)
      go None f = (
        d,
        ap (λ (k : Knowledge). k.heard kind x role) (knows-given ms m d brings reads going (admits f)) ∙ answer-hears me (knows_at ms) d (new_evidence me (knows_at ms) d) kind x role f of,
      )

-- In a world in which nothing is forged, each delivered message of a trusted party was signed by it.
use Rattle.bar_rules.specs.Broadcaster.Party.{IsBroadcaster}
use Rattle.bar_rules.specs.Broadcaster.Sending.{caster_step}
use Rattle.bar_wire.specs.Bodies.{evidence_in}
use Rattle.bar_rules.specs.Peer.Knowledge.{known}
use Rattle.bar_rules.specs.Peer.Log.{heard_in, kept, kept_in, Log, Entry, Ticked, Heard, Said, Kept, HasSigned}
use Rattle.bar_rules.specs.Member.{IsMember}
use Rattle.bar_rules.specs.Peer.Rules.{IsObedient}
use Rattle.bar_rules.specs.Peer.Run.{Out, step}
use Rattle.bar_rules.specs.Peer.Signing.{MaySay}
use Rattle.bar_rules.specs.Values.{datagram_bytes, datagram_of}
use Rattle.bar_rules.specs.World.World.{World, Move, TickOf, Deliver, Hostile, member, party_step, spelled, takes, takes_by, delivered, happens, run, IsGenuine, AllGenuine, IsUnforged, AreUnforged, Setup, IsSetup, initial}
use Rattle.bar_wire.specs.Datagram.{Datagram, Body, Evidence, Manifest, is_signed}
use Rattle.bar_wire.specs.Inputs.{Input}
use Rattle.bar_wire.specs.Inputs as event
use Rattle.std.proofs.Common.{◌≡◌, ℕ, zero, suc, Bool, true, false, List, [], ◌∷◌, ◌++◌, refl, sym, ap, ◌∙◌, subst, inl, inr, map, eqb, arith, ◌<◌, ◌≤◌, ◌+◌, length}
use Rattle.std.specs.Prelude.{Option, Some, None, ◌⊎◌, slice_get, slice_set, unwrap_or}
use Rattle.std.specs.List.{AllByRecursion, concat}
use Rattle.std.proofs.lemmas.Bool.{both_ways, ne_eqb}
use Rattle.std.specs.Bool.{then_some}
use Rattle.bar_laws.specs.Growing.{IsLater}
use Rattle.bar_laws.proofs.Logs.{no-value, option_or-cases, said-rule, spells, fits-reads, SaidIn, was-said}
use Rattle.bar_laws.proofs.Runs.{Adds, AddedBy, SentBy, IsSource, HeardIn, came, step-adds, step-obedient}
use Rattle.bar_laws.proofs.Fitting.{IsFair, IsOwnBody, IsOwnMessage, AreOwn, AllFit, own-inside, caster-casts, said-accepted, said-fits, step-fits}
use Rattle.bar_bytes.proofs.Lengths.{length-slice_set}

-- ---- lists

set-cases : {X : Type 0} (xs : List X) (p q : ℕ) (y z : X) → slice_get (slice_set xs p y) q ≡ Some z → ((q ≡ p) × (z ≡ y)) ⊎ (slice_get xs q ≡ Some z)
set-cases [] p q y z e = inr e
set-cases (x ∷ xs) zero zero y z e = inl (refl, cc)
set-cases (x ∷ xs) zero (suc q) y z e = inr e
set-cases (x ∷ xs) (suc p) zero y z e = inr e
set-cases (x ∷ xs) (suc p) (suc q) y z e = go (set-cases xs p q y z e)
  where
    go : ((q ≡ p) × (z ≡ y)) ⊎ (slice_get xs q ≡ Some z) → ((suc q ≡ suc p) × (z ≡ y)) ⊎ (slice_get xs q ≡ Some z)
    go (inl h) = inl (ap (λ n. suc n) h.0, h.1)
    go (inr h) = inr h

pub set-same : {X : Type 0} (xs : List X) (p : ℕ) (x y : X) → slice_get xs p ≡ Some x → slice_get (slice_set xs p y) p ≡ Some y
set-same [] p x y e = cc
set-same (z ∷ xs) zero x y e = refl
set-same (z ∷ xs) (suc p) x y e = set-same xs p x y e

get-below : {X : Type 0} (xs : List X) (p : ℕ) → p < length xs → (x : X) × (slice_get xs p ≡ Some x)
get-below [] p h = absurd (omega (arith, h))
get-below (x ∷ xs) zero h = (x, refl)
get-below (x ∷ xs) (suc p) h = get-below xs p (omega (arith, h))

-- ---- growth

signed-append : (new log : Log) (d : Datagram) → HasSigned log d → HasSigned (new ++ log) d
signed-append [] log d h = h
signed-append (Said c ∷ new) log d h = inr (signed-append new log d h)
signed-append (Ticked ∷ new) log d h = signed-append new log d h
signed-append (Heard c ∷ new) log d h = signed-append new log d h
signed-append (Kept q e ∷ new) log d h = signed-append new log d h

has-signed-later : (log before : Log) (d : Datagram) → IsLater log before → HasSigned before d → HasSigned log d
has-signed-later log before d later h = subst (λ l. HasSigned l d) (sym later.split) (signed-append later.new before d h)

said-signed : (log : Log) (d : Datagram) → SaidIn log d → HasSigned log d
said-signed [] d h = absurd h
said-signed (Said c ∷ log) d (inl e) = let same : c ≡ d = cc in inl same
said-signed (Said c ∷ log) d (inr h) = inr (said-signed log d h)
said-signed (Ticked ∷ log) d (inl e) = cc
said-signed (Ticked ∷ log) d (inr h) = said-signed log d h
said-signed (Heard c ∷ log) d (inl e) = cc
said-signed (Heard c ∷ log) d (inr h) = said-signed log d h
said-signed (Kept q f ∷ log) d (inl e) = cc
said-signed (Kept q f ∷ log) d (inr h) = said-signed log d h

-- each log of the second world has grown from one of the first
pub record IsWider (new old : World) : Type 0 where
  pub grown : (p : ℕ) (log : Log) → slice_get new.logs p ≡ Some log → (before : Log) × (slice_get old.logs p ≡ Some before) × IsLater log before

pub genuine-wider : (setup : Setup) (trusted : ℕ → Bool) (new old : World) (b : List ℕ) → IsWider new old → IsGenuine setup trusted old b → IsGenuine setup trusted new b
genuine-wider setup trusted new old b w g = λ d log reads sign trust accepted at.
    let h = w.grown d.message.from log at in
    has-signed-later log h.0 d h.2 (g d h.0 reads sign trust accepted h.1)

all-wider : (setup : Setup) (trusted : ℕ → Bool) (new old : World) (bs : List (List ℕ)) → IsWider new old → AllGenuine setup trusted old bs → AllGenuine setup trusted new bs
all-wider setup trusted new old [] w a = tt
all-wider setup trusted new old (b ∷ bs) w a = (genuine-wider setup trusted new old b w a.0, all-wider setup trusted new old bs w a.1)

unforged-wider : (setup : Setup) (trusted : ℕ → Bool) (new old : World) (b : List ℕ) → IsWider new old → IsUnforged setup trusted old b → IsUnforged setup trusted new b
unforged-wider setup trusted new old b w u = (genuine-wider setup trusted new old b w u.0, λ d reads. all-wider setup trusted new old (evidence_in d.message.body) w (u.1 d reads))

-- ---- what holds of a world

-- evidence that a log keeps
abbrev pub KeptIn : Log → List (List ℕ) → Type 0
KeptIn [] e = ⊥
KeptIn (Kept q f ∷ log) e = (f ≡ e) ⊎ KeptIn log e
KeptIn (Ticked ∷ log) e = KeptIn log e
KeptIn (Heard d ∷ log) e = KeptIn log e
KeptIn (Said d ∷ log) e = KeptIn log e

-- the log that a party should have: obedient, and the broadcaster's fair
abbrev pub IsProper : Setup → ℕ → Log → Type 0
IsProper setup p log =
    (eqb p 0 ≡ false → IsObedient (member setup p) log)
    × (eqb p 0 ≡ true → IsFair (member setup 0) setup.stream log × AreOwn setup.session setup.stream log)

pub record IsSound (setup : Setup) (trusted : ℕ → Bool) (w : World) : Type 0 where
  pub all : length w.logs ≡ setup.session.shape.peers + 1
  pub peers : (p : ℕ) (log : Log) → slice_get w.logs p ≡ Some log → p ≤ setup.session.shape.peers
  pub proper : (p : ℕ) (log : Log) → slice_get w.logs p ≡ Some log → IsProper setup p log
  pub heard : (p : ℕ) (log : Log) (d : Datagram) → slice_get w.logs p ≡ Some log → HeardIn log d → IsGenuine setup trusted w (datagram_bytes setup.session d)
  pub kept : (p : ℕ) (log : Log) (e : List (List ℕ)) → slice_get w.logs p ≡ Some log → KeptIn log e → AllGenuine setup trusted w e
  pub mine : (p : ℕ) (log : Log) (d : Datagram) → slice_get w.logs p ≡ Some log → SaidIn log d → IsOwnMessage setup.session setup.stream p d
  pub packets : AllByRecursion (λ (d : ℕ × List ℕ). IsUnforged setup trusted w d.1) w.packets

-- ---- one input of one party

pub kept-in : (log : Log) (q : ℕ) (e : List (List ℕ)) → kept log q ≡ Some e → KeptIn log e
kept-in [] q e h = cc
kept-in (x ∷ log) q e h = go (option_or-cases (kept log q) (kept_in q x) e h) (kept-in log q e)
  where
    more : (x : Entry) → KeptIn log e → KeptIn (x ∷ log) e
    more (Kept p f) k = inr k
    more Ticked k = k
    more (Heard d) k = k
    more (Said d) k = k

    new : (x : Entry) → kept_in q x ≡ Some e → KeptIn (x ∷ log) e
    new (Kept p f) k = go (eqb p q) k
      where
        go : (b : Bool) → then_some b f ≡ Some e → (f ≡ e) ⊎ KeptIn log e
        go true k = inl cc
        go false k = cc
    new Ticked k = cc
    new (Heard d) k = cc
    new (Said d) k = cc

    go : (kept log q ≡ Some e) ⊎ ((kept log q ≡ None) × (kept_in q x ≡ Some e)) → (kept log q ≡ Some e → KeptIn log e) → KeptIn (x ∷ log) e
    go (inl a) k = more x (k a)
    go (inr a) k = new x a.1

-- what arrived is unforged
abbrev pub CameUnforged : Setup → (ℕ → Bool) → World → Input → Type 0
CameUnforged setup trusted w event.Tick = Unit {0}
CameUnforged setup trusted w (event.Datagram bytes) = IsUnforged setup trusted w bytes

-- a step's facts, as the invariant takes them
pub record IsStep (setup : Setup) (p : ℕ) (log : Log) (i : Input) (out : Out) : Type 0 where
  pub adds : Adds (member setup p) log (came (member setup p) i) out
  pub proper : IsProper setup p out.state
  pub mine : (d : Datagram) → SaidIn out.state d → IsOwnMessage setup.session setup.stream p d
  pub fits : AllFit setup.session out.sends

module _ (setup : Setup) (trusted : ℕ → Bool) (w : World) (p : ℕ) (log : Log) (i : Input) (out : Out) (sound : IsSound setup trusted w) (at : slice_get w.logs p ≡ Some log)
    (fresh : CameUnforged setup trusted w i) (st : IsStep setup p log i out) where
  abbrev pub after : World
  after = record {
    logs = slice_set w.logs p out.state;
    played = slice_set w.played p (unwrap_or (slice_get w.played p) [] ++ concat out.contents);
    packets = w.packets ++ spelled setup.session out.sends;
  }

  grown-log : IsLater out.state log
  grown-log = record { new = st.adds.new; split = st.adds.split }

  pub wider : IsWider after w
  wider = record { grown = λ q l e. go q l (set-cases w.logs p q out.state l e) }
    where
      go : (q : ℕ) (l : Log) → ((q ≡ p) × (l ≡ out.state)) ⊎ (slice_get w.logs q ≡ Some l) → (before : Log) × (slice_get w.logs q ≡ Some before) × IsLater l before
      go q l (inl h) = (log, subst (λ z. slice_get w.logs z ≡ Some log) (sym h.0) at, subst (λ z. IsLater z log) (sym h.1) grown-log)
      go q l (inr h) = (l, h, record { new = []; split = refl })

  came-genuine : (d : Datagram) → came (member setup p) i ≡ Some d → IsGenuine setup trusted w (datagram_bytes setup.session d) × AllGenuine setup trusted w (evidence_in d.message.body)
  came-genuine d e = go i fresh e
    where
      go : (j : Input) → CameUnforged setup trusted w j → came (member setup p) j ≡ Some d → IsGenuine setup trusted w (datagram_bytes setup.session d) × AllGenuine setup trusted w (evidence_in d.message.body)
      go event.Tick f e = cc
      go (event.Datagram bytes) f e = (subst (λ b. IsGenuine setup trusted w b) (sym (spells setup.session bytes d e)) f.0, f.1 d e)

  heard-new : (new : Log) (d : Datagram) → AllByRecursion (AddedBy (member setup p) log (came (member setup p) i)) new → HeardIn (new ++ log) d → IsGenuine setup trusted w (datagram_bytes setup.session d)
  heard-new [] d a h = sound.heard p log d at h
  heard-new (x ∷ new) d a (inl e) = go x a.0 e
    where
      go : (x : Entry) → AddedBy (member setup p) log (came (member setup p) i) x → x ≡ Heard d → IsGenuine setup trusted w (datagram_bytes setup.session d)
      go (Heard c) b e = let same : c ≡ d = cc in (came-genuine d (subst (λ z. came (member setup p) i ≡ Some z) same b)).0
      go y b e = absurd (no-value (heard_in y) d refl (ap heard_in e))
  heard-new (x ∷ new) d a (inr h) = heard-new new d a.1 h

  sources : (e : List (List ℕ)) → AllByRecursion (IsSource (member setup p) log (came (member setup p) i)) e → AllGenuine setup trusted w e
  sources [] a = tt
  sources (b ∷ bs) a = (subst (λ z. IsGenuine setup trusted w z) (sym a.0.1) (go a.0.0 a.0.2), sources bs a.1)
    where
      go : (d : Datagram) → (came (member setup p) i ≡ Some d) ⊎ HeardIn log d → IsGenuine setup trusted w (datagram_bytes setup.session d)
      go d (inl e) = (came-genuine d e).0
      go d (inr h) = sound.heard p log d at h

  kept-new : (new : Log) (e : List (List ℕ)) → AllByRecursion (AddedBy (member setup p) log (came (member setup p) i)) new → KeptIn (new ++ log) e → AllGenuine setup trusted w e
  kept-new [] e a h = sound.kept p log e at h
  kept-new (Kept q f ∷ new) e a (inl h) = subst (λ z. AllGenuine setup trusted w z) h (go a.0)
    where
      go : AllByRecursion (IsSource (member setup p) log (came (member setup p) i)) f ⊎ ((d : Datagram) × (came (member setup p) i ≡ Some d) × (evidence_in d.message.body ≡ f)) → AllGenuine setup trusted w f
      go (inl s) = sources f s
      go (inr s) = subst (λ z. AllGenuine setup trusted w z) s.2 (came-genuine s.0 s.1).1
  kept-new (Kept q f ∷ new) e a (inr h) = kept-new new e a.1 h
  kept-new (Ticked ∷ new) e a h = kept-new new e a.1 h
  kept-new (Heard d ∷ new) e a h = kept-new new e a.1 h
  kept-new (Said d ∷ new) e a h = kept-new new e a.1 h

  kept-after : (e : List (List ℕ)) → KeptIn out.state e → AllGenuine setup trusted w e
  kept-after e h = kept-new st.adds.new e st.adds.added (subst (λ l. KeptIn l e) st.adds.split h)

  here : (l : Log) → slice_get after.logs p ≡ Some l → l ≡ out.state
  here l e = go l e (set-same w.logs p log out.state at)
    where
      go : (l : Log) → slice_get (slice_set w.logs p out.state) p ≡ Some l → slice_get (slice_set w.logs p out.state) p ≡ Some out.state → l ≡ out.state
      go l e f = cc

  -- a datagram that was said is genuine
  said-genuine : (d e : Datagram) → SaidIn out.state d → e ≡ d → (l : Log) → slice_get after.logs e.message.from ≡ Some l → HasSigned l e
  said-genuine d e s same l f =
      let own : e.message.from ≡ p = ap (λ z. z.message.from) same ∙ (st.mine d s).from in
      let is : l ≡ out.state = here l (subst (λ z. slice_get after.logs z ≡ Some l) own f) in
      subst (λ z. HasSigned z e) (sym is) (subst (λ z. HasSigned out.state z) (sym same) (said-signed out.state d s))

  sent-unforged : (s : ℕ × Datagram) → SentBy (member setup p) out.state s → ((d : Datagram) → datagram_of setup.session (datagram_bytes setup.session s.1) ≡ Some d → d ≡ s.1) → IsUnforged setup trusted after (datagram_bytes setup.session s.1)
  sent-unforged s (inl said) r = (
    λ d l reads sign trust accepted f. said-genuine s.1 d said (r d reads) l f,
    λ d reads. subst (λ z. AllGenuine setup trusted after z) (sym (ap (λ z. evidence_in z.message.body) (r d reads) ∙ own-inside setup.session setup.stream s.1.message.body (st.mine s.1 said).body)) tt,
  )
  sent-unforged s (inr plain) r = (
    λ d l reads sign trust accepted f. absurd (both_ways _ (ap (λ z. is_signed z.message.body) (r d reads) ∙ plain.1.unsigned_kind) sign),
    λ d reads. subst (λ z. AllGenuine setup trusted after z) (sym (ap (λ z. evidence_in z.message.body) (r d reads))) (go plain.1.evidence),
  )
    where
      go : (evidence_in s.1.message.body ≡ []) ⊎ ((q : ℕ) × (kept out.state q ≡ Some (evidence_in s.1.message.body))) → AllGenuine setup trusted after (evidence_in s.1.message.body)
      go (inl e) = subst (λ z. AllGenuine setup trusted after z) (sym e) tt
      go (inr k) = all-wider setup trusted after w (evidence_in s.1.message.body) wider (kept-after (evidence_in s.1.message.body) (kept-in out.state k.0 (evidence_in s.1.message.body) k.1))

  sends-unforged : (sends : List (ℕ × Datagram)) → AllByRecursion (SentBy (member setup p) out.state) sends
      → AllFit setup.session sends → AllByRecursion (λ (d : ℕ × List ℕ). IsUnforged setup trusted after d.1) (spelled setup.session sends)
  sends-unforged [] a r = tt
  sends-unforged (s ∷ sends) a r = (sent-unforged s a.0 (fits-reads setup.session s.1 r.0), sends-unforged sends a.1 r.1)

  old-packets : (packets : List (ℕ × List ℕ)) → AllByRecursion (λ (d : ℕ × List ℕ). IsUnforged setup trusted w d.1) packets → AllByRecursion (λ (d : ℕ × List ℕ). IsUnforged setup trusted after d.1) packets
  old-packets [] a = tt
  old-packets (d ∷ packets) a = (unforged-wider setup trusted after w d.1 wider a.0, old-packets packets a.1)

  both-packets : (xs ys : List (ℕ × List ℕ)) → AllByRecursion (λ (d : ℕ × List ℕ). IsUnforged setup trusted after d.1) xs → AllByRecursion (λ (d : ℕ × List ℕ). IsUnforged setup trusted after d.1) ys
      → AllByRecursion (λ (d : ℕ × List ℕ). IsUnforged setup trusted after d.1) (xs ++ ys)
  both-packets [] ys a b = b
  both-packets (x ∷ xs) ys a b = (a.0, both-packets xs ys a.1 b)

  -- one input of one party keeps the world sound
  pub after-sound : IsSound setup trusted after
  after-sound = record {
    all = length-slice_set w.logs p out.state ∙ sound.all;
    peers = λ q l e. pe q l (set-cases w.logs p q out.state l e);
    proper = λ q l e. ob q l (set-cases w.logs p q out.state l e);
    heard = λ q l d e h. genuine-wider setup trusted after w (datagram_bytes setup.session d) wider (he q l d (set-cases w.logs p q out.state l e) h);
    kept = λ q l e f h. all-wider setup trusted after w e wider (ke q l e (set-cases w.logs p q out.state l f) h);
    mine = λ q l d e s. mi q l d (set-cases w.logs p q out.state l e) s;
    packets = both-packets w.packets (spelled setup.session out.sends) (old-packets w.packets sound.packets) (sends-unforged out.sends st.adds.sent st.fits);
  }
    where
      pe : (q : ℕ) (l : Log) → ((q ≡ p) × (l ≡ out.state)) ⊎ (slice_get w.logs q ≡ Some l) → q ≤ setup.session.shape.peers
      pe q l (inr h) = sound.peers q l h
      pe q l (inl h) = subst (λ z. z ≤ setup.session.shape.peers) (sym h.0) (sound.peers p log at)

      ob : (q : ℕ) (l : Log) → ((q ≡ p) × (l ≡ out.state)) ⊎ (slice_get w.logs q ≡ Some l) → IsProper setup q l
      ob q l (inr h) = sound.proper q l h
      ob q l (inl h) = subst (λ z. IsProper setup q z) (sym h.1) (subst (λ z. IsProper setup z out.state) (sym h.0) st.proper)

      he : (q : ℕ) (l : Log) (d : Datagram) → ((q ≡ p) × (l ≡ out.state)) ⊎ (slice_get w.logs q ≡ Some l) → HeardIn l d → IsGenuine setup trusted w (datagram_bytes setup.session d)
      he q l d (inr h) k = sound.heard q l d h k
      he q l d (inl h) k = heard-new st.adds.new d st.adds.added (subst (λ z. HeardIn z d) (h.1 ∙ st.adds.split) k)

      ke : (q : ℕ) (l : Log) (e : List (List ℕ)) → ((q ≡ p) × (l ≡ out.state)) ⊎ (slice_get w.logs q ≡ Some l) → KeptIn l e → AllGenuine setup trusted w e
      ke q l e (inr h) k = sound.kept q l e h k
      ke q l e (inl h) k = kept-after e (subst (λ z. KeptIn z e) h.1 k)

      mi : (q : ℕ) (l : Log) (d : Datagram) → ((q ≡ p) × (l ≡ out.state)) ⊎ (slice_get w.logs q ≡ Some l) → SaidIn l d → IsOwnMessage setup.session setup.stream q d
      mi q l d (inr h) s = sound.mine q l d h s
      mi q l d (inl h) s = subst (λ z. IsOwnMessage setup.session setup.stream z d) (sym h.0) (st.mine d (subst (λ z. SaidIn z d) h.1 s))

-- each party has a log
pub has-log : (setup : Setup) (trusted : ℕ → Bool) (w : World) (p : ℕ) → IsSound setup trusted w → p ≤ setup.session.shape.peers → (log : Log) × (slice_get w.logs p ≡ Some log)
has-log setup trusted w p sound low = let all : length w.logs ≡ setup.session.shape.peers + 1 = sound.all in get-below w.logs p (omega (arith, all, low))

-- ---- every list of moves

-- what a step of each party is, if its log is as it should be
abbrev pub StepsKeep : Setup → Type 0
StepsKeep setup = (p : ℕ) (log : Log) (i : Input) → p ≤ setup.session.shape.peers → IsProper setup p log → IsStep setup p log i (party_step setup p log i)

pub takes-sound : (setup : Setup) (trusted : ℕ → Bool) (w : World) (p : ℕ) (i : Input) → StepsKeep setup → IsSound setup trusted w → CameUnforged setup trusted w i → IsSound setup trusted (takes setup w p i)
takes-sound setup trusted w p i laws sound fresh = go (slice_get w.logs p) refl
  where
    go : (o : Option Log) → slice_get w.logs p ≡ o → IsSound setup trusted (takes_by setup w p i o)
    go None e = sound
    go (Some log) e =
        after-sound setup trusted w p log i (party_step setup p log i) sound e fresh
        (laws p log i (sound.peers p log e) (sound.proper p log e))

pub packets-at : (setup : Setup) (trusted : ℕ → Bool) (w : World) (packets : List (ℕ × List ℕ)) (k : ℕ) (d : ℕ × List ℕ) → AllByRecursion (λ (d : ℕ × List ℕ). IsUnforged setup trusted w d.1) packets → slice_get packets k ≡ Some d → IsUnforged setup trusted w d.1
packets-at setup trusted w [] k d a e = cc
packets-at setup trusted w (x ∷ packets) zero d a e = let same : x ≡ d = cc in subst (λ z. IsUnforged setup trusted w z.1) same a.0
packets-at setup trusted w (x ∷ packets) (suc k) d a e = packets-at setup trusted w packets k d a.1 e

pub deliver-sound : (setup : Setup) (trusted : ℕ → Bool) (w : World) (k : ℕ) → StepsKeep setup → IsSound setup trusted w → IsSound setup trusted (happens setup w (Deliver k))
deliver-sound setup trusted w k laws sound = go (slice_get w.packets k) refl
  where
    go : (o : Option (ℕ × List ℕ)) → slice_get w.packets k ≡ o → IsSound setup trusted (delivered setup w o)
    go None e = sound
    go (Some d) e = takes-sound setup trusted w d.0 (event.Datagram d.1) laws sound (packets-at setup trusted w w.packets k d sound.packets e)

-- whatever the moves are, if nothing is forged the world is sound
pub run-sound : (setup : Setup) (trusted : ℕ → Bool) (w : World) (moves : List Move) → StepsKeep setup → IsSound setup trusted w → AreUnforged setup trusted w moves → IsSound setup trusted (run setup w moves)
run-sound setup trusted w [] laws sound u = sound
run-sound setup trusted w (TickOf p ∷ ms) laws sound u = run-sound setup trusted (happens setup w (TickOf p)) ms laws (takes-sound setup trusted w p event.Tick laws sound tt) u
run-sound setup trusted w (Deliver k ∷ ms) laws sound u = run-sound setup trusted (happens setup w (Deliver k)) ms laws (deliver-sound setup trusted w k laws sound) u
run-sound setup trusted w (Hostile to b ∷ ms) laws sound u = run-sound setup trusted (happens setup w (Hostile to b)) ms laws (takes-sound setup trusted w to (event.Datagram b) laws sound u.0) u.1

-- a peer's step is such a step
peer-keeps : (setup : Setup) (p : ℕ) (log : Log) (i : Input) → eqb p 0 ≡ false → IsMember (member setup p) → IsObedient (member setup p) log → IsStep setup p log i (step (member setup p) log i)
peer-keeps setup p log i n is h =
    let o : IsObedient (member setup p) (step (member setup p) log i).state = step-obedient (member setup p) log i h in
    record { adds = step-adds (member setup p) log i; proper = (λ z. o, λ z. absurd (both_ways _ n z)); mine = λ d s. own o d s; fits = step-fits (member setup p) log i is h }
  where
    body : (before : Log) (to : ℕ) (b : Body) → MaySay (member setup p) (known (member setup p) before) to b → IsOwnBody setup.session setup.stream b
    body before to (Evidence ds) rule = absurd rule
    body before to (Manifest r ds) rule = absurd rule
    body before to _ rule = tt

    own : IsObedient (member setup p) (step (member setup p) log i).state → (d : Datagram) → SaidIn (step (member setup p) log i).state d → IsOwnMessage setup.session setup.stream p d
    own o d s =
        let w = was-said (step (member setup p) log i).state d s in
        let r = (said-rule (member setup p) (step (member setup p) log i).state d w o).rule in
        record {
          from = r.mine;
          body = body w.before d.message.to d.message.body r.rule;
          fits = said-fits (member setup p) (step (member setup p) log i).state d is o s;
          accepted = said-accepted (member setup p) (step (member setup p) log i).state d is o s;
        }

-- the broadcaster's step is such a step too
caster-keeps : (setup : Setup) (log : Log) (i : Input) → IsBroadcaster (member setup 0) → IsFair (member setup 0) setup.stream log → AreOwn setup.session setup.stream log
    → IsStep setup 0 log i (caster_step (member setup 0) setup.stream log i)
caster-keeps setup log i s fair own =
    let c = caster-casts (member setup 0) setup.stream log i s own fair in
    record { adds = c.adds; proper = (λ n. cc, λ z. (c.fair, c.own)); mine = λ d said. (c.own d said).0; fits = c.fits }

-- ---- casts

pub cast-member : (setup : Setup) (p : ℕ) → IsSetup setup → 1 ≤ p → p ≤ setup.session.shape.peers → IsMember (member setup p)
cast-member setup p is low high = record { session = is.session; peer = (omega (arith, low), high); fits = is.fits p high }

pub cast-caster : (setup : Setup) → IsSetup setup → IsBroadcaster (member setup 0)
cast-caster setup is = record { session = is.session; party = refl; fits = is.fits 0 (omega arith) }

-- each party's step, if the session fits each party's secret
pub steps-keep : (setup : Setup) → IsSetup setup → StepsKeep setup
steps-keep setup is zero log i low o = let f = o.1 refl in caster-keeps setup log i (cast-caster setup is) f.0 f.1
steps-keep setup is (suc p) log i low o =
    let n : eqb (suc p) 0 ≡ false = ne_eqb (suc p) 0 (λ z. absurd (omega arith)) in
    let out : party_step setup (suc p) log i ≡ step (member setup (suc p)) log i = rw n refl in
    subst (λ z. IsStep setup (suc p) log i z) (sym out) (peer-keeps setup (suc p) log i n (cast-member setup (suc p) is (omega arith) low) (o.0 n))

-- the world at the beginning is sound
opened-log : (secrets : List (List ℕ)) (p : ℕ) (log : Log) → ◌≡◌ {A = Option Log} (slice_get (map (λ secret. []) secrets) p) (Some log) → ◌≡◌ {A = Log} [] log
opened-log [] p log e = cc
opened-log (s ∷ secrets) zero log e = cc
opened-log (s ∷ secrets) (suc p) log e = opened-log secrets p log e

opened-length : (secrets : List (List ℕ)) → length (map {A = List ℕ} {B = Log} (λ secret. []) secrets) ≡ length secrets
opened-length [] = refl
opened-length (s ∷ secrets) = ap (λ n. suc n) (opened-length secrets)

opened-few : (secrets : List (List ℕ)) (p : ℕ) (log : Log) → ◌≡◌ {A = Option Log} (slice_get (map (λ secret. []) secrets) p) (Some log) → p < length secrets
opened-few [] p log e = cc
opened-few (s ∷ secrets) zero log e = omega arith
opened-few (s ∷ secrets) (suc p) log e = let deep : p < length secrets = opened-few secrets p log e in omega (arith, deep)

pub opened-sound : (setup : Setup) (trusted : ℕ → Bool) → length setup.secrets ≡ setup.session.shape.peers + 1 → IsSound setup trusted (initial setup)
opened-sound setup trusted all = record {
  all = opened-length setup.secrets ∙ all;
  peers = λ p log e. (let few : p < length setup.secrets = opened-few setup.secrets p log e in omega (arith, few, all));
  proper = λ p log e. subst (λ l. IsProper setup p l) (opened-log setup.secrets p log e) (λ z. tt, λ z. (tt, λ d s. absurd s));
  heard = λ p log d e h. absurd (subst (λ l. HeardIn l d) (sym (opened-log setup.secrets p log e)) h);
  kept = λ p log ev e h. absurd (subst (λ l. KeptIn l ev) (sym (opened-log setup.secrets p log e)) h);
  mine = λ p log d e h. absurd (subst (λ l. SaidIn l d) (sym (opened-log setup.secrets p log e)) h);
  packets = tt;
}

-- ---- whatever the moves are

-- nobody is trusted
abbrev pub nobody : ℕ → Bool
nobody p = false

pub nobody-genuine : (setup : Setup) (w : World) (b : List ℕ) → IsGenuine setup nobody w b
nobody-genuine setup w b = λ d log reads sign trust. cc

pub all-nobody : (setup : Setup) (w : World) (bs : List (List ℕ)) → AllGenuine setup nobody w bs
all-nobody setup w [] = tt
all-nobody setup w (b ∷ bs) = (nobody-genuine setup w b, all-nobody setup w bs)

-- How an entry changes a log of the broadcaster: what was said, what is kept, and the table.
use Rattle.std.proofs.Common.{◌≡◌, ◌≢◌, ◌∙◌, ℕ, ◌+◌, ◌<◌, ◌≤◌, ◌==◌, Bool, true, false, List, [], ◌∷◌, Option, Some, None, is_some, is_none}
use Rattle.std.proofs.Common.{refl, sym, ap, subst, arith, inl, inr}
use Rattle.std.specs.Prelude.{◌&&◌, Contains, filter, nat_le, option_map, if◌then◌else◌}
use Rattle.std.specs.Bool.{then_some}
use Rattle.std.specs.Option.{option_or}
use Rattle.std.proofs.lemmas.Bool.{and_cases, and_from, and_left, and_parts, and_right, cases_eq, eq-eqb, eqb-true, eqb-false, le-leb}
use Rattle.std.proofs.lemmas.Bool.{leb-true, leb-false, lt-leb, ne_eqb}
use Rattle.std.proofs.lemmas.List.Elements.{Contains-append_right}
use Rattle.bar_window.proofs.Sets.{same_tests}
use Rattle.bar_wire.specs.Datagram.{Message, Datagram, kind_number, round_of}
use Rattle.bar_wire.specs.Evidence.{evidence_bytes}
use Rattle.bar_wire.specs.Kinds.{code_of}
use Rattle.bar_wire.specs.declared.kind.Kind.{Kind}
use Rattle.bar_rules.specs.Broadcaster.Sending.{evicted, served}
use Rattle.bar_rules.specs.Broadcaster.Stream.{caster_table, manifest_list, peers_of}
use Rattle.bar_session.specs.Time.{round_after, slot_after}
use Rattle.bar_rules.specs.Member.{Member, Session}
use Rattle.bar_rules.specs.Peer.Log.{Log, Entry, Ticked, Heard, Said, Kept, first_said, has_kind_and_round, if_passes, kept, kept_in}
use Rattle.bar_rules.specs.Peer.Log.{round_now, said_in, ticks}
use Rattle.bar_laws.specs.Broadcasting.{SignsOnce}
use Rattle.bar_caster.specs.declared.evictions.Evictions.{Evictions}
use Rattle.bar_caster.specs.Code.Evictions.{AreOfLog}
use Rattle.bar_caster.specs.Code.Ticking.{begins_round, begun_round}
use Rattle.bar_bytes.proofs.Options.{or-none}

-- ---- what was said

-- an entry that isn't a signed datagram doesn't change what was said
pub same_said : (p : Message → Bool) (x : Entry) (log : Log) → said_in x ≡ None → first_said p (x ∷ log) ≡ first_said p log
same_said p x log none = (λ i. option_or (first_said p log) (if_passes p (none i))) ∙ or-none (first_said p log)

-- nor does a datagram that doesn't pass the test
pub said_other : (p : Message → Bool) (d : Datagram) (log : Log) → p d.message ≡ false → first_said p (Said d ∷ log) ≡ first_said p log
said_other p d log other = (λ i. option_or (first_said p log) (then_some (other i) d)) ∙ or-none (first_said p log)

-- if none was said before, the datagram is the first
pub said_first : (p : Message → Bool) (d : Datagram) (log : Log) → first_said p log ≡ None → p d.message ≡ true
    → first_said p (Said d ∷ log) ≡ Some d
said_first p d log none passes = λ i. option_or (none i) (then_some (passes i) d)

abbrev IsThere : (Message → Bool) → Log → Datagram → Type 0
IsThere p log d = Contains log (Said d) × (p d.message ≡ true)

now_there : (p : Message → Bool) (log : Log) (e : Entry) (d : Datagram) → if_passes p (said_in e) ≡ Some d → IsThere p (e ∷ log) d
now_there p log Ticked d is = absurd (cc)
now_there p log (Heard f) d is = absurd (cc)
now_there p log (Kept q evidence) d is = absurd (cc)
now_there p log (Said f) d is = one (p f.message) refl is
  where
    one : (b : Bool) → p f.message ≡ b → then_some b f ≡ Some d → IsThere p (Said f ∷ log) d
    one true passes is =
        let same : f ≡ d = cc in
        ((0, omega arith, ap Said same), subst (λ e. p e.message ≡ true) same passes)
    one false passes is = absurd (cc)

-- the log contains the first datagram that passes, and it passes
pub said_there : (p : Message → Bool) (log : Log) (d : Datagram) → first_said p log ≡ Some d → Contains log (Said d) × (p d.message ≡ true)
said_there p [] d is = absurd (cc)
said_there p (e ∷ log) d is = by (first_said p log) (now_there p log e d) (λ was. earlier (said_there p log d was)) is
  where
    earlier : IsThere p log d → IsThere p (e ∷ log) d
    earlier h = (Contains-append_right (e ∷ []) log (Said d) h.0, h.1)

    by : (o : Option Datagram) → (if_passes p (said_in e) ≡ Some d → IsThere p (e ∷ log) d) → (o ≡ Some d → IsThere p (e ∷ log) d)
        → option_or o (if_passes p (said_in e)) ≡ Some d → IsThere p (e ∷ log) d
    by None now before is = now is
    by (Some f) now before is = before is

-- nothing was said of a round that hasn't begun
pub not_said_yet : (me : Member) (stream : List ℕ) (log : Log) (kind : Kind) (round : ℕ) → SignsOnce me stream log → round_now log < round
    → first_said (has_kind_and_round kind round) log ≡ None
not_said_yet me stream log kind round h later = go (first_said (has_kind_and_round kind round) log) refl
  where
    go : (o : Option Datagram) → first_said (has_kind_and_round kind round) log ≡ o → o ≡ None
    go None is = refl
    go (Some d) is =
        let there = said_there (has_kind_and_round kind round) log d is in
        let same : round_of d.message.body ≡ round =
        eqb-true (round_of d.message.body) round
        (and_parts (kind_number d.message.body == code_of kind) (round_of d.message.body == round) there.1).1 in
        absurd (omega (arith, same, (h.each d there.0).begun, later))

-- ---- what is kept

-- an entry without evidence doesn't change what is kept
pub same_kept : (x : Entry) (log : Log) → ((q : ℕ) → kept_in q x ≡ None) → (q : ℕ) → kept (x ∷ log) q ≡ kept log q
same_kept x log none q = (λ i. option_or (kept log q) (none q i)) ∙ or-none (kept log q)

pub same_evicted : (s : Session) (x : Entry) (log : Log) → ((q : ℕ) → kept_in q x ≡ None) → evicted s (x ∷ log) ≡ evicted s log
same_evicted s x log none = λ i. filter (λ q. is_some (same_kept x log none q i)) (peers_of s)

pub same_served : (s : Session) (x : Entry) (log : Log) → ((q : ℕ) → kept_in q x ≡ None) → served s (x ∷ log) ≡ served s log
same_served s x log none = λ i. filter (λ q. is_none (same_kept x log none q i)) (peers_of s)

pub same_evictions : (s : Session) (e : Evictions) (x : Entry) (log : Log) → ((q : ℕ) → kept_in q x ≡ None) → AreOfLog s e log
    → AreOfLog s e (x ∷ log)
same_evictions s e x log none h = record {
  peers = h.peers;
  evidence = λ p peer. h.evidence p peer ∙ ap (option_map evidence_bytes) (sym (same_kept x log none p));
  others = h.others;
  list = h.list ∙ sym (same_evicted s x log none);
}

-- ---- the table

-- if the round is the same, so are the lists
pub same_table : (me : Member) (stream : List ℕ) (more log : Log) → round_now more ≡ round_now log → (round : ℕ)
    → caster_table me stream more round ≡ caster_table me stream log round
same_table me stream more log same round =
    let list : List (List ℕ) = manifest_list me.session stream round in
    λ i. then_some (nat_le 1 round && (nat_le round (same i) && nat_le round me.session.shape.rounds)) list

-- a tick that begins no round of the session adds no list
pub table_ticked : (me : Member) (stream : List ℕ) (log : Log) → begins_round me.session (ticks log) ≡ false → (round : ℕ)
    → caster_table me stream (Ticked ∷ log) round ≡ caster_table me stream log round
table_ticked me stream log begins round = elim (and_cases _ _ begins) [
  | inl within ↦
      let inside : slot_after (ticks log + 1) ≡ 0 → ⊥ = eqb-false _ _ within in
      same_table me stream (Ticked ∷ log) log (stays (ticks log) inside) round
  | inr past ↦
      let over : me.session.shape.rounds < round_after (ticks log + 1) = leb-false _ _ past in
      λ i. then_some (nat_le 1 round && tests over i) (manifest_list me.session stream round)
]
  where
    stays : (t : ℕ) → (slot_after (t + 1) ≡ 0 → ⊥) → round_after (t + 1) ≡ round_after t
    stays t inside = elim (cases_eq (slot_after (t + 1)) 0) [
      | inl zero ↦ absurd (inside zero)
      | inr some ↦ omega arith
    ]

    rounds : ℕ
    rounds = me.session.shape.rounds

    tests : rounds < round_after (ticks log + 1)
        → (nat_le round (round_now (Ticked ∷ log)) && nat_le round rounds) ≡ (nat_le round (round_now log) && nat_le round rounds)
    tests over = same_tests _ _
        (λ h. let p = and_parts _ _ h in
        let low : round ≤ me.session.shape.rounds = leb-true _ _ p.1 in
        and_from _ _ (le-leb _ _ (omega arith)) p.1)
        (λ h. let p = and_parts _ _ h in
        let low : round ≤ me.session.shape.rounds = leb-true _ _ p.1 in
        and_from _ _ (le-leb _ _ (omega arith)) p.1)

-- the round that begins is the next one
pub next_round : (s : Session) (log : Log) → begins_round s (ticks log) ≡ true → round_now (Ticked ∷ log) ≡ round_now log + 1
next_round s log begins =
    let first : slot_after (ticks log + 1) ≡ 0 = eqb-true _ _ (and_parts _ _ begins).0 in
    omega arith

-- it is a round of the session
pub is_round : (s : Session) (log : Log) → begins_round s (ticks log) ≡ true → round_now (Ticked ∷ log) ≤ s.shape.rounds
is_round s log begins = leb-true _ _ (and_parts _ _ begins).1

-- it has no list before
pub no_list_yet : (me : Member) (stream : List ℕ) (log : Log) (round : ℕ) → round_now log < round → caster_table me stream log round ≡ None
no_list_yet me stream log round later =
    let rounds : ℕ = me.session.shape.rounds in
    let late : (nat_le 1 round && (nat_le round (round_now log) && nat_le round rounds)) ≡ false =
    and_right _ _ (and_left _ _ (lt-leb round (round_now log) later)) in
    λ i. then_some (late i) (manifest_list me.session stream round)

-- the tick that begins a round of the session adds the round's list
pub table_begun : (me : Member) (stream : List ℕ) (log : Log) → begins_round me.session (ticks log) ≡ true → (round : ℕ)
    → caster_table me stream (begun_round me stream log) round
    ≡ (if round == round_now (Ticked ∷ log) then Some (manifest_list me.session stream round) else caster_table me stream log round)
table_begun me stream log begins round = elim (cases_eq round now) [
  | inl this ↦
      let low : nat_le 1 round ≡ true = le-leb _ _ (omega arith) in
      let begun : nat_le round (round_now (begun_round me stream log)) ≡ true = le-leb _ _ (omega arith) in
      let high : nat_le round rounds ≡ true = le-leb _ _ (omega (arith, is_round me.session log begins)) in
      (λ i. then_some (and_from _ _ low (and_from _ _ begun high) i) list)
      ∙ sym (λ i. if eq-eqb _ _ this i then Some list else caster_table me stream log round)
  | inr other ↦
      (λ i. then_some (nat_le 1 round && (tests other i && nat_le round rounds)) list)
      ∙ sym (λ i. if ne_eqb _ _ other i then Some list else caster_table me stream log round)
]
  where
    now : ℕ
    now = round_now (Ticked ∷ log)

    rounds : ℕ
    rounds = me.session.shape.rounds

    list : List (List ℕ)
    list = manifest_list me.session stream round

    tests : (round ≡ now → ⊥) → nat_le round (round_now (begun_round me stream log)) ≡ nat_le round (round_now log)
    tests other =
        let next : now ≡ round_now log + 1 = next_round me.session log begins in
        let apart : round ≢ now = other in
        same_tests _ _
        (λ h. let early : round ≤ round_now (begun_round me stream log) = leb-true _ _ h in le-leb _ _ (omega (arith, early, next, apart)))
        (λ h. let early : round ≤ round_now log = leb-true _ _ h in le-leb _ _ (omega (arith, early)))

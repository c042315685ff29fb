-- The memory after a datagram was heard.
use Rattle.std.proofs.Common.{◌≡◌, ◌≢◌, ◌∙◌, ◌==◌, ◌+◌, ◌-◌, ◌≤◌, ℕ, Bool, true, false, List, ◌∷◌, length, Some, None, is_some, sym, ap, refl, subst, arith, option_map, option_and_then, if◌then◌else◌}
use Rattle.std.specs.Borrow.{Bor}
use Rattle.std.specs.Bool.{then_some}
use Rattle.std.specs.Option.{option_or}
use Rattle.std.proofs.lemmas.Bool.{eqb-true, ne_eqb, false≢true}
use Rattle.std.proofs.lemmas.Option.{same_Some}
use Rattle.bar_window.specs.declared.exchange.Exchange.{Exchange}
use Rattle.bar_window.specs.declared.exchange.Role.{Role}
use Rattle.bar_window.specs.declared.exchange.Role.TheVariants.{Initiator, Responder}
use Rattle.bar_window.specs.declared.exchange.XKind.{XKind}
use Rattle.bar_window.specs.declared.exchange.XKind.TheVariants.{Balanced, Push}
use Rattle.bar_wire.specs.Datagram.{Datagram, Body, Manifest, Block, Request, Response, Divulge, Query, Reply, Case, KeyReq, Key, Evidence, Evict, Place, kind_of, place_of, is_of}
use Rattle.bar_wire.specs.Evidence.{evidence_bytes}
use Rattle.bar_wire.specs.Grammar.{IsDatagram, SpellsDatagram, MaySend}
use Rattle.bar_wire.specs.Limits.{everyone}
use Rattle.bar_wire.specs.Code.Views.{plain}
use Rattle.bar_wire.specs.declared.kind.Kind.{Kind}
use Rattle.bar_wire.specs.declared.kind.Kind.TheVariants as kinds
use Rattle.bar_wire.specs.declared.shape.Shape.{Shape}
use Rattle.bar_wire.specs.declared.view.Body.{Body as RawBody}
use Rattle.bar_wire.specs.declared.view.Body.TheVariants as raw
use Rattle.bar_session.specs.Time.{round_after}
use Rattle.bar_rules.specs.Member.{Member}
use Rattle.bar_rules.specs.Values.{datagram_bytes}
use Rattle.bar_rules.specs.Peer.Admission.{is_to_all}
use Rattle.bar_rules.specs.Peer.Exchanges.{role_of, request_kind}
use Rattle.bar_rules.specs.Peer.Knowledge.{Knowledge, known, answer_deadline, learned, with_heard}
use Rattle.bar_rules.specs.Peer.Log.{Log, Heard, lists_of}
use Rattle.bar_rules.specs.Peer.Rules.{IsObedient}
use Rattle.bar_rules.specs.Peer.Sizes.{largest}
use Rattle.bar_laws.specs.Knowing.{EntryIsLearned}
use Rattle.bar_laws.specs.Rooms.{LogLeavesRoom, asking_at, asking_of, is_kept}
use Rattle.bar_laws.specs.Sizes.{LogFitsRooms}
use Rattle.bar_laws.specs.Soundness.{LogIsSound}
use Rattle.bar_ledger.specs.Code.Recalls.{Recalls}
use Rattle.bar_store.specs.declared.store.Store.{Store}
use Rattle.bar_store.specs.Code.Holds.{Holds}
use Rattle.bar_bytes.specs.Code.Rooms.{kept_in}
use Rattle.bar_bytes.proofs.Options.{some-mapped}
use Rattle.bar_exchange.specs.Code.Keeping.{IsAdmittedNow}
use Rattle.bar_peer.specs.declared.credentials.Credentials.{Credentials}
use Rattle.bar_peer.specs.declared.memory.Memory.{Memory}
use Rattle.bar_peer.specs.Code.Evictions.{was_heard, is_named}
use Rattle.bar_peer.specs.Code.Hearing.{LeavesRoomFor}
use Rattle.bar_peer.specs.Code.Memory.{IsMemoryOf, Represents, member_of}
use Rattle.bar_peer.specs.Code.Repeats.{is_of_exchange}
use Rattle.bar_peer.proofs.Hearing.Exchanges.{IsHere, is_here, unseated}
use Rattle.bar_peer.proofs.Hearing.Keys.{admitted_for}
use Rattle.bar_peer.proofs.Hearing.RoomLeft.{asking_by, room-left}

-- ---- representing a log

-- if a memory represents the knowledge after a datagram, it represents the log with this datagram
pub heard_tells : EntryIsLearned → (old new : Memory) (log : Log) (d : Datagram) → new.who ≡ old.who
    → IsMemoryOf (member_of old.who) (with_heard (member_of old.who) d (known (member_of old.who) log)) new → Represents (Heard d ∷ log) new
heard_tells entry old new log d who h =
    subst (λ (w : Credentials). IsMemoryOf (member_of w) (known (member_of w) (Heard d ∷ log)) new) (sym who)
    (subst (λ (k : Knowledge). IsMemoryOf (member_of old.who) k new) (sym (entry (member_of old.who) log (Heard d))) h)

pub admitted_now : LogFitsRooms → (me : Member) (log : Log) (d : Datagram) (bytes : List ℕ) → SpellsDatagram me.session.shape d bytes
    → IsObedient me (Heard d ∷ log) → IsAdmittedNow me (known me log) d bytes
admitted_now fits me log d bytes spells obeys = record {
  spelled = spells.fits;
  admitted = obeys.0.0;
  bytes_are = spells.is;
  fits = subst (λ (b : List ℕ). length b ≤ largest me.session.shape (kind_of d.message.body)) (sym spells.is)
      (fits me (Heard d ∷ log) obeys d (0, omega arith, refl));
}

-- ---- room for a request

abbrev is_asking : Kind → Bool
is_asking kinds.Request = true
is_asking kinds.Query = true
is_asking _ = false

asks : (kind : XKind) → is_asking (request_kind kind) ≡ true
asks Balanced = refl
asks Push = refl

-- Properties of a request: its initiator sends it to one other party, and it takes a seat.
record Asks (me : Member) (k : Knowledge) (d : Datagram) (b : Body) : Type 0 where
  apart : (s : Shape) (from to : ℕ) → MaySend s (kind_of b) from to → from ≢ to
  to_one : is_to_all b ≡ false
  initiator : (from to : ℕ) (p : Place) → place_of (record { from = from; to = to; body = b }) ≡ Some p → p.exchange.initiator ≡ from
  seat : (x : Exchange) → (learned me d k b).seat x
      ≡ option_or (k.seat x) (then_some (is_of (request_kind x.kind) x Initiator d.message) (k.asked x.kind x.round))

asking : (me : Member) (k : Knowledge) (d : Datagram) (b : Body) → is_asking (kind_of b) ≡ true → Asks me k d b
asking me k d (Request r s c) e = record {
  apart = λ s from to m. m.2;
  to_one = refl;
  initiator = λ from to p at. ap (λ (p : Place). p.exchange.initiator) (sym (same_Some _ p at));
  seat = λ x. refl;
}
asking me k d (Query r s y o) e = record {
  apart = λ s from to m. m.2;
  to_one = refl;
  initiator = λ from to p at. ap (λ (p : Place). p.exchange.initiator) (sym (same_Some _ p at));
  seat = λ x. refl;
}
asking me k d (Manifest r ds) e = absurd (false≢true e)
asking me k d (Block u b) e = absurd (false≢true e)
asking me k d (Response r hb) e = absurd (false≢true e)
asking me k d (Divulge r n ha) e = absurd (false≢true e)
asking me k d (Reply r w g z) e = absurd (false≢true e)
asking me k d (Case c) e = absurd (false≢true e)
asking me k d (KeyReq r kind role) e = absurd (false≢true e)
asking me k d (Key g) e = absurd (false≢true e)
asking me k d (Evidence ds) e = absurd (false≢true e)
asking me k d (Evict r ps) e = absurd (false≢true e)

pub leaves_room : LogLeavesRoom → LogIsSound → EntryIsLearned → (me : Member) (log : Log) (d : Datagram) → IsDatagram me.session.shape d
    → IsObedient me (Heard d ∷ log) → LeavesRoomFor me (known me log) d
leaves_room leaves sound entry me log d fits obeys x is =
    let k : Knowledge = known me log in
    let after : Knowledge = known me (Heard d ∷ log) in
    let here : IsHere d.message (request_kind x.kind) x Initiator = is_here d.message (request_kind x.kind) x Initiator is in
    let a : Asks me k d d.message.body = asking me k d d.message.body (ap is_asking here.kind_is ∙ asks x.kind) in
    let none : k.seat x ≡ None = unseated me k d (sound me log obeys.1) obeys.0.0 x is in
    let to = d.message.to in
    let mine : to ≡ me.party =
    eqb-true to me.party ((λ i. if sym a.to_one i then to == everyone else to == me.party) ∙ admitted_for me k d obeys.0.0)
    in
    let from : x.initiator ≡ d.message.from = a.initiator d.message.from to _ here.place_is in
    let apart : x.initiator ≢ me.party =
    λ e. a.apart me.session.shape d.message.from to fits.may_send (sym from ∙ e ∙ sym mine)
    in
    let role : role_of me x ≡ Responder = ap (λ b. if b then Initiator else Responder) (ne_eqb x.initiator me.party apart) in
    let free : is_kept me k x ≡ false =
    some-mapped _ (asking_of k x (role_of me x))
    ∙ ap (λ (r : Role). is_some (asking_of k x r)) role
    ∙ ap (λ o. is_some (option_and_then asking_at o)) none
    in
    let seat : is_some (after.seat x) ≡ true =
    ap (λ (k : Knowledge). is_some (k.seat x)) (entry me log (Heard d))
    ∙ ap (λ o. is_some o) (a.seat x)
    ∙ (λ i. is_some (option_or (none i) (then_some (is i) (k.asked x.kind x.round))))
    in
    let kept : is_kept me after x ≡ true =
    some-mapped _ (asking_of after x (role_of me x))
    ∙ ap (λ (r : Role). is_some (asking_of after x r)) role
    ∙ asking_by me after (sound me (Heard d ∷ log) obeys) x Responder seat
    in
    room-left leaves sound me log (Heard d) obeys x free kept

-- ---- what a datagram of an exchange doesn't change

record Stays (k new : Knowledge) : Type 0 where
  ticks : new.ticks ≡ k.ticks
  manifest : new.manifest ≡ k.manifest
  has_evict : new.has_evict ≡ k.has_evict
  announced : new.is_announced ≡ k.is_announced
  evidence : new.evidence ≡ k.evidence

stays : (me : Member) (d : Datagram) (k : Knowledge) (b : Body) → is_of_exchange b ≡ true → Stays k (learned me d k b)
stays me d k (Request r s c) e = record { ticks = refl; manifest = refl; has_evict = refl; announced = refl; evidence = refl }
stays me d k (Response r hb) e = record { ticks = refl; manifest = refl; has_evict = refl; announced = refl; evidence = refl }
stays me d k (Divulge r n ha) e = record { ticks = refl; manifest = refl; has_evict = refl; announced = refl; evidence = refl }
stays me d k (Query r s y o) e = record { ticks = refl; manifest = refl; has_evict = refl; announced = refl; evidence = refl }
stays me d k (Reply r w g z) e = record { ticks = refl; manifest = refl; has_evict = refl; announced = refl; evidence = refl }
stays me d k (Case c) e = record { ticks = refl; manifest = refl; has_evict = refl; announced = refl; evidence = refl }
stays me d k (KeyReq r kind role) e = record { ticks = refl; manifest = refl; has_evict = refl; announced = refl; evidence = refl }
stays me d k (Key g) e = record { ticks = refl; manifest = refl; has_evict = refl; announced = refl; evidence = refl }
stays me d k (Manifest r ds) e = absurd (false≢true e)
stays me d k (Block u b) e = absurd (false≢true e)
stays me d k (Evidence ds) e = absurd (false≢true e)
stays me d k (Evict r ps) e = absurd (false≢true e)

-- only a BLOCK or a KEY gives a block
pub same_blocks : (me : Member) (d : Datagram) (k : Knowledge) (b : RawBody)
    → ((round index : ℕ) (block : Bor (List ℕ)) → b ≡ raw.Block round index block → ⊥)
    → ((round : ℕ) (kind : XKind) (role : Role) (key : Bor (List ℕ)) → b ≡ raw.Key round kind role key → ⊥)
    → (learned me d k (plain b)).block ≡ k.block
same_blocks me d k (raw.Block r i x) block key = absurd (block r i x refl)
same_blocks me d k (raw.Key r kind role x) block key = absurd (key r kind role x refl)
same_blocks me d k (raw.Manifest r n ds) block key = refl
same_blocks me d k (raw.Request r s c) block key = refl
same_blocks me d k (raw.Response r hb) block key = refl
same_blocks me d k (raw.Divulge r n ha) block key = refl
same_blocks me d k (raw.Query r s y o) block key = refl
same_blocks me d k (raw.Reply r w g z) block key = refl
same_blocks me d k (raw.Case r kind role n z t c) block key = refl
same_blocks me d k (raw.KeyReq r kind role) block key = refl
same_blocks me d k (raw.Evidence n ds) block key = refl
same_blocks me d k (raw.Evict r n ps) block key = refl

pub exchange_holds : (me : Member) (k : Knowledge) (d : Datagram) (s : Store) → is_of_exchange d.message.body ≡ true
    → (with_heard me d k).block ≡ k.block → Holds me k s → Holds me (with_heard me d k) s
exchange_holds me k d s of same h =
    let st : Stays k (with_heard me d k) = stays me d k d.message.body of in
    record {
      rounds = h.rounds;
      per_round = h.per_round;
      wide = h.wide;
      life = h.life;
      round = h.round ∙ ap round_after (sym st.ticks);
      table = λ r. (λ i. lists_of (st.manifest i) r) ∙ h.table r;
      blocks = λ u fresh.
          (λ i. same i u)
          ∙ h.blocks u (subst (λ (n : ℕ). round_after n ≤ u.round + me.session.shape.life + (answer_deadline - 1)) st.ticks fresh);
    }

-- The ticks, the manifests, the evictions and the evidence are the same.
pub record HasSameRest (old new : Memory) : Type 0 where
  pub ticks : new.ticks ≡ old.ticks
  pub manifests : new.manifests ≡ old.manifests
  pub evictions : new.evictions ≡ old.evictions
  pub evidence : new.evidence ≡ old.evidence

pub exchange_memory : (me : Member) (k : Knowledge) (d : Datagram) (old new : Memory) → is_of_exchange d.message.body ≡ true → IsMemoryOf me k old
    → HasSameRest old new → Holds me (with_heard me d k) new.store → Recalls me (with_heard me d k) new.ledger
    → IsMemoryOf me (with_heard me d k) new
exchange_memory me k d old new of h same store ledger =
    let st : Stays k (with_heard me d k) = stays me d k d.message.body of in
    record {
      time = st.ticks ∙ h.time ∙ sym same.ticks;
      store = store;
      ledger = ledger;
      manifests = λ round.
          (λ i. option_map (datagram_bytes me.session) (st.manifest i round))
          ∙ h.manifests round
          ∙ (λ i. kept_in (sym same.manifests i) round);
      evictions = λ round. (λ i. st.has_evict i round) ∙ h.evictions round ∙ (λ i. was_heard (sym same.evictions i) round);
      announced = λ party. (λ i. st.announced i party) ∙ h.announced party ∙ (λ i. is_named (sym same.evictions i) party);
      evidence = λ party.
          (λ i. option_map evidence_bytes (st.evidence i party)) ∙ h.evidence party ∙ (λ i. kept_in (sym same.evidence i) party);
    }

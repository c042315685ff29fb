-- The exchange that a REQUEST or a QUERY asks for is kept.
use Rattle.std.proofs.Common.{◌≡◌, ◌≤◌, ◌+◌, ◌*◌, ◌∙◌, ℕ, Bool, true, List, Some, None, is_some, length, sym, ap, subst, arith}
use Rattle.std.specs.Prelude.{nat_lt, option_map, option_and_then, IfSome, if◌then◌else◌}
use Rattle.std.specs.Bool.{then_some}
use Rattle.std.specs.List.{IsDistinct, list_all}
use Rattle.std.proofs.lemmas.Bool.{leb-true, le-leb, lt-ltb}
use Rattle.std.proofs.lemmas.Option.{none-some}
use Rattle.bar_window.specs.declared.exchange.Exchange.{Exchange}
use Rattle.bar_window.specs.declared.exchange.Role.TheVariants.{Initiator, Responder}
use Rattle.bar_window.specs.declared.exchange.XKind.{XKind}
use Rattle.bar_window.specs.declared.terms.Terms.{Terms}
use Rattle.bar_window.specs.Exchange.{same_exchange}
use Rattle.bar_window.proofs.Exchanges.{same_exchange_refl}
use Rattle.bar_wire.specs.Datagram.{Datagram, place_of, kind_of}
use Rattle.bar_wire.specs.Limits.{exchanges_a_round}
use Rattle.bar_wire.specs.declared.kind.Kind.{Kind}
use Rattle.bar_wire.specs.declared.shape.Shape.{Shape}
use Rattle.bar_rules.specs.Member.{Member, IsMember}
use Rattle.bar_rules.specs.Peer.Agreement.{IsRecent}
use Rattle.bar_rules.specs.Peer.Exchanges.{request_kind, with_exchange}
use Rattle.bar_rules.specs.Peer.Knowledge.{Knowledge, this_round, with_heard}
use Rattle.bar_rules.specs.Peer.Sizes.{largest}
use Rattle.bar_ledger.specs.declared.entry.Entry.{Entry}
use Rattle.bar_ledger.specs.declared.ledger.Ledger.{Ledger}
use Rattle.bar_ledger.specs.Code.Asking.{asked_as, open_of}
use Rattle.bar_ledger.specs.Code.Kept.{Kept, newly, with_bytes, heard_of}
use Rattle.bar_ledger.specs.Code.Lookups.{seat_by}
use Rattle.bar_ledger.specs.Code.Memory.{HasSame, MayHear, find_in, kept_in, asked_in, opens_in, next_seat, added, can_hear}
use Rattle.bar_ledger.specs.Code.Recalls.{Recalls, IsKeptBy}
use Rattle.bar_exchange.specs.Code.Keeping.{IsAdmittedNow, HasRoomLeft, IsBegunWith}
use Rattle.bar_exchange.specs.Code.Parts.{ChangesKept, asked_entry}
use Rattle.bar_exchange.proofs.Admitted.{IsAdmittedOf, admitted_at}
use Rattle.bar_exchange.proofs.Changes.{recalls_change}
use Rattle.bar_exchange.proofs.KeptChanges.{there}
use Rattle.bar_exchange.proofs.Learned.{learned_other, stays_ticks, stays_open}
use Rattle.bar_exchange.proofs.One.{RecallsOne, one_of}
use Rattle.bar_exchange.proofs.Requests.{AsksFor, Begins, asks_for, one_asked, seat_is, seat_free, request_hears, request_one, request_by}
use Rattle.bar_exchange.proofs.RoomLeft.{room_left}
use Rattle.bar_exchange.proofs.Rooms.{none_heard}

-- A request that is admitted now begins an exchange that isn't kept yet.
pub record IsAsked (me : Member) (k : Knowledge) (l : Ledger) (d : Datagram) (bytes : List ℕ) (x : Exchange) (terms : Terms) : Type 0 where
  pub member : IsMember me
  pub recalled : Recalls me k l
  pub now : IsAdmittedNow me k d bytes
  pub room : HasRoomLeft me k
  pub new : k.seat x ≡ None
  pub at : place_of d.message ≡ Some (record { exchange = x; role = Initiator })
  pub begun : IsBegunWith me d x terms

of_initiator : (me : Member) (k : Knowledge) (l : Ledger) (d : Datagram) (bytes : List ℕ) (x : Exchange) (terms : Terms) → IsAsked me k l d bytes x terms → IsAdmittedOf me k d x Initiator
of_initiator me k l d bytes x terms a = admitted_at me k d bytes x Initiator a.now a.at

asks : (me : Member) (k : Knowledge) (l : Ledger) (d : Datagram) (bytes : List ℕ) (x : Exchange) (terms : Terms) → IsAsked me k l d bytes x terms → AsksFor me k d d.message.body x
asks me k l d bytes x terms a = asks_for me k d d.message.from d.message.to d.message.body x a.begun.kind_is a.at (of_initiator me k l d bytes x terms a).row

recent : (me : Member) (k : Knowledge) (l : Ledger) (d : Datagram) (bytes : List ℕ) (x : Exchange) (terms : Terms) → IsAsked me k l d bytes x terms → IsRecent me k x.round
recent me k l d bytes x terms a =
    let by : this_round k ≤ x.round + 1 = leb-true _ _ (asks me k l d bytes x terms a).in_time in
    let life : 2 ≤ me.session.shape.life = a.member.session.shape.life_low in
    omega (arith, by, life)

-- a seat is free
pub has_seat : (me : Member) (k : Knowledge) (l : Ledger) (d : Datagram) (bytes : List ℕ) (x : Exchange) (terms : Terms) → IsAsked me k l d bytes x terms
    → next_seat (asked_in l x.kind x.round) ≡ None → ⊥
has_seat me k l d bytes x terms a none =
    seat_free (asked_in l x.kind x.round)
    (ap (λ n. nat_lt n 2) (sym (a.recalled.asked x.kind x.round (recent me k l d bytes x terms a))) ∙ (asks me k l d bytes x terms a).free) none

-- there is room in the ledger
pub has_room : (me : Member) (k : Knowledge) (l : Ledger) (d : Datagram) (bytes : List ℕ) (x : Exchange) (terms : Terms) → IsAsked me k l d bytes x terms
    → IsDistinct same_exchange (kept_in l)
    → ((test : Exchange → Bool) → ((x : Exchange) → is_some (find_in l x) ≡ true → test x ≡ true) → list_all test (kept_in l) ≡ true)
    → nat_lt (length (kept_in l)) (exchanges_a_round * (l.shape.life + 2)) ≡ true
has_room me k l d bytes x terms a distinct each = lt-ltb _ _ (room_left me k l a.recalled a.room distinct each)

-- the exchange isn't kept yet
pub not_kept : (me : Member) (k : Knowledge) (l : Ledger) (d : Datagram) (bytes : List ℕ) (x : Exchange) (terms : Terms) → IsAsked me k l d bytes x terms
    → is_some (find_in l x) ≡ true → ⊥
not_kept me k l d bytes x terms a some =
    let found = there me k l x a.recalled some in
    let kept : Kept = found.0 in
    let role : kept.entry.role ≡ Responder = found.1.by.side ∙ (of_initiator me k l d bytes x terms a).mine in
    none-some kept.entry.seat (sym a.new ∙ found.1.one.seats ∙ ap (λ r. seat_by r kept.entry.seat) role)

-- ---- the exchange is added

-- An exchange is added to a ledger that doesn't keep it.
pub record AddsEntry (old new : Ledger) (e : Entry) : Type 0 where
  pub found : (y : Exchange) → find_in new y ≡ (if same_exchange e.x y then added old e else find_in old y)
  pub asked : (kind : XKind) (round : ℕ) → asked_in new kind round ≡ asked_in old kind round + asked_as kind round (added old e)
  pub opens : opens_in new ≡ with_exchange (option_and_then open_of (added old e)) (opens_in old)
  pub same : HasSame old new

is_added : (me : Member) (k : Knowledge) (l : Ledger) (x : Exchange) (seat : ℕ) (terms : Terms) → Recalls me k l → IsRecent me k x.round
    → added l (asked_entry x seat terms) ≡ Some (newly (asked_entry x seat terms))
is_added me k l x seat terms h recent =
    let here : l.round ≤ x.round + l.shape.life =
    subst (λ (s : Shape). l.round ≤ x.round + s.life) (sym h.shape) (subst (λ (n : ℕ). n ≤ x.round + me.session.shape.life) (sym h.round) recent)
    in
    ap (λ b. then_some b (newly (asked_entry x seat terms))) (le-leb _ _ here)

is_found : (me : Member) (k : Knowledge) (l new : Ledger) (x : Exchange) (seat : ℕ) (terms : Terms) → Recalls me k l → IsRecent me k x.round → AddsEntry l new (asked_entry x seat terms)
    → find_in new x ≡ Some (newly (asked_entry x seat terms))
is_found me k l new x seat terms h recent adds =
    adds.found x ∙ ap (λ b. if b then added l (asked_entry x seat terms) else find_in l x) (same_exchange_refl x) ∙ is_added me k l x seat terms h recent

-- afterwards its request may be heard
pub may_hear_request : (me : Member) (k : Knowledge) (l new : Ledger) (d : Datagram) (bytes : List ℕ) (x : Exchange) (seat : ℕ) (terms : Terms) → IsAsked me k l d bytes x terms
    → AddsEntry l new (asked_entry x seat terms) → MayHear new x (request_kind x.kind) bytes
may_hear_request me k l new d bytes x seat terms a adds =
    let found = is_found me k l new x seat terms a.recalled (recent me k l d bytes x terms a) adds in
    let shape : new.shape ≡ me.session.shape = adds.same.shape ∙ a.recalled.shape in
    record {
      kept = ap (λ o. is_some o) found;
      new = ap (option_and_then (heard_of (request_kind x.kind))) found ∙ none_heard (asked_entry x seat terms) (request_kind x.kind);
      short =
          subst (λ (kind : Kind). length bytes ≤ largest new.shape kind) a.begun.kind_is
          (subst (λ (s : Shape). length bytes ≤ largest s (kind_of d.message.body)) (sym shape) a.now.fits);
      heard = subst (λ o. IfSome o (λ kept. can_hear (request_kind x.kind) kept ≡ true)) (sym found) (request_hears x.kind);
    }

pub request_learned : (me : Member) (k : Knowledge) (l mid new : Ledger) (d : Datagram) (bytes : List ℕ) (x : Exchange) (seat : ℕ) (terms : Terms) → IsAsked me k l d bytes x terms
    → find_in l x ≡ None → Some seat ≡ next_seat (asked_in l x.kind x.round) → AddsEntry l mid (asked_entry x seat terms) → ChangesKept mid new x (with_bytes (request_kind x.kind) bytes)
    → Recalls me (with_heard me d k) new
request_learned me k l mid new d bytes x seat terms a none seat_at adds changes =
    let r = recent me k l d bytes x terms a in
    let asking = asks me k l d bytes x terms a in
    let b : Begins me k d x seat terms bytes =
    record {
      of = of_initiator me k l d bytes x terms a;
      begun = a.begun;
      bytes_are = a.now.bytes_are;
      before = subst (RecallsOne me k x) none (one_of me k l a.recalled x r);
      seat_is = a.recalled.asked x.kind x.round r ∙ seat_is (asked_in l x.kind x.round) seat seat_at;
    }
    in
    let found : find_in new x ≡ Some (with_bytes (request_kind x.kind) bytes (newly (asked_entry x seat terms))) =
    changes.found x ∙ ap (λ b. if b then option_map (with_bytes (request_kind x.kind) bytes) (find_in mid x) else find_in mid x) (same_exchange_refl x)
    ∙ ap (option_map (with_bytes (request_kind x.kind) bytes)) (is_found me k l mid x seat terms a.recalled r adds)
    in
    recalls_change me k (with_heard me d k) l new x a.recalled (record {
      same = record {
        me = changes.same.me ∙ adds.same.me;
        cap = changes.same.cap ∙ adds.same.cap;
        shape = changes.same.shape ∙ adds.same.shape;
        round = changes.same.round ∙ adds.same.round;
      };
      ticks = stays_ticks me k d d.message.body;
      asked = λ kind round near.
          ap (λ (k : Knowledge). k.asked kind round) asking.adds
          ∙ (λ i. a.recalled.asked kind round near i + sym (one_asked d x seat terms a.begun.kind_is asking.round_is kind round) i)
          ∙ ap (λ o. asked_in l kind round + asked_as kind round o) (sym (is_added me k l x seat terms a.recalled r))
          ∙ sym (changes.asked kind round ∙ adds.asked kind round);
      opens =
          stays_open me k d d.message.body ∙ a.recalled.opens
          ∙ ap (λ o. with_exchange (option_and_then open_of o) (opens_in l)) (sym (is_added me k l x seat terms a.recalled r))
          ∙ sym (changes.opens ∙ adds.opens);
      others = learned_other me k d x Initiator a.at;
      stays = λ y e.
          changes.found y ∙ ap (λ b. if b then option_map (with_bytes (request_kind x.kind) bytes) (find_in mid y) else find_in mid y) e
          ∙ adds.found y ∙ ap (λ b. if b then added l (asked_entry x seat terms) else find_in l y) e;
      one = λ near. subst (RecallsOne me (with_heard me d k) x) (sym found) (subst (λ new. RecallsOne me new x (Some (with_bytes (request_kind x.kind) bytes (newly (asked_entry x seat terms))))) (sym asking.adds) (request_one me k d x seat terms bytes b));
      kept = subst (λ o. IfSome o (IsKeptBy me x)) (sym found) (request_by me k d x seat terms bytes b);
    })

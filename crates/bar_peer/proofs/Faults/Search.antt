-- What a search for evidence reads, and what it finds.
use Rattle.std.proofs.Common.{◌≡◌, ◌≢◌, ◌∙◌, ◌∷◌, [], List, ℕ, Bool, true, false, Option, Some, None, is_some, refl, sym, ap}
use Rattle.std.specs.Prelude.{option_map, if◌then◌else◌}
use Rattle.std.specs.Bool.{then_some}
use Rattle.std.specs.Option.{option_or}
use Rattle.std.proofs.lemmas.Option.{same_Some}
use Rattle.bar_bytes.proofs.Options.{none-of, some-mapped}
use Rattle.bar_terms.specs.Table.{Table, digests_of}
use Rattle.bar_wire.specs.Bodies.{is_peer_kind}
use Rattle.bar_wire.specs.Datagram.{Datagram, place_of}
use Rattle.bar_wire.specs.Places as places
use Rattle.bar_wire.specs.Code.Sides.{place_in}
use Rattle.bar_wire.specs.Code.Views.{datagram, plain}
use Rattle.bar_wire.specs.declared.kind.Kind.{Kind}
use Rattle.bar_wire.specs.declared.place.Place.{Place as CodePlace}
use Rattle.bar_wire.specs.declared.shape.Shape.{Shape}
use Rattle.bar_wire.specs.declared.view.View.{View}
use Rattle.bar_judge.specs.Code.Verdicts.{plain_fault}
use Rattle.bar_judge.specs.declared.fault.Fault.{Fault as CodeFault}
use Rattle.bar_rules.specs.Judge.Verdict.{fault_of}
use Rattle.bar_rules.specs.Member.{Session, Member}
use Rattle.bar_rules.specs.Values.{datagram_bytes, datagram_of}
use Rattle.bar_rules.specs.Peer.Evidence.{if_accuses, new_evidence, pair_with, pairs_of}
use Rattle.bar_rules.specs.Peer.Knowledge.{Knowledge, table_of}
use Rattle.bar_ledger.specs.Code.Lookups.{heard_in}
use Rattle.bar_peer.specs.declared.search.Search.{Search}
use Rattle.bar_peer.specs.Code.Arrivals.{IsReadBy}
use Rattle.bar_peer.specs.Code.Searching.{GoesBy, searched, searcher}
use Rattle.bar_peer.proofs.Faults.Trials.{IsGood, IsRecalled, IsSpelled, IsTried, VerdictsAreFound, good_by, one_shown, pair_shown, pair_unshown, read_back, recalled_here, tried_parts}

module _ (k : Knowledge) (s : Search) (goes : GoesBy k s) (reads : IsReadBy s.who.now s.arrival.now) (signed : is_peer_kind (plain s.arrival.now.view.body) ≡ true) where
  abbrev me : Member
  me = searcher s

  abbrev session : Session
  session = s.who.now.session

  abbrev d : Datagram
  d = searched s

  abbrev bytes : List ℕ
  bytes = s.arrival.now.bytes.now

  abbrev table : Table
  table = digests_of s.table.now.lists

  pub tried_at : IsTried me k d
  tried_at = tried_parts me k d goes.tried

  pub stands_at : (place : CodePlace) → s.arrival.now.place ≡ Some place → place_of d.message ≡ Some (place_in place)
  stands_at place is = sym s.arrival.now.placed ∙ ap (option_map place_in) is

  good : IsSpelled → IsGood session d
  good spelled = good_by session d bytes spelled reads.spelled signed tried_at.accepted

  -- the bytes that were heard at the place decode to the datagram that was heard there
  pub recalled_at : (kind : Kind) (place : CodePlace) (v : View) (heard : List ℕ) (shape : Shape) (read : Option View) → IsSpelled
      → s.arrival.now.place ≡ Some place → heard_in s.ledger.now kind place.x place.role ≡ Some heard → Some v ≡ read
      → option_map (datagram shape) read ≡ places.datagram_of shape heard → shape ≡ session.shape
      → IsRecalled session d (k.heard kind place.x place.role) heard (datagram session.shape v)
  recalled_at kind place v heard shape read spelled at is v_is told same =
      let here : place_of d.message ≡ Some (place_in place) = stands_at place at in
      recalled_here me k d (datagram session.shape v) kind place.x place.role heard spelled goes.sound here
      (goes.recalls.heard kind place.x place.role (tried_at.near (place_in place) here) ∙ is)
      ((λ i. option_map (datagram (sym same i)) (v_is i)) ∙ told ∙ (λ i. places.datagram_of (same i) heard))

  -- if the ledger holds nothing at the place, no pair is found
  pub unheard : (kind : Kind) (place : CodePlace) → s.arrival.now.place ≡ Some place → heard_in s.ledger.now kind place.x place.role ≡ None
      → pair_with session (table_of k) d (k.heard kind place.x place.role) ≡ None
  unheard kind place is none =
      let o : Option Datagram = k.heard kind place.x place.role in
      ap (pair_with session (table_of k) d)
      (none-of o
      (sym (some-mapped (datagram_bytes session) o)
      ∙ ap is_some (goes.recalls.heard kind place.x place.role (tried_at.near (place_in place) (stands_at place is)) ∙ none)))

  -- bytes that were heard can be decoded
  pub heard_is_read : (kind : Kind) (place : CodePlace) (heard : List ℕ) → IsSpelled → s.arrival.now.place ≡ Some place
      → heard_in s.ledger.now kind place.x place.role ≡ Some heard → datagram_of session heard ≢ None
  heard_is_read kind place heard spelled is told unread =
      go (k.heard kind place.x place.role) refl (goes.recalls.heard kind place.x place.role (tried_at.near (place_in place) (stands_at place is)) ∙ told)
    where
      go : (o : Option Datagram) → k.heard kind place.x place.role ≡ o → option_map (datagram_bytes session) o ≡ Some heard → ⊥
      go None there e = cc
      go (Some f) there e =
          let read = read_back session f spelled (goes.sound.spelled kind place.x place.role f there) in
          let same : datagram_bytes session f ≡ heard = same_Some (datagram_bytes session f) heard e in
          let none : Some f ≡ None = sym read ∙ ap (datagram_of session) same ∙ unread in
          cc

  module _ (o : Option Datagram) (heard : List ℕ) (e : Datagram) (spelled : IsSpelled) (was : IsRecalled session d o heard e) where
    -- a pair with a datagram that peers don't sign shows no fault
    pub unpaired : is_peer_kind e.message.body ≡ false → pair_with session (table_of k) d o ≡ None
    unpaired other = ap (pair_with session (table_of k) d) was.is ∙ pair_unshown session (table_of k) d e (good spelled) was.earlier other

    -- otherwise the pair is evidence if and only if a fault is found
    pub pair_found : VerdictsAreFound → is_peer_kind e.message.body ≡ true → (found : Option CodeFault) (shows : Bool)
        → option_map plain_fault found ≡ fault_of session table (e ∷ d ∷ []) → is_some found ≡ shows
        → then_some shows (heard ∷ bytes ∷ []) ≡ pair_with session (table_of k) d o
    pair_found law kind found shows exact is =
        let same : is_some (fault_of session table (e ∷ d ∷ [])) ≡ shows = ap is_some (sym exact) ∙ some-mapped plain_fault found ∙ is in
        (λ i. then_some (sym same i) (sym was.bytes i ∷ reads.spelled.is i ∷ []))
        ∙ sym (pair_shown session table d e law (good spelled) was.earlier kind)
        ∙ (λ i. pair_with session (sym goes.table i) d (sym was.is i))

  -- the evidence is the datagram alone if it shows a fault, else a pair
  pub new_is : (found : Option CodeFault) (shows : Bool) (o : Option CodePlace) → IsSpelled → VerdictsAreFound
      → option_map plain_fault found ≡ fault_of session table (d ∷ []) → shows ≡ is_some found → s.arrival.now.place ≡ o
      → new_evidence me k d ≡ option_or (then_some shows (bytes ∷ [])) (pairs_of me k d (option_map place_in o))
  unfolding new_evidence
  new_is found shows o spelled law exact is at =
      let here : option_map place_in o ≡ place_of d.message = ap (option_map place_in) (sym at) ∙ s.arrival.now.placed in
      let same : is_some (fault_of session table (d ∷ [])) ≡ shows = ap is_some (sym exact) ∙ some-mapped plain_fault found ∙ sym is in
      (λ i. if goes.tried i
      then option_or (if_accuses session (goes.table i) d.message.from (datagram_bytes session d ∷ [])) (pairs_of me k d (sym here i))
      else None)
      ∙ ap (λ one. option_or one (pairs_of me k d (option_map place_in o)))
      (one_shown session table d law (good spelled) ∙ (λ i. then_some (same i) (sym reads.spelled.is i ∷ [])))

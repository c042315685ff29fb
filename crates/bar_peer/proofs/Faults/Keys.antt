-- A repeated KEY shows no fault with the CASE that it opens: if it had shown one, evidence would be kept already.
use Rattle.std.proofs.Common.{◌≡◌, ◌∙◌, ◌==◌, ◌&&◌, not, ℕ, Bool, true, false, List, [], ◌∷◌, Option, Some, None, is_some, refl, sym, ap, subst}
use Rattle.std.specs.Prelude.{option_map, option_and_then, if◌then◌else◌}
use Rattle.std.specs.Bool.{then_some}
use Rattle.std.specs.Str.{bytes_eq}
use Rattle.std.proofs.lemmas.Bool.{and_parts, both_ways, not-true}
use Rattle.std.proofs.lemmas.Option.{same_Some}
use Rattle.std.proofs.lemmas.Slice.Eq.{bytes_eq-Decides}
use Rattle.bar_window.specs.declared.exchange.Exchange.{Exchange}
use Rattle.bar_window.specs.declared.exchange.Role.{Role}
use Rattle.bar_window.specs.Exchange.{other_role}
use Rattle.bar_window.proofs.Exchanges.{other-other}
use Rattle.bar_terms.specs.Table.{Table}
use Rattle.bar_case.specs.Opened.{is_bad}
use Rattle.bar_wire.specs.Bodies.{briefcase_in, is_peer_kind}
use Rattle.bar_wire.specs.Datagram.{Message, Datagram, Case, Key, Briefcase, KeyGiven, Place, exchange_by, kind_of, part_of, place_by, place_of, identity_of, is_of}
use Rattle.bar_wire.specs.Kinds.{is_signed_kind}
use Rattle.bar_wire.specs.Code.Sides.{place_in}
use Rattle.bar_wire.specs.Code.Views.{plain}
use Rattle.bar_wire.specs.declared.kind.Kind.TheVariants as kinds
use Rattle.bar_wire.specs.declared.place.Place.{Place as CodePlace}
use Rattle.bar_ledger.specs.Code.Lookups.{heard_in}
use Rattle.bar_ledger.specs.Code.Naming.{names}
use Rattle.bar_rules.specs.Judge.Verdict.{Fault, bad_opening, fault_of_messages, fault_of_two, same_place}
use Rattle.bar_rules.specs.Member.{Session, Member}
use Rattle.bar_rules.specs.Values.{datagram_bytes, datagram_of, leaf_named, opening_of}
use Rattle.bar_rules.specs.Verifiers.{NamesLeavesOf}
use Rattle.bar_rules.specs.Peer.Evidence.{pair_with}
use Rattle.bar_rules.specs.Peer.Exchanges.{partner_in, role_of}
use Rattle.bar_rules.specs.Peer.Knowledge.{Knowledge, known, table_of, case_heard_of}
use Rattle.bar_rules.specs.Peer.Log.{Log, Heard, kept}
use Rattle.bar_rules.specs.Peer.Rules.{IsObedient}
use Rattle.bar_rules.specs.Peer.Terms.{case_heard}
use Rattle.bar_laws.specs.Evidence.{CatchesBadKeys}
use Rattle.bar_laws.proofs.Logs.{IsCaseOf, IsForOneMember, IsKeyOf, WasHeard, allowed-at, contains-entry, first_heard-was, heard-own, is_of-case, is_of-key, receiver-partner, receiver-role}
use Rattle.bar_store.proofs.Learns.{and_false}
use Rattle.bar_peer.specs.declared.search.Search.{Search}
use Rattle.bar_peer.specs.Code.Arrivals.{IsReadBy}
use Rattle.bar_peer.specs.Code.Searching.{GoesBy, KeysAreCaught, searched, searcher}
use Rattle.bar_peer.proofs.Faults.OtherExchanges.{leaf_is}
use Rattle.bar_peer.proofs.Faults.Search.{stands_at}
use Rattle.bar_peer.proofs.Faults.Trials.{IsSpelled, IsTried, VerdictsAreFound, earlier_of, good_by, pair_shown, read_back, tried_parts}

-- ---- from bad keys that a log catches to those that its knowledge catches

pub caught : (me : Member) (log : Log) → IsObedient me log → CatchesBadKeys me log → KeysAreCaught me (known me log)
caught me log obeys law x role d e g c key body case words bad =
    let was = first_heard-was (is_of kinds.Key x role) log d key in
    let w : WasHeard log d = was.0 in
    let of : IsKeyOf x role d.message = is_of-key x role d.message was.1 in
    let same : of.given ≡ g = cc (of.body, body) in
    let own : Exchange = exchange_by g.round g.kind g.role d.message.from d.message.to in
    let named : own ≡ x = subst (λ (h : KeyGiven). exchange_by h.round h.kind h.role d.message.from d.message.to ≡ x) same of.exchange in
    let side : g.role ≡ role = subst (λ (h : KeyGiven). h.role ≡ role) same of.side in
    let mine : IsForOneMember me d = heard-own me w.before d (g.round, g.kind, g.role) (allowed-at me log w.before (Heard d) w.place obeys).0 (ap part_of body) in
    let other : other_role (role_of me own) ≡ role =
    ap other_role (receiver-role me g.round g.kind g.role d.message.from d.message.to mine.to mine.other) ∙ other-other g.role ∙ side
    in
    let partner : partner_in me own ≡ d.message.from = receiver-partner me g.round g.kind g.role d.message.from d.message.to mine.to mine.other in
    let heard : case_heard me (known me log) own ≡ Some c =
    (λ i. case_heard_of (known me log) (named i) (other i)) ∙ ap (option_and_then (λ (f : Datagram). briefcase_in f.message.body)) case ∙ ap briefcase_in words
    in
    subst (λ q. is_some (kept log q) ≡ true) partner
    (law own d
    (record {
      key = g;
      case = c;
      heard = contains-entry log w.before (Heard d) w.place;
      is_key = body;
      of_exchange = ap (λ b. option_map (λ (q : Place). q.exchange) (option_map (place_by d.message.from d.message.to) (part_of b))) body;
      case_is = heard;
      bad = subst (λ y. is_bad (opening_of me.session (table_of (known me log)) y c g.key) ≡ true) (sym named) bad;
    }))

-- ---- the faults of a CASE and a KEY

abbrev a_case : ℕ → ℕ → Briefcase → Message
a_case from to c = record { from = from; to = to; body = Case c }

abbrev a_key : ℕ → ℕ → KeyGiven → Message
a_key from to g = record { from = from; to = to; body = Key g }

by_place : (b : Bool) → ◌≡◌ {A = Option Fault} (if b then None else None) None
by_place true = refl
by_place false = refl

-- a CASE and a KEY show no fault except a bad opening
none_of_two : (s : Session) (t : Table) (f o p q : ℕ) (c : Briefcase) (g : KeyGiven)
    → bad_opening s t (a_case f o c) (a_key p q g) (Some c) (Some g) ≡ false → fault_of_messages s t (a_case f o c) (a_key p q g) ≡ None
none_of_two s t f o p q c g none = rw none (by_place (same_place (a_key p q g) (a_case f o c)))

none_of_messages : (s : Session) (t : Table) (m n : Message) (c : Briefcase) (g : KeyGiven) → m.body ≡ Case c → n.body ≡ Key g
    → bad_opening s t m n (Some c) (Some g) ≡ false → fault_of_messages s t m n ≡ None
none_of_messages s t m n c g case key none =
    (λ i. fault_of_messages s t (record { from = m.from; to = m.to; body = case i }) (record { from = n.from; to = n.to; body = key i }))
    ∙ none_of_two s t m.from m.to n.from n.to c g
    (subst (λ b. bad_opening s t (record { from = m.from; to = m.to; body = b }) (a_key n.from n.to g) (Some c) (Some g) ≡ false) case
    (subst (λ b. bad_opening s t m (record { from = n.from; to = n.to; body = b }) (Some c) (Some g) ≡ false) key none))

none_shown : (s : Session) (t : Table) (e d : Datagram) (c : Briefcase) (g : KeyGiven) → e.message.body ≡ Case c → d.message.body ≡ Key g
    → bad_opening s t e.message d.message (Some c) (Some g) ≡ false → (leaf_named s e == leaf_named s d) ≡ false → fault_of_two s t e d ≡ None
none_shown s t e d c g case key none leaves =
    let messages = none_of_messages s t e.message d.message c g case key none in
    let apart : (not (bytes_eq (identity_of e.message) (identity_of d.message)) && (leaf_named s e == leaf_named s d)) ≡ false =
    (λ i. not (bytes_eq (identity_of e.message) (identity_of d.message)) && leaves i) ∙ sym (and_false _)
    in
    rw (apart, messages) refl

-- ---- a repeated KEY

module _ (k : Knowledge) (s : Search) (goes : GoesBy k s) (reads : IsReadBy s.who.now s.arrival.now) (signed : is_peer_kind (plain s.arrival.now.view.body) ≡ true) where
  abbrev me : Member
  me = searcher s

  abbrev session : Session
  session = s.who.now.session

  abbrev d : Datagram
  d = searched s

  tried : IsTried me k d
  tried = tried_parts me k d goes.tried

  -- a heard KEY with the same bytes is the datagram itself
  heard_is : (place : CodePlace) (key : List ℕ) → IsSpelled → s.arrival.now.place ≡ Some place
      → heard_in s.ledger.now kinds.Key place.x place.role ≡ Some key → bytes_eq key s.arrival.now.bytes.now ≡ true
      → k.heard kinds.Key place.x place.role ≡ Some d
  heard_is place key spelled at told same =
      go (k.heard kinds.Key place.x place.role) refl
      (goes.recalls.heard kinds.Key place.x place.role (tried.near (place_in place) (stands_at k s goes reads signed place at)) ∙ told)
    where
      go : (o : Option Datagram) → k.heard kinds.Key place.x place.role ≡ o → option_map (datagram_bytes session) o ≡ Some key
          → k.heard kinds.Key place.x place.role ≡ Some d
      go None there e = absurd (cc)
      go (Some f) there e =
          let bytes : datagram_bytes session f ≡ datagram_bytes session d =
          same_Some (datagram_bytes session f) key e ∙ (bytes_eq-Decides key s.arrival.now.bytes.now).0 same ∙ reads.spelled.is
          in
          let one : f ≡ d =
          same_Some f d
          (sym (read_back session f spelled (goes.sound.spelled kinds.Key place.x place.role f there))
          ∙ ap (datagram_of session) bytes
          ∙ read_back session d spelled reads.spelled.fits)
          in
          there ∙ ap Some one

  -- if it opened the CASE badly, evidence would be kept, and the datagram wouldn't be searched
  opens_well : (x : Exchange) (role : Role) (e : Datagram) (c : Briefcase) (g : KeyGiven) → k.heard kinds.Key x role ≡ Some d
      → d.message.body ≡ Key g → k.heard kinds.Case x role ≡ Some e → e.message.body ≡ Case c
      → exchange_by c.round c.kind c.role e.message.from e.message.to ≡ x
      → bad_opening session (table_of k) e.message d.message (Some c) (Some g) ≡ false
  opens_well x role e c g key body case words named = go (bad_opening session (table_of k) e.message d.message (Some c) (Some g)) refl
    where
      go : (b : Bool) → bad_opening session (table_of k) e.message d.message (Some c) (Some g) ≡ b → b ≡ false
      go false is = refl
      go true is =
          let bad = subst (λ y. is_bad (opening_of session (table_of k) y c g.key) ≡ true) named (and_parts _ _ (and_parts _ _ is).1).1 in
          let none : not (is_some (k.evidence d.message.from)) ≡ true = (and_parts _ _ (and_parts _ _ goes.tried).0).1 in
          absurd (both_ways _ (not-true _ none) (goes.caught x role d e g c key body case words bad))

  -- so it shows no fault with the CASE
  pub none_again : (place : CodePlace) (key case : List ℕ) (named : List ℕ → ℕ) (len leaf : ℕ) → IsSpelled → VerdictsAreFound
      → s.arrival.now.place ≡ Some place → heard_in s.ledger.now kinds.Key place.x place.role ≡ Some key
      → bytes_eq key s.arrival.now.bytes.now ≡ true → heard_in s.ledger.now kinds.Case place.x place.role ≡ Some case
      → NamesLeavesOf session named len → leaf ≡ leaf_named session d → names named len leaf case ≡ false
      → pair_with session (table_of k) d (k.heard kinds.Case place.x place.role) ≡ None
  none_again place key case named len leaf spelled law at told same of_case leaves leaf_of apart =
      go (k.heard kinds.Case place.x place.role) refl
      (goes.recalls.heard kinds.Case place.x place.role (tried.near (place_in place) here) ∙ of_case)
    where
      here : place_of d.message ≡ Some (place_in place)
      here = stands_at k s goes reads signed place at

      again : k.heard kinds.Key place.x place.role ≡ Some d
      again = heard_is place key spelled at told same

      go : (o : Option Datagram) → k.heard kinds.Case place.x place.role ≡ o → option_map (datagram_bytes session) o ≡ Some case
          → pair_with session (table_of k) d o ≡ None
      go None there e = refl
      go (Some e) there is =
          let fits = goes.sound.spelled kinds.Case place.x place.role e there in
          let of : IsCaseOf place.x place.role e.message =
          is_of-case place.x place.role e.message (goes.sound.heard kinds.Case place.x place.role e there)
          in
          let key_of : IsKeyOf place.x place.role d.message =
          is_of-key place.x place.role d.message (goes.sound.heard kinds.Key place.x place.role d again)
          in
          let bytes : datagram_bytes session e ≡ case = same_Some (datagram_bytes session e) case is in
          let leaves_apart : (leaf_named session e == leaf_named session d) ≡ false =
          sym (leaf_is session named len leaf d e leaves leaf_of fits (ap (λ b. is_signed_kind (kind_of b)) of.body))
          ∙ ap (names named len leaf) bytes
          ∙ apart
          in
          let none : fault_of_two session (table_of k) e d ≡ None =
          none_shown session (table_of k) e d of.case key_of.given of.body key_of.body
          (opens_well place.x place.role e of.case key_of.given again key_of.body there of.body of.exchange)
          leaves_apart
          in
          pair_shown session (table_of k) d e law
          (good_by session d s.arrival.now.bytes.now spelled reads.spelled signed tried.accepted)
          (earlier_of me k d e kinds.Case place.x place.role spelled goes.sound here there)
          (ap is_peer_kind of.body)
          ∙ (λ i. then_some (is_some (none i)) (datagram_bytes session e ∷ datagram_bytes session d ∷ []))

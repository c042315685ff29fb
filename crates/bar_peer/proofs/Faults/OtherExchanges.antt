-- The datagrams of other exchanges that a datagram is tried with: those that the ledger recalls with the same leaf.
use Rattle.std.proofs.Common.{◌≡◌, ◌∙◌, ◌+◌, ◌-◌, ◌≤◌, ◌==◌, ◌&&◌, ℕ, Bool, true, false, cond, List, [], ◌∷◌, ◌++◌, length, Option, Some, None, refl, sym, ap, arith, length-append}
use Rattle.std.specs.Prelude.{option_map, option_and_then, nat_le, if◌then◌else◌}
use Rattle.std.specs.Bool.{then_some}
use Rattle.std.specs.Option.{option_or}
use Rattle.std.specs.List.{AllByRecursion}
use Rattle.std.proofs.lemmas.Bool.{and_parts, le-leb, leb-true}
use Rattle.std.proofs.lemmas.List.{drop_at}
use Rattle.bar_window.specs.declared.exchange.Exchange.{Exchange}
use Rattle.bar_window.specs.declared.exchange.Role.{Role}
use Rattle.bar_window.specs.declared.exchange.Role.TheVariants.{Initiator, Responder}
use Rattle.bar_window.specs.declared.exchange.XKind.{XKind}
use Rattle.bar_window.specs.declared.exchange.XKind.TheVariants.{Balanced, Push}
use Rattle.bar_window.specs.Exchange.{other_role, same_exchange}
use Rattle.bar_wire.specs.Bodies.{is_peer_kind}
use Rattle.bar_wire.specs.Datagram.{Datagram, Body, Request, Response, Query, Reply, Case, Key, Place, place_of, kind_of, round_of}
use Rattle.bar_wire.specs.Grammar.{IsDatagram, InRange}
use Rattle.bar_wire.specs.Kinds.{is_signed_kind}
use Rattle.bar_wire.specs.declared.shape.Shape.{Shape}
use Rattle.bar_wire.specs.declared.kind.Kind.{Kind}
use Rattle.bar_wire.specs.declared.kind.Kind.TheVariants as kinds
use Rattle.bar_session.specs.Limits.{most_long_rounds}
use Rattle.bar_rules.specs.Member.{Session, Member, IsMember}
use Rattle.bar_rules.specs.Values.{datagram_bytes, leaf_named, message_bytes}
use Rattle.bar_rules.specs.Verifiers.{NamesLeavesOf}
use Rattle.bar_rules.specs.Peer.Agreement.{IsRecent}
use Rattle.bar_rules.specs.Peer.Evidence.{is_tried, pairs_elsewhere, shared_from, shared_with}
use Rattle.bar_rules.specs.Peer.Exchanges.{opening_kind, role_of}
use Rattle.bar_rules.specs.Peer.Knowledge.{Knowledge, this_round}
use Rattle.bar_rules.proofs.Shared.{IsShared, shared_are}
use Rattle.bar_laws.specs.Soundness.{IsSound}
use Rattle.bar_laws.specs.Tries.{by_leaf, leaves_in, leaves_among, OthersAreTriedByLeaves}
use Rattle.bar_ledger.specs.declared.ledger.Ledger.{Ledger}
use Rattle.bar_ledger.specs.Code.Naming.{names}
use Rattle.bar_ledger.specs.Code.Recalls.{Recalls}
use Rattle.bar_exchange.specs.Code.Naming.{if_passing, passing_as, passing_in, passing_beside, passing_among, side_beside}
use Rattle.bar_peer.proofs.Hearing.Exchanges.{is_here}

-- a datagram after an earlier one
abbrev behind : List ℕ → List ℕ → List (List ℕ)
behind bytes heard = heard ∷ bytes ∷ []

-- ---- the signature is the end of the bytes

ends : (named : List ℕ → ℕ) (len leaf : ℕ) (message sig : List ℕ) → length sig ≡ len → names named len leaf (message ++ sig) ≡ (named sig == leaf)
ends named len leaf message sig long =
    let total : length (message ++ sig) ≡ length message + length sig = length-append message sig in
    let enough : nat_le len (length (message ++ sig)) ≡ true = le-leb len (length (message ++ sig)) (omega (arith, total, long)) in
    let at : length message ≡ length (message ++ sig) - len = omega (arith, total, long) in
    (λ i. enough i && (named (drop_at message sig (length (message ++ sig) - len) at i) == leaf))

pub leaf_is : (s : Session) (named : List ℕ → ℕ) (len leaf : ℕ) (d e : Datagram) → NamesLeavesOf s named len → leaf ≡ leaf_named s d
    → IsDatagram s.shape e → is_signed_kind (kind_of e.message.body) ≡ true
    → names named len leaf (datagram_bytes s e) ≡ (leaf_named s e == leaf_named s d)
leaf_is s named len leaf d e law is fits signed =
    let long : length e.signature ≡ len =
    fits.signature_long ∙ ap (λ b. if b then s.shape.sig_len else 0) signed ∙ sym law.length_is
    in
    ends named len leaf (message_bytes s e.message) e.signature long ∙ (λ i. law.names e.signature i == is i)

-- ---- one datagram

paired : (bytes own told : List ℕ) (a b : Bool) → a ≡ b → bytes ≡ own → option_map (behind bytes) (then_some a told) ≡ then_some b (told ∷ own ∷ [])
paired bytes own told a b same is = ap (λ t. option_map (behind bytes) (then_some t told)) same ∙ go b
  where
    go : (t : Bool) → option_map (behind bytes) (then_some t told) ≡ then_some t (told ∷ own ∷ [])
    go true = λ i. Some (told ∷ is i ∷ [])
    go false = refl

map_or : {A B : Type 0} (f : A → B) (a b : Option A) → option_map f (option_or a b) ≡ option_or (option_map f a) (option_map f b)
map_or f None b = refl
map_or f (Some x) b = refl

opening_signed : (kind : XKind) (role : Role) → is_signed_kind (opening_kind kind role) ≡ true
opening_signed Balanced Initiator = refl
opening_signed Balanced Responder = refl
opening_signed Push Initiator = refl
opening_signed Push Responder = refl

-- the datagram that is tried, and how its leaf is named
pub record IsTriedElsewhere (me : Member) (k : Knowledge) (l : Ledger) (d : Datagram) (bytes : List ℕ) (named : List ℕ → ℕ) (len leaf : ℕ) : Type 0 where
  pub recalls : Recalls me k l
  pub sound : IsSound me k
  pub bytes_are : bytes ≡ datagram_bytes me.session d
  pub law : NamesLeavesOf me.session named len
  pub leaf_is : leaf ≡ leaf_named me.session d

module _ (me : Member) (k : Knowledge) (l : Ledger) (d : Datagram) (bytes : List ℕ) (named : List ℕ → ℕ) (len leaf : ℕ)
    (h : IsTriedElsewhere me k l d bytes named len leaf) where
  abbrev test : List ℕ → Bool
  test = names named len leaf

  by_kind : (kind : Kind) (y : Exchange) (role : Role) → IsRecent me k y.round → is_signed_kind kind ≡ true
      → option_map (behind bytes) (passing_as test l kind y role) ≡ by_leaf me.session d (k.heard kind y role)
  by_kind kind y role recent signed =
      ap (λ o. option_map (behind bytes) (option_and_then (if_passing test) o)) (sym (h.recalls.heard kind y role recent)) ∙ go (k.heard kind y role) refl
    where
      go : (o : Option Datagram) → k.heard kind y role ≡ o
          → option_map (behind bytes) (option_and_then (if_passing test) (option_map (datagram_bytes me.session) o)) ≡ by_leaf me.session d o
      go None e = refl
      go (Some e) is =
          let of_kind : is_signed_kind (kind_of e.message.body) ≡ true =
          ap is_signed_kind (is_here e.message kind y role (h.sound.heard kind y role e is)).kind_is ∙ signed
          in
          paired bytes (datagram_bytes me.session d) (datagram_bytes me.session e) (test (datagram_bytes me.session e))
          (leaf_named me.session e == leaf_named me.session d)
          (leaf_is me.session named len leaf d e h.law h.leaf_is (h.sound.spelled kind y role e is) of_kind)
          h.bytes_are

  -- a side's signed datagrams
  by_side : (y : Exchange) (role : Role) → IsRecent me k y.round → option_map (behind bytes) (passing_in test l y role) ≡ leaves_in me.session k d y role
  by_side y role recent =
      let first : Option (List ℕ) = passing_as test l (opening_kind y.kind role) y role in
      let case : Option (List ℕ) = passing_as test l kinds.Case y role in
      let key : Option (List ℕ) = passing_as test l kinds.Key y role in
      map_or (behind bytes) first (option_or case key)
      ∙ ap (λ o. option_or (option_map (behind bytes) first) o) (map_or (behind bytes) case key)
      ∙ (λ i.
      option_or (by_kind (opening_kind y.kind role) y role recent (opening_signed y.kind role) i)
      (option_or (by_kind kinds.Case y role recent refl i) (by_kind kinds.Key y role recent refl i)))

  side_is : (y : Exchange) → side_beside l.me y ≡ other_role (role_of me y)
  side_is y = ap (λ p. side_beside p y) h.recalls.party ∙ go (y.initiator == me.party)
    where
      go : (b : Bool) → cond b Responder Initiator ≡ other_role (cond b Initiator Responder)
      go true = refl
      go false = refl

  -- several exchanges
  by_list : (x : Exchange) (low : ℕ) (ys : List Exchange) → this_round k ≤ low + me.session.shape.life
      → AllByRecursion (IsShared me.party d.message.from low) ys → option_map (behind bytes) (passing_among test l x ys) ≡ leaves_among me k d x ys
  by_list x low [] near all = refl
  by_list x low (y ∷ ys) near all =
      map_or (behind bytes) (passing_beside test l x y) (passing_among test l x ys)
      ∙ (λ i. option_or (here (same_exchange x y) i) (by_list x low ys near all.1 i))
    where
      recent : IsRecent me k y.round
      recent = let late : low ≤ y.round = all.0.late in omega (arith, near, late)

      here : (b : Bool) → option_map (behind bytes) (cond b None (passing_in test l y (side_beside l.me y)))
          ≡ cond b None (leaves_in me.session k d y (other_role (role_of me y)))
      here true = refl
      here false = ap (λ role. option_map (behind bytes) (passing_in test l y role)) (side_is y) ∙ by_side y (other_role (role_of me y)) recent

  -- all exchanges that the sender shares with this peer
  pub elsewhere_is : (p : Place) → OthersAreTriedByLeaves → is_tried me k d ≡ true → IsDatagram me.session.shape d → place_of d.message ≡ Some p
      → option_map (behind bytes)
      (passing_among test l p.exchange (shared_from l.me d.message.from (l.round - l.shape.life) (l.shape.life + 2)))
      ≡ pairs_elsewhere me k d (Some p)
  elsewhere_is p law tried fits at =
      let low : ℕ = this_round k - me.session.shape.life in
      (λ i.
      option_map (behind bytes)
      (passing_among test l p.exchange
      (shared_from (h.recalls.party i) d.message.from (h.recalls.round i - (h.recalls.shape i).life) ((h.recalls.shape i).life + 2))))
      ∙ by_list p.exchange low (shared_with me k d.message.from) (omega arith)
      (shared_are me.party d.message.from low low (me.session.shape.life + 2) (omega arith))
      ∙ sym (law me k d p h.sound tried fits at)

-- ---- rounds are bounded

round_high : (s : Shape) (b : Body) → InRange s b → is_peer_kind b ≡ true → round_of b ≤ s.rounds
round_high s (Request r seed c) range peer = range.1
round_high s (Response r hb) range peer = range.1
round_high s (Query r seed young aged) range peer = range.1
round_high s (Reply r want give junk) range peer = range.0.1
round_high s (Case c) range peer = range.0.1
round_high s (Key k) range peer = range.1
round_high s _ range peer = absurd (cc)

-- a datagram is searched only up to the last round plus the life of an update
pub few_rounds : (me : Member) (k : Knowledge) (l : Ledger) (d : Datagram) → Recalls me k l → IsMember me → is_tried me k d ≡ true
    → IsDatagram me.session.shape d → l.round ≤ 4294967037
few_rounds me k l d h member tried fits =
    let last = and_parts _ _ tried in
    let peer : is_peer_kind d.message.body ≡ true = (and_parts _ _ (and_parts _ _ (and_parts _ _ (and_parts _ _ last.0).0).0).0).0 in
    let soon : this_round k ≤ round_of d.message.body + me.session.shape.life =
    leb-true (this_round k) (round_of d.message.body + me.session.shape.life) last.1
    in
    let high : round_of d.message.body ≤ me.session.shape.rounds = round_high me.session.shape d.message.body fits.range peer in
    let most : me.session.shape.rounds ≤ most_long_rounds = member.session.shape.rounds_high in
    let few : me.session.shape.life ≤ 16 = me.session.shape.shaped.few in
    let round : l.round ≡ this_round k = h.round in
    omega (arith, soon, high, most, few, round)

-- A REQUEST or a QUERY is heard.
use Rattle.std.proofs.Common.{◌≡◌, ◌+◌, ◌∙◌, ℕ, Bool, true, false, ◌&&◌, List, Option, Some, None, refl, sym, ap, subst, cond, arith}
use Rattle.std.specs.Prelude.{◌==◌, nat_lt, nat_le, option_map, option_and_then, if◌then◌else◌}
use Rattle.std.specs.Bool.{then_some}
use Rattle.std.proofs.lemmas.Bool.{and_parts, and_right, false≢true}
use Rattle.std.proofs.lemmas.Option.{none-some, same_Some}
use Rattle.bar_window.specs.declared.exchange.Exchange.{Exchange}
use Rattle.bar_window.specs.declared.exchange.Role.{Role}
use Rattle.bar_window.specs.declared.exchange.Role.TheVariants.{Initiator, Responder}
use Rattle.bar_window.specs.declared.exchange.XKind.{XKind}
use Rattle.bar_window.specs.declared.exchange.XKind.TheVariants.{Balanced, Push}
use Rattle.bar_window.specs.declared.terms.Terms.{Terms as WindowTerms}
use Rattle.bar_window.specs.Exchange.{same_role, same_kind, other_role}
use Rattle.bar_window.specs.Terms.{plain_terms}
use Rattle.bar_wire.specs.Bodies.{history_in, offer_in, reply_in}
use Rattle.bar_wire.specs.Datagram.{Datagram, Body, Manifest, Block, Request, Response, Divulge, Query, Reply, Case, KeyReq, Key, Evidence, Evict, Place, place_by, part_of, kind_of, round_of, is_of}
use Rattle.bar_wire.specs.Limits.{seats_a_round}
use Rattle.bar_wire.specs.declared.kind.Kind.{Kind}
use Rattle.bar_wire.specs.declared.kind.Kind.TheVariants as kinds
use Rattle.bar_rules.specs.Member.{Member}
use Rattle.bar_rules.specs.Values.{datagram_bytes}
use Rattle.bar_rules.specs.Peer.Admission.{is_row_met}
use Rattle.bar_rules.specs.Peer.Exchanges.{request_kind}
use Rattle.bar_rules.specs.Peer.Knowledge.{Knowledge, this_round, learned, with_request, first_with}
use Rattle.bar_rules.specs.Peer.Log.{has_kind_and_round}
use Rattle.bar_rules.specs.Peer.Terms.{body_on, terms_by, trade_terms, offer_terms}
use Rattle.bar_ledger.specs.declared.entry.Entry.{Entry}
use Rattle.bar_ledger.specs.Code.Asking.{asked_as}
use Rattle.bar_ledger.specs.Code.Hearing.{same_datagram, hears}
use Rattle.bar_ledger.specs.Code.Kept.{Kept, heard_of, with_bytes, newly}
use Rattle.bar_ledger.specs.Code.Lookups.{is_said, heard_by, offer_of}
use Rattle.bar_ledger.specs.Code.Memory.{next_seat}
use Rattle.bar_ledger.specs.Code.Recalls.{IsKeptBy}
use Rattle.bar_exchange.specs.Code.Keeping.{IsBegunWith}
use Rattle.bar_exchange.specs.Code.Parts.{asked_entry}
use Rattle.bar_exchange.proofs.Admitted.{IsAdmittedOf}
use Rattle.bar_exchange.proofs.Hearing.{HearsFirst, hears_first}
use Rattle.bar_exchange.proofs.KindCases.{each_kind, same_itself}
use Rattle.bar_exchange.proofs.One.{RecallsOne}
use Rattle.bar_exchange.proofs.Places.{first_one, not_of_kind, is_of_itself}
use Rattle.bar_exchange.proofs.Rooms.{bytes_heard, none_heard}
use Rattle.bar_exchange.proofs.Same.{own_body, other_body}
use Rattle.bar_exchange.proofs.Begun.{no_offer, no_push}
use Rattle.bar_bytes.proofs.Options.{or-untold}

-- ---- what follows from its row

-- The datagram asks for the exchange in time, while a seat is free, and takes one.
pub record AsksFor (me : Member) (k : Knowledge) (d : Datagram) (b : Body) (x : Exchange) : Type 0 where
  pub free : nat_lt (k.asked x.kind x.round) seats_a_round ≡ true
  pub in_time : nat_le (this_round k) (x.round + 1) ≡ true
  pub adds : learned me d k b ≡ with_request d k
  pub round_is : round_of b ≡ x.round

no_request : (kind : Kind) (xkind : XKind) → same_datagram kind kinds.Request ≡ false → same_datagram kind kinds.Query ≡ false → kind ≡ request_kind xkind → ⊥
no_request kind Balanced r q e = false≢true (sym r ∙ ap (λ kind. same_datagram kind kinds.Request) e)
no_request kind Push r q e = false≢true (sym q ∙ ap (λ kind. same_datagram kind kinds.Query) e)

pub asks_for : (me : Member) (k : Knowledge) (d : Datagram) (from to : ℕ) (b : Body) (x : Exchange) → kind_of b ≡ request_kind x.kind
    → option_map (place_by from to) (part_of b) ≡ Some (record { exchange = x; role = Initiator }) → is_row_met me k from to b ≡ true → AsksFor me k d b x
asks_for me k d from to (Request r seed c) x e at row =
    let is : ◌≡◌ {A = Exchange} (record { round = r; kind = Balanced; initiator = from; responder = to }) x = ap (λ (p : Place). p.exchange) (same_Some _ _ at) in
    record {
      free = (λ i. nat_lt (k.asked (sym is i).kind (sym is i).round) seats_a_round) ∙ (and_parts _ _ (and_parts _ _ (and_parts _ _ row).0).0).1;
      in_time = (λ i. nat_le (this_round k) ((sym is i).round + 1)) ∙ (and_parts _ _ (and_parts _ _ row).1).1;
      adds = refl;
      round_is = ap (λ (x : Exchange). x.round) is;
    }
asks_for me k d from to (Query r seed y o) x e at row =
    let is : ◌≡◌ {A = Exchange} (record { round = r; kind = Push; initiator = from; responder = to }) x = ap (λ (p : Place). p.exchange) (same_Some _ _ at) in
    let asks = (and_parts _ _ row).1 in
    record {
      free = (λ i. nat_lt (k.asked (sym is i).kind (sym is i).round) seats_a_round) ∙ (and_parts _ _ (and_parts _ _ (and_parts _ _ asks).0).0).1;
      in_time = (λ i. nat_le (this_round k) ((sym is i).round + 1)) ∙ (and_parts _ _ (and_parts _ _ asks).1).1;
      adds = refl;
      round_is = ap (λ (x : Exchange). x.round) is;
    }
asks_for me k d from to (Manifest r ds) x e at row = absurd (no_request _ x.kind refl refl e)
asks_for me k d from to (Block u bytes) x e at row = absurd (no_request _ x.kind refl refl e)
asks_for me k d from to (Response r hb) x e at row = absurd (no_request _ x.kind refl refl e)
asks_for me k d from to (Divulge r n ha) x e at row = absurd (no_request _ x.kind refl refl e)
asks_for me k d from to (Reply r w g z) x e at row = absurd (no_request _ x.kind refl refl e)
asks_for me k d from to (Case c) x e at row = absurd (no_request _ x.kind refl refl e)
asks_for me k d from to (KeyReq r kind role) x e at row = absurd (no_request _ x.kind refl refl e)
asks_for me k d from to (Key g) x e at row = absurd (no_request _ x.kind refl refl e)
asks_for me k d from to (Evidence ds) x e at row = absurd (no_request _ x.kind refl refl e)
asks_for me k d from to (Evict r ps) x e at row = absurd (no_request _ x.kind refl refl e)

-- ---- counts

same_requests : (a b : XKind) → same_datagram (request_kind a) (request_kind b) ≡ same_kind a b
same_requests Balanced Balanced = refl
same_requests Balanced Push = refl
same_requests Push Balanced = refl
same_requests Push Push = refl

-- one more request of its kind and round
pub one_asked : (d : Datagram) (x : Exchange) (seat : ℕ) (terms : WindowTerms) → kind_of d.message.body ≡ request_kind x.kind → round_of d.message.body ≡ x.round → (kind : XKind) (round : ℕ)
    → asked_as kind round (Some (newly (asked_entry x seat terms))) ≡ (if has_kind_and_round (request_kind kind) round d.message then 1 else 0)
one_asked d x seat terms is at kind round =
    (λ i. 0 + cond (sym (same_requests x.kind kind) i && (x.round == round)) 1 0)
    ∙ (λ i. 0 + cond (same_datagram (sym is i) (request_kind kind) && (sym at i == round)) 1 0)
    ∙ zero_more _
  where
    zero_more : (n : ℕ) → 0 + n ≡ n
    zero_more n = omega arith

-- the seat is the number of earlier requests
pub seat_is : (asked seat : ℕ) → Some seat ≡ next_seat asked → asked ≡ seat
seat_is asked seat e = go (nat_lt asked seats_a_round) e
  where
    go : (b : Bool) → Some seat ≡ then_some b asked → asked ≡ seat
    go true e = sym (same_Some seat asked e)
    go false e = absurd (none-some seat (sym e))

pub seat_free : (asked : ℕ) → nat_lt asked seats_a_round ≡ true → next_seat asked ≡ None → ⊥
seat_free asked free e = none-some asked (sym e ∙ ap (λ b. then_some b asked) free)

-- ---- the kept state

first_room : (kind : XKind) (bytes : List ℕ) (k : Kept) → with_bytes (request_kind kind) bytes k ≡ record k { first = Some bytes }
first_room Balanced bytes k = refl
first_room Push bytes k = refl

pub request_hears : (kind : XKind) → hears (request_kind kind) kind Responder ≡ true
request_hears Balanced = refl
request_hears Push = refl

none_said : (x : Exchange) (seat : ℕ) (terms : WindowTerms) (kind : Kind) → is_said kind (asked_entry x seat terms) ≡ false
none_said x seat terms = each_kind (λ kind. is_said kind (asked_entry x seat terms) ≡ false) (no _) (no _) (no _) (no _) (no _) (no _) (no _) refl (no _) refl (no _) (no _)
  where
    no : (b : Bool) → (b && false) ≡ false
    no true = refl
    no false = refl

none_by : (e : Entry) (kind : Kind) (role : Role) → heard_by kind role (newly e) ≡ None
none_by e kind role = ap (λ o. if same_role role (other_role e.role) then o else None) (none_heard e kind) ∙ both (same_role role (other_role e.role))
  where
    both : (b : Bool) → ◌≡◌ {A = Option (List ℕ)} (if b then None else None) None
    both true = refl
    both false = refl

-- The request begins the exchange, with the kept state before and after it.
pub record Begins (me : Member) (k : Knowledge) (d : Datagram) (x : Exchange) (seat : ℕ) (terms : WindowTerms) (bytes : List ℕ) : Type 0 where
  pub of : IsAdmittedOf me k d x Initiator
  pub begun : IsBegunWith me d x terms
  pub bytes_are : bytes ≡ datagram_bytes me.session d
  pub before : RecallsOne me k x None
  pub seat_is : k.asked x.kind x.round ≡ seat

pub request_one : (me : Member) (k : Knowledge) (d : Datagram) (x : Exchange) (seat : ℕ) (terms : WindowTerms) (bytes : List ℕ) → Begins me k d x seat terms bytes
    → RecallsOne me (with_request d k) x (Some (with_bytes (request_kind x.kind) bytes (newly (asked_entry x seat terms))))
request_one me k d x seat terms bytes b = subst (λ kept. RecallsOne me (with_request d k) x (Some kept)) (sym (first_room x.kind bytes old)) (record {
  heard = hears_first me.session k.heard d x Initiator (request_kind x.kind) bytes old new first;
  said = λ kind role. b.before.said kind role ∙ sym (and_right (same_role role Responder) (is_said kind (asked_entry x seat terms)) (none_said x seat terms kind));
  seats =
      first_one (k.seat x) (is_of (request_kind x.kind) x Initiator d.message) (k.asked x.kind x.round) b.before.seats
      (is_of_itself d.message x Initiator b.of.at (request_kind x.kind) (ap (λ kind. same_datagram kind (request_kind x.kind)) b.begun.kind_is ∙ same_itself (request_kind x.kind)))
      ∙ ap (λ n. Some n) b.seat_is;
  revealed = b.before.revealed;
  answers = ap (option_and_then history_in) (own kinds.Response) ∙ b.before.answers;
  offers = ap (option_and_then offer_in) (other_body me (with_request d k) kinds.Query x Initiator b.of.mine) ∙ offered x.kind refl;
  replies = ap (option_and_then reply_in) (own kinds.Reply) ∙ b.before.replies;
  terms = none_yet x.kind;
})
  where
    old : Kept
    old = newly (asked_entry x seat terms)

    new : Kept
    new = record (newly (asked_entry x seat terms)) { first = Some bytes }

    first : HearsFirst me.session k.heard d x Initiator (request_kind x.kind) bytes (newly (asked_entry x seat terms)) (record (newly (asked_entry x seat terms)) { first = Some bytes })
    first = record {
      at = b.of.at;
      kind_is = b.begun.kind_is;
      side_is = refl;
      none = ap (λ kind. k.heard kind x Initiator) (sym b.begun.kind_is) ∙ b.of.new;
      bytes_are = b.bytes_are;
      before = λ kind role. b.before.heard kind role ∙ sym (none_by (asked_entry x seat terms) kind role);
      keeps = record {
        role = refl;
        heard = λ kind. ap (heard_of kind) (sym (first_room x.kind bytes (newly (asked_entry x seat terms)))) ∙ bytes_heard (request_kind x.kind) bytes (newly (asked_entry x seat terms)) (request_hears x.kind) kind;
      };
    }

    own : (kind : Kind) → body_on me (with_request d k) kind x Responder ≡ body_on me k kind x Responder
    own kind = own_body me (with_request d k) kind x Responder b.of.mine ∙ sym (own_body me k kind x Responder b.of.mine)

    offered : (kind : XKind) → x.kind ≡ kind → option_and_then offer_in (option_map (λ (d : Datagram). d.message.body) (first_with d k.heard kinds.Query x Initiator)) ≡ offer_of (plain_terms terms)
    offered Push is =
        let query : kind_of d.message.body ≡ kinds.Query = b.begun.kind_is ∙ ap request_kind is in
        ap (λ o. option_and_then offer_in (option_map (λ (d : Datagram). d.message.body) o))
        (first_one (k.heard kinds.Query x Initiator) (is_of kinds.Query x Initiator d.message) d (ap (λ kind. k.heard kind x Initiator) (sym query) ∙ b.of.new)
        (is_of_itself d.message x Initiator b.of.at kinds.Query (ap (λ kind. same_datagram kind kinds.Query) query)))
        ∙ b.begun.offer
    offered Balanced is =
        let request : kind_of d.message.body ≡ kinds.Request = b.begun.kind_is ∙ ap request_kind is in
        ap (λ o. option_and_then offer_in (option_map (λ (d : Datagram). d.message.body) o))
        (or-untold (k.heard kinds.Query x Initiator) (is_of kinds.Query x Initiator d.message) d (not_of_kind d.message kinds.Query (ap (λ kind. same_datagram kind kinds.Query) request) x Initiator))
        ∙ ap (option_and_then offer_in) (sym (other_body me k kinds.Query x Initiator b.of.mine))
        ∙ b.before.offers ∙ sym (no_offer (plain_terms terms) (b.begun.form ∙ is))

    none_yet : (kind : XKind) → terms_by kind me (with_request d k) x ≡ None
    none_yet Balanced = ap (λ o. trade_terms o (option_and_then history_in (body_on me (with_request d k) kinds.Response x Responder))) b.before.revealed
    none_yet Push =
        ap (offer_terms (option_and_then offer_in (body_on me (with_request d k) kinds.Query x Initiator))) (ap (option_and_then reply_in) (own kinds.Reply) ∙ b.before.replies)
        ∙ no_push (option_and_then offer_in (body_on me (with_request d k) kinds.Query x Initiator))

pub request_by : (me : Member) (k : Knowledge) (d : Datagram) (x : Exchange) (seat : ℕ) (terms : WindowTerms) (bytes : List ℕ) → Begins me k d x seat terms bytes
    → IsKeptBy me x (with_bytes (request_kind x.kind) bytes (newly (asked_entry x seat terms)))
request_by me k d x seat terms bytes b = subst (IsKeptBy me x) (sym (first_room x.kind bytes (newly (asked_entry x seat terms)))) (record {
  side = sym b.of.mine;
  form = b.begun.form;
  windows = b.begun.windows;
  asked = λ e. absurd (cc);
  opened = λ e. absurd (false≢true e);
})

-- A briefcase and a key that opens it badly show a fault of their sender, and are completed as evidence.
use Rattle.bar_wire.specs.Bodies.{briefcase_in, key_in, is_peer_kind}
use Rattle.std.specs.Bool.{then_some}
use Rattle.bar_wire.specs.declared.kind.Kind.TheVariants as kinds
use Rattle.bar_rules.specs.Peer.Evidence.{is_tried, pair_with, pairs_in, pairs_by, pairs_elsewhere, accuses, if_accuses, new_evidence}
use Rattle.bar_rules.specs.Peer.Exchanges.{opening_kind}
use Rattle.bar_rules.specs.Peer.Knowledge.{known}
use Rattle.bar_rules.specs.Peer.Log.{Log, first_heard, table}
use Rattle.bar_rules.specs.Member.{Session, Member}
use Rattle.bar_rules.specs.Values.{datagram_bytes, datagram_of, is_signed_by}
use Rattle.bar_rules.specs.Judge.Verdict.{Fault, Shown, BadOpening, LeafTwice, verdict, verdict_on, all_read, fault_of_messages, fault_of_two, is_leaf_twice, bad_opening, pair_opening, key_fits, are_of_one_peer}
use Rattle.bar_terms.specs.Table.{Table}
use Rattle.bar_window.specs.declared.exchange.Exchange.{Exchange}
use Rattle.bar_wire.specs.Datagram.{Datagram, Case, Key, Briefcase, KeyGiven, is_of, part_of, exchange_by, place_by}
use Rattle.std.specs.Option.{option_or}
use Rattle.std.proofs.Common.{◌≡◌, Bool, true, false, [], ◌∷◌, refl, sym, ap, subst}
use Rattle.std.specs.Prelude.{Option, Some, None, is_some, option_map}
use Rattle.std.specs.List.{list_all}
use Rattle.std.proofs.lemmas.Bool.{and_from, eq-eqb}
use Rattle.bar_laws.proofs.Logs.{some-more}

-- under which conditions a pair of a briefcase and a key shows a bad opening
pub record IsBadPair (s : Session) (t : Table) (d e : Datagram) (c : Briefcase) (k : KeyGiven) : Type 0 where
  pub case : d.message.body ≡ Case c
  pub key : e.message.body ≡ Key k
  pub from : d.message.from ≡ e.message.from
  pub fits : key_fits d.message c e.message k ≡ true
  pub bad : pair_opening s t d.message c k ≡ true
  pub case_signed : is_signed_by s d ≡ true
  pub key_signed : is_signed_by s e ≡ true
  pub case_reads : datagram_of s (datagram_bytes s d) ≡ Some d
  pub key_reads : datagram_of s (datagram_bytes s e) ≡ Some e

messages-fault : (s : Session) (t : Table) (d e : Datagram) (c : Briefcase) (k : KeyGiven) → IsBadPair s t d e c k → fault_of_messages s t d.message e.message ≡ Some BadOpening
messages-fault s t d e c k p =
    let h : bad_opening s t d.message e.message (briefcase_in d.message.body) (key_in e.message.body) ≡ true = rw (p.case, p.key) (and_from _ _ p.fits p.bad) in
    rw h refl

-- unless their leaves show them first
pair-fault : (s : Session) (t : Table) (d e : Datagram) (c : Briefcase) (k : KeyGiven) → IsBadPair s t d e c k → (f : Fault) × (fault_of_two s t d e ≡ Some f)
pair-fault s t d e c k p = go (is_leaf_twice s d e) (fault_of_messages s t d.message e.message) (messages-fault s t d e c k p)
  where
    go : (b : Bool) (o : Option Fault) → o ≡ Some BadOpening → (f : Fault) × (option_or (then_some b LeafTwice) o ≡ Some f)
    go true o h = (LeafTwice, refl)
    go false o h = (BadOpening, h)

one-peer : (s : Session) (t : Table) (d e : Datagram) (c : Briefcase) (k : KeyGiven) → IsBadPair s t d e c k → are_of_one_peer (d ∷ e ∷ []) ≡ true
one-peer s t d e c k p =
    and_from _ _ (and_from _ _ (ap is_peer_kind p.case) (eq-eqb d.message.from d.message.from refl))
    (and_from _ _ (and_from _ _ (ap is_peer_kind p.key) (eq-eqb _ _ (sym p.from))) refl)

both-signed : (s : Session) (t : Table) (d e : Datagram) (c : Briefcase) (k : KeyGiven) → IsBadPair s t d e c k → list_all (is_signed_by s) (d ∷ e ∷ []) ≡ true
both-signed s t d e c k p = and_from _ _ p.case_signed (and_from _ _ p.key_signed refl)

pair-read : (s : Session) (t : Table) (d e : Datagram) (c : Briefcase) (k : KeyGiven) → IsBadPair s t d e c k → all_read s (datagram_bytes s d ∷ datagram_bytes s e ∷ []) ≡ Some (d ∷ e ∷ [])
pair-read s t d e c k p = rw (p.case_reads, p.key_reads) refl

pub pair-shown : (s : Session) (t : Table) (d e : Datagram) (c : Briefcase) (k : KeyGiven) → IsBadPair s t d e c k
    → (f : Fault) × (verdict s t (datagram_bytes s d ∷ datagram_bytes s e ∷ []) ≡ Shown d.message.from f)
pair-shown s t d e c k p =
    let f = pair-fault s t d e c k p in (
      f.0,
      subst (λ o. verdict_on s t o ≡ Shown d.message.from f.0) (sym (pair-read s t d e c k p))
          (rw (one-peer s t d e c k p, both-signed s t d e c k p, f.1) refl),
    )

pair-serves : (s : Session) (t : Table) (d e : Datagram) (c : Briefcase) (k : KeyGiven) → IsBadPair s t d e c k → is_some (pair_with s t e (Some d)) ≡ true
pair-serves s t d e c k p =
    let named : accuses e.message.from (verdict s t (datagram_bytes s d ∷ datagram_bytes s e ∷ [])) ≡ true = rw (pair-shown s t d e c k p).1 (eq-eqb _ _ p.from) in
    rw named refl

pub or-second : {A : Type 0} (o p : Option A) → is_some p ≡ true → is_some (option_or o p) ≡ true
or-second (Some a) p h = refl
or-second None p h = h

-- evidence is completed if the CASE that was heard first and this key make a bad pair
pub bad-completed : (me : Member) (log : Log) (d e : Datagram) (c : Briefcase) (k : KeyGiven)
    → first_heard (is_of kinds.Case (exchange_by k.round k.kind k.role e.message.from e.message.to) k.role) log ≡ Some d → is_tried me (known me log) e ≡ true → IsBadPair me.session (table log) d e c k
    → is_some (new_evidence me (known me log) e) ≡ true
unfolding new_evidence
bad-completed me log d e c k found tried p =
    let x : Exchange = exchange_by k.round k.kind k.role e.message.from e.message.to in
    let case : is_some (pair_with me.session (table log) e (first_heard (is_of kinds.Case x k.role) log)) ≡ true =
    subst (λ o. is_some (pair_with me.session (table log) e o) ≡ true) (sym found) (pair-serves me.session (table log) d e c k p) in
    let pairs : is_some (pairs_in me.session (known me log) e x k.role) ≡ true =
    or-second (pair_with me.session (table log) e (first_heard (is_of (opening_kind x.kind k.role) x k.role) log)) _ (some-more _ _ case) in
    rw tried
    (or-second (if_accuses me.session (table log) e.message.from (datagram_bytes me.session e ∷ [])) _
    (some-more _ (pairs_elsewhere me (known me log) e (option_map (place_by e.message.from e.message.to) (part_of e.message.body)))
    (subst (λ b. is_some (pairs_by me.session (known me log) e (option_map (place_by e.message.from e.message.to) (part_of b))) ≡ true) (sym p.key) pairs)))

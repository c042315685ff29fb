-- The first bad item of a briefcase that opens badly.
use Rattle.std.proofs.Common.{◌≡◌, ◌∙◌, ℕ, ◌&&◌, true, refl, sym, ap, length, ◌==◌}
use Rattle.std.specs.Prelude.{Option, Some, None, is_some, option_and_then}
use Rattle.std.proofs.lemmas.Bool.{and_parts, eqb-true}
use Rattle.bar_window.specs.declared.exchange.Exchange.{Exchange}
use Rattle.bar_terms.specs.Table.{Table, no_lists}
use Rattle.bar_terms.specs.Terms.{promise, promised_junk, promised_updates}
use Rattle.bar_wire.specs.Bodies.{briefcase_in, key_in}
use Rattle.bar_wire.specs.Datagram.{Message, Briefcase, KeyGiven, exchange_by}
use Rattle.bar_rules.specs.Member.{Session}
use Rattle.bar_rules.specs.Values.{counts_ok, opening_of, terms_ok}
use Rattle.bar_rules.specs.Judge.Verdict.{bad_opening}
use Rattle.bar_proof.specs.Needs.{bad_item, bad_round, round_of_item, OpensBadly}

-- a briefcase that opens badly has valid terms, and counts that are those of the promise
pub opened-valid : (s : Session) (table : Table) (m n : Message) (c : Briefcase) (x : Exchange) → OpensBadly s table m n → briefcase_in m.body ≡ Some c
    → is_some (key_in n.body) ≡ true → x ≡ exchange_by c.round c.kind c.role m.from m.to → (terms_ok s no_lists x c.terms && counts_ok s c) ≡ true
opened-valid s table m n c x opens of some is = go (key_in n.body) (λ k key. opens c k of key) some
  where
    go : (o : Option KeyGiven) → ((k : KeyGiven) → o ≡ Some k → bad_opening s table m n (Some c) (Some k) ≡ true) → is_some o ≡ true
        → (terms_ok s no_lists x c.terms && counts_ok s c) ≡ true
    go None each some = cc
    go (Some k) each some = rw is (and_parts _ _ (and_parts _ _ (each k refl)).1).0

-- counts are those of the promise
pub record HasCounts (s : Session) (c : Briefcase) : Type 0 where
  pub updates : c.updates ≡ length (promised_updates s.cap c.terms c.role)
  pub junk : c.junk ≡ promised_junk c.terms c.role

pub counts-are : (s : Session) (c : Briefcase) → counts_ok s c ≡ true → HasCounts s c
counts-are s c ok =
    let p : ((c.updates == length (promised_updates s.cap c.terms c.role)) ≡ true) × ((c.junk == promised_junk c.terms c.role) ≡ true) = and_parts _ _ ok in
    record { updates = eqb-true _ _ p.0; junk = eqb-true _ _ p.1 }

-- what is found of a briefcase and a key holds of the two datagrams
pub bad-told : (s : Session) (table : Table) (m : Message) (c : Briefcase) {k : KeyGiven} (x : Exchange) (r : Option ℕ) (oc : Option Briefcase) (ok : Option KeyGiven)
    → oc ≡ Some c → ok ≡ Some k → x ≡ exchange_by c.round c.kind c.role m.from m.to
    → r ≡ option_and_then round_of_item (bad_item (opening_of s table x c k.key) (promise s.cap c.terms c.role)) → r ≡ bad_round s table m oc ok
bad-told s table m c {k} x r oc ok oc_is ok_is x_is r_is =
    r_is
    ∙ ap (λ y. option_and_then round_of_item (bad_item (opening_of s table y c k.key) (promise s.cap c.terms c.role))) x_is
    ∙ (λ i. bad_round s table m (sym oc_is i) (sym ok_is i))

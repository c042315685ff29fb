-- What evidence needs, by its datagrams.
use Rattle.std.proofs.Common.{◌≡◌, ◌∙◌, Bool, true, false, refl, sym, inl, inr}
use Rattle.std.specs.Prelude.{Option, Some, None, ◌⊎◌, is_some, option_map}
use Rattle.std.specs.Borrow.{Bor}
use Rattle.std.specs.Bool.{then_some}
use Rattle.std.specs.Option.{option_copied, option_or}
use Rattle.std.proofs.lemmas.Option.{none-some}
use Rattle.bar_terms.specs.Table.{Table, no_lists}
use Rattle.bar_wire.specs.declared.shape.Shape.{Shape}
use Rattle.bar_wire.specs.declared.view.View.{View}
use Rattle.bar_judge.specs.Code.Parts.{datagrams, with_second}
use Rattle.bar_wire.specs.Bodies.{briefcase_in, key_in}
use Rattle.bar_wire.specs.Datagram.{Message, Datagram}
use Rattle.bar_rules.specs.Member.{Session}
use Rattle.bar_rules.specs.Judge.Verdict.{Fault, LeafTwice, bad_opening, fault_by_words, is_leaf_twice, fault_of_messages, fault_of_two}
use Rattle.bar_proof.specs.Needs.{OpensBadly}
use Rattle.bar_proof.proofs.Enough.{two-by, other-way}

-- ---- pairs

pub same-datagrams : (s : Shape) (one : View) (o : Option (Bor View)) → datagrams s one o ≡ with_second s one (option_copied o)
same-datagrams s one None = refl
same-datagrams s one (Some two) = refl

pub is-some-mapped : {A B : Type 0} (f : A → B) (o : Option A) → is_some o ≡ is_some (option_map f o)
is-some-mapped f None = refl
is-some-mapped f (Some x) = refl

-- ---- openings

with-case : (s : Session) (table : Table) (m n : Message) → bad_opening s table m n (briefcase_in m.body) (key_in n.body) ≡ true → OpensBadly s table m n
with-case s table m n bad c k of key = (λ i. bad_opening s table m n (sym of i) (sym key i)) ∙ bad

without-case : (s : Session) (table : Table) (m n : Message) → briefcase_in m.body ≡ None → OpensBadly s table m n
without-case s table m n none c k of key = absurd (none-some c (sym none ∙ of))

-- two datagrams that show a fault only because of a list
pub open-badly : (s : Session) (table : Table) (d e : Datagram) → fault_of_two s no_lists d e ≡ None → is_some (fault_of_two s table d e) ≡ true
    → OpensBadly s table d.message e.message × OpensBadly s table e.message d.message
open-badly s table d e none some = by_leaves (is_leaf_twice s d e) none some
  where
    m : Message
    m = d.message

    n : Message
    n = e.message

    by_side : (bad_opening s table m n (briefcase_in m.body) (key_in n.body) ≡ true) ⊎ ((bad_opening s table m n (briefcase_in m.body) (key_in n.body) ≡ false) × (bad_opening s table n m (briefcase_in n.body) (key_in m.body) ≡ true))
        → OpensBadly s table m n × OpensBadly s table n m
    by_side (inl bad) = (with-case s table m n bad, without-case s table n m (other-way s table n m bad))
    by_side (inr bad) = (without-case s table m n (other-way s table m n bad.1), with-case s table n m bad.1)

    by_fault : (o : Option Fault) → fault_of_messages s table m n ≡ o → is_some o ≡ true → fault_of_messages s no_lists m n ≡ None → OpensBadly s table m n × OpensBadly s table n m
    by_fault None is some none = cc
    by_fault (Some f) is some none =
        let p = two-by (bad_opening s table m n (briefcase_in m.body) (key_in n.body)) (bad_opening s no_lists m n (briefcase_in m.body) (key_in n.body))
        (bad_opening s table n m (briefcase_in n.body) (key_in m.body)) (bad_opening s no_lists n m (briefcase_in n.body) (key_in m.body))
        (fault_by_words s m n) (fault_by_words s n m) f none is in
        by_side p.5

    by_leaves : (twice : Bool) → option_or (then_some twice LeafTwice) (fault_of_messages s no_lists m n) ≡ None
        → is_some (option_or (then_some twice LeafTwice) (fault_of_messages s table m n)) ≡ true → OpensBadly s table m n × OpensBadly s table n m
    by_leaves true none some = cc
    by_leaves false none some = by_fault (fault_of_messages s table m n) refl some none

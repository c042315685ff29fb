-- Heard datagrams of several exchanges that pass a test, and the case that none does.
use Rattle.std.proofs.Common.{◌≡◌, ◌∙◌, ◌||◌, ◌&&◌, ◌==◌, ℕ, suc, ◌+◌, Bool, true, false, cond, List, [], ◌∷◌, ◌++◌, Option, Some, None, refl, sym, ap, subst, inl, inr}
use Rattle.std.specs.Prelude.{option_and_then}
use Rattle.std.specs.Option.{option_or, option_map_or}
use Rattle.std.specs.List.{AllByRecursion, find, list_any}
use Rattle.std.proofs.lemmas.Bool.{eq-eqb, false≢true, or_parts}
use Rattle.std.proofs.lemmas.Option.{same_Some}
use Rattle.bar_window.specs.declared.exchange.Exchange.{Exchange}
use Rattle.bar_window.specs.declared.exchange.Role.{Role}
use Rattle.bar_window.specs.declared.exchange.Role.TheVariants.{Initiator, Responder}
use Rattle.bar_window.specs.declared.exchange.XKind.{XKind}
use Rattle.bar_window.specs.declared.exchange.XKind.TheVariants.{Balanced, Push}
use Rattle.bar_window.specs.Exchange.{same_exchange, same_role, other_role}
use Rattle.bar_window.proofs.Exchanges.{same_exchange-is}
use Rattle.bar_wire.specs.declared.kind.Kind.{Kind}
use Rattle.bar_wire.specs.declared.kind.Kind.TheVariants as kinds
use Rattle.bar_rules.specs.Peer.Evidence.{between, shared_from}
use Rattle.bar_rules.specs.Peer.Exchanges.{opening_kind}
use Rattle.bar_rules.proofs.Shared.{AreParties, IsShared}
use Rattle.bar_ledger.specs.declared.ledger.Ledger.{Ledger}
use Rattle.bar_ledger.specs.Code.Hearing.{is_opening}
use Rattle.bar_ledger.specs.Code.Kept.{Kept, heard_of, is_for}
use Rattle.bar_ledger.specs.Code.Lookups.{heard_by}
use Rattle.bar_ledger.specs.Code.Memory.{entries_in, find_in}
use Rattle.bar_ledger.specs.Code.Naming.{names, any_names, is_beside, shares_leaf}
use Rattle.bar_exchange.specs.Code.Naming.{if_passing, passing_as, passing_in, passing_beside, passing_among, side_beside}

-- ---- lists of exchanges

or_assoc : (a b c : Option (List ℕ)) → option_or (option_or a b) c ≡ option_or a (option_or b c)
or_assoc None b c = refl
or_assoc (Some x) b c = refl

-- a search in two concatenated lists is a search in the first one, then in the second
pub passing_both : (test : List ℕ → Bool) (l : Ledger) (x : Exchange) (xs ys : List Exchange)
    → passing_among test l x (xs ++ ys) ≡ option_or (passing_among test l x xs) (passing_among test l x ys)
passing_both test l x [] ys = refl
passing_both test l x (y ∷ xs) ys =
    ap (λ o. option_or (passing_beside test l x y) o) (passing_both test l x xs ys)
    ∙ sym (or_assoc (passing_beside test l x y) (passing_among test l x xs) (passing_among test l x ys))

-- the same with one more round
pub passing_round : (test : List ℕ → Bool) (l : Ledger) (x : Exchange) (p q round count : ℕ)
    → passing_among test l x (shared_from p q round (suc count))
    ≡ option_or (passing_among test l x (between p q round Balanced ++ between p q round Push)) (passing_among test l x (shared_from p q (round + 1) count))
passing_round test l x p q round count =
    passing_both test l x (between p q round Balanced ++ between p q round Push) (shared_from p q (round + 1) count)

-- ---- if none passes

-- All three tests fail.
abbrev AllFail : Bool → Bool → Bool → Type 0
AllFail a b c = (a ≡ false) × ((b ≡ false) × (c ≡ false))

none_of : (a b c : Bool) → (a || b || c) ≡ false → AllFail a b c
none_of false false c e = (refl, (refl, e))
none_of false true c e = absurd (false≢true (sym e))
none_of true b c e = absurd (false≢true (sym e))

-- an element found in a list of which no element passes the test doesn't pass it either
found_apart : (p test : Kept → Bool) (ks : List Kept) (k : Kept) → find p ks ≡ Some k → list_any test ks ≡ false → (p k ≡ true) × (test k ≡ false)
found_apart p test [] k e none = absurd (cc)
found_apart p test (j ∷ ks) k e none =
    let parts = or_parts (test j) (list_any test ks) none in
    go (p j) refl parts.0 (λ f. found_apart p test ks k f parts.1) e
  where
    go : (b : Bool) → p j ≡ b → test j ≡ false → (find p ks ≡ Some k → (p k ≡ true) × (test k ≡ false))
        → cond b (Some j) (find p ks) ≡ Some k → (p k ≡ true) × (test k ≡ false)
    go true is apart rest e = subst (λ z. (p z ≡ true) × (test z ≡ false)) (same_Some j k e) (is, apart)
    go false is apart rest e = rest e

none_passing : (test : List ℕ → Bool) (o : Option (List ℕ)) → option_map_or test o false ≡ false → option_and_then (if_passing test) o ≡ None
none_passing test None e = refl
none_passing test (Some bytes) e = rw e refl

-- no datagram of a side passes
none_by : (test : List ℕ → Bool) (kind : Kind) (role : Role) (k : Kept) → option_map_or test (heard_of kind k) false ≡ false
    → option_and_then (if_passing test) (heard_by kind role k) ≡ None
none_by test kind role k e = go (same_role role (other_role k.entry.role))
  where
    go : (b : Bool) → option_and_then (if_passing test) (cond b (heard_of kind k) None) ≡ None
    go true = none_passing test (heard_of kind k) e
    go false = refl

first_fails : (test : List ℕ → Bool) (o : Option (List ℕ)) (b : Bool) → option_map_or test o false ≡ false
    → option_map_or test (cond b o None) false ≡ false
first_fails test o true e = e
first_fails test o false e = refl

opening_fails : (test : List ℕ → Bool) (kind : XKind) (role : Role) (k : Kept) → option_map_or test k.first false ≡ false
    → option_map_or test (heard_of (opening_kind kind role) k) false ≡ false
opening_fails test Balanced Initiator k e = first_fails test k.first (is_opening kinds.Request k.entry.x.kind k.entry.role) e
opening_fails test Balanced Responder k e = first_fails test k.first (is_opening kinds.Response k.entry.x.kind k.entry.role) e
opening_fails test Push Initiator k e = first_fails test k.first (is_opening kinds.Query k.entry.x.kind k.entry.role) e
opening_fails test Push Responder k e = first_fails test k.first (is_opening kinds.Reply k.entry.x.kind k.entry.role) e

one_of : (p q : ℕ) (y : Exchange) → AreParties p q y → ((y.initiator == q) || (y.responder == q)) ≡ true
one_of p q y (inl s) = go (y.initiator == q) (eq-eqb y.responder q s.1)
  where
    go : (b : Bool) → (y.responder == q) ≡ true → (b || (y.responder == q)) ≡ true
    go true e = refl
    go false e = e
one_of p q y (inr s) = ap (λ b. b || (y.responder == q)) (eq-eqb y.initiator q s.0)

module _ (named : List ℕ → ℕ) (len leaf : ℕ) (l : Ledger) (x : Exchange) (party : ℕ) (none : list_any (shares_leaf named len leaf x party) (entries_in l) ≡ false) where
  abbrev test : List ℕ → Bool
  test = names named len leaf

  -- no signature in another exchange with the party names the leaf
  unnamed_kept : (y : Exchange) (k : Kept) → AreParties l.me party y → same_exchange x y ≡ false → find_in l y ≡ Some k → any_names named len leaf k ≡ false
  unnamed_kept y k parties other e =
      let both = found_apart (is_for y) (shares_leaf named len leaf x party) (entries_in l) k e none in
      let here : k.entry.x ≡ y = same_exchange-is k.entry.x y both.0 in
      let beside : is_beside x party k.entry.x ≡ true =
      subst (λ z. is_beside x party z ≡ true) (sym here) (rw other (one_of l.me party y parties))
      in
      (λ i. sym beside i && any_names named len leaf k) ∙ both.1

  unnamed_as : (kind : Kind) (y : Exchange) (role : Role) → ((k : Kept) → find_in l y ≡ Some k → option_map_or test (heard_of kind k) false ≡ false)
      → passing_as test l kind y role ≡ None
  unnamed_as kind y role fails = go (find_in l y) refl
    where
      go : (o : Option Kept) → find_in l y ≡ o → option_and_then (if_passing test) (option_and_then (heard_by kind role) o) ≡ None
      go None e = refl
      go (Some k) e = none_by test kind role k (fails k e)

  unnamed_in : (y : Exchange) (role : Role) → AreParties l.me party y → same_exchange x y ≡ false → passing_in test l y role ≡ None
  unnamed_in y role parties other =
      let fail : (k : Kept) → find_in l y ≡ Some k
      → AllFail (option_map_or test k.first false) (option_map_or test k.case false) (option_map_or test k.key false) =
      λ k e.
      none_of (option_map_or test k.first false) (option_map_or test k.case false) (option_map_or test k.key false) (unnamed_kept y k parties other e)
      in
      let first : passing_as test l (opening_kind y.kind role) y role ≡ None =
      unnamed_as (opening_kind y.kind role) y role (λ k e. opening_fails test y.kind role k (fail k e).0)
      in
      let case : passing_as test l kinds.Case y role ≡ None = unnamed_as kinds.Case y role (λ k e. (fail k e).1.0) in
      let key : passing_as test l kinds.Key y role ≡ None = unnamed_as kinds.Key y role (λ k e. (fail k e).1.1) in
      λ i. option_or (first i) (option_or (case i) (key i))

  unnamed_beside : (y : Exchange) → AreParties l.me party y → passing_beside test l x y ≡ None
  unnamed_beside y parties = go (same_exchange x y) refl
    where
      go : (b : Bool) → same_exchange x y ≡ b → cond b None (passing_in test l y (side_beside l.me y)) ≡ None
      go true e = refl
      go false e = unnamed_in y (side_beside l.me y) parties e

  pub unnamed_among : (low : ℕ) (ys : List Exchange) → AllByRecursion (IsShared l.me party low) ys → passing_among test l x ys ≡ None
  unnamed_among low [] all = refl
  unnamed_among low (y ∷ ys) all = λ i. option_or (unnamed_beside y all.0.parties i) (unnamed_among low ys all.1 i)

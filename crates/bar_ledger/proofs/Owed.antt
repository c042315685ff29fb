-- A party owes a key by the kept state if and only if it owes it by the knowledge.
use Rattle.std.proofs.Common.{◌≡◌, ◌∙◌, ℕ, ◌+◌, Bool, true, false, ◌&&◌, ◌||◌, List, [], ◌∷◌, Some, None, is_some, refl, sym, ap, subst, inl, inr, arith}
use Rattle.std.specs.Prelude.{◌==◌, not, nat_le, fold, IfSome, option_and_then, if◌then◌else◌}
use Rattle.std.specs.Option.{option_map_or}
use Rattle.std.specs.List.{list_any, IsDistinct}
use Rattle.std.proofs.lemmas.Bool.{cases_Bool}
use Rattle.bar_bytes.proofs.Options.{some-mapped}
use Rattle.bar_bytes.proofs.Tests.{or-false, or-true}
use Rattle.bar_window.specs.declared.exchange.Exchange.{Exchange}
use Rattle.bar_window.specs.declared.exchange.Role.{Role}
use Rattle.bar_window.specs.Exchange.{same_exchange, same_role, other_role, party_on}
use Rattle.bar_window.proofs.Exchanges.{same_exchange-is, same_role_refl}
use Rattle.bar_wire.specs.Grammar.{is_third}
use Rattle.bar_wire.specs.declared.kind.Kind.TheVariants as kinds
use Rattle.bar_wire.specs.declared.shape.Shape.{Shape}
use Rattle.bar_rules.specs.Member.{Member}
use Rattle.bar_rules.specs.Values.{datagram_bytes}
use Rattle.bar_rules.specs.Peer.Agreement.{IsRecent}
use Rattle.bar_rules.specs.Peer.Debts.{owes}
use Rattle.bar_rules.specs.Peer.Debts as known
use Rattle.bar_rules.specs.Peer.Exchanges.{role_of, precedes, inserted}
use Rattle.bar_rules.specs.Peer.Knowledge.{Knowledge, this_round, answer_deadline, has_heard_of, has_said_of}
use Rattle.bar_ledger.specs.declared.ledger.Ledger.{Ledger}
use Rattle.bar_ledger.specs.Code.Asking.{is_open, with_chosen, in_order}
use Rattle.bar_ledger.specs.Code.Debts.{is_owed, owes_by}
use Rattle.bar_ledger.specs.Code.Kept.{Kept, IsKeptFor}
use Rattle.bar_ledger.specs.Code.Lookups.{heard_by, said_by}
use Rattle.bar_ledger.specs.Code.Memory.{entries_in, kept_in, find_in}
use Rattle.bar_ledger.specs.Code.Recalls.{Recalls, IsKeptBy}
use Rattle.bar_ledger.proofs.Changes.{found-own}
use Rattle.bar_ledger.proofs.Distinct.{AreFound, found-each}

-- ---- whether any of the chosen exchanges passes

or-swap : (a b c : Bool) → (a || (b || c)) ≡ (b || (a || c))
or-swap true true c = refl
or-swap true false c = refl
or-swap false b c = refl

or-twice : (a b : Bool) → (a || (a || b)) ≡ (a || b)
or-twice true b = refl
or-twice false b = refl

or-between : (a b c : Bool) → ((a || b) || c) ≡ (b || (a || c))
or-between true b c = sym (or-true b)
or-between false b c = refl

any-inserted : (test : Exchange → Bool) (x : Exchange) (xs : List Exchange) → list_any test (inserted x xs) ≡ (test x || list_any test xs)
any-inserted test x [] = refl
any-inserted test x (y ∷ ys) = elim (cases_Bool (same_exchange x y)) [
  | inl same ↦
      rw same (sym (ap (λ z. test z || (test y || list_any test ys)) (same_exchange-is x y same) ∙ or-twice (test y) (list_any test ys)))
  | inr other ↦ elim (cases_Bool (precedes x y)) [
    | inl below ↦ rw (other, below) refl
    | inr above ↦ rw (other, above) (ap (λ b. test y || b) (any-inserted test x ys) ∙ or-swap (test y) (test x) (list_any test ys))
  ]
]

any-with : (pass : Kept → Bool) (test : Exchange → Bool) (xs : List Exchange) (k : Kept)
    → list_any test (with_chosen pass xs k) ≡ ((pass k && test k.entry.x) || list_any test xs)
any-with pass test xs k = elim (cases_Bool (pass k)) [ inl t ↦ rw t (any-inserted test k.entry.x xs) | inr f ↦ rw f refl ]

any-fold : (pass : Kept → Bool) (test : Exchange → Bool) (xs : List Exchange) (ks : List Kept)
    → list_any test (fold (with_chosen pass) xs ks) ≡ (list_any test xs || list_any (λ k. pass k && test k.entry.x) ks)
any-fold pass test xs [] = sym (or-false (list_any test xs))
any-fold pass test xs (k ∷ ks) =
    any-fold pass test (with_chosen pass xs k) ks
    ∙ ap (λ b. b || list_any (λ k. pass k && test k.entry.x) ks) (any-with pass test xs k)
    ∙ or-between (pass k && test k.entry.x) (list_any test xs) (list_any (λ k. pass k && test k.entry.x) ks)

any-chosen : (pass : Kept → Bool) (test : Exchange → Bool) (ks : List Kept) → list_any test (in_order pass ks) ≡ list_any (λ k. pass k && test k.entry.x) ks
any-chosen pass test ks = any-fold pass test [] ks

-- ---- the kept state of an exchange determines whether it is owed

owed-one : (me : Member) (k : Knowledge) (l : Ledger) (party : ℕ) (kept : Kept) → Recalls me k l → find_in l kept.entry.x ≡ Some kept
    → (is_open kept && known.is_owed me k party kept.entry.x) ≡ is_owed l.shape.life party (this_round k) kept
owed-one me k l party kept h found =
    let x : Exchange = kept.entry.x in
    let mine : Role = role_of me x in
    let own : IsKeptBy me x kept = subst (λ o. IfSome o (IsKeptBy me x)) found (h.kept x) in
    let live : IsKeptFor x l.shape.life l.round kept =
    subst (λ o. IfSome o (IsKeptFor x l.shape.life l.round)) found (found-own x l.shape.life l.round l.slots.items)
    in
    let life : l.shape.life ≡ me.session.shape.life = ap (λ (s : Shape). s.life) h.shape in
    let recent : IsRecent me k x.round = omega (arith, live.recent, h.round, life) in
    let said : has_said_of k kinds.Key x mine ≡ kept.entry.key_said =
    h.said kinds.Key x mine recent
    ∙ ap (λ o. option_map_or (said_by kinds.Key mine) o false) found
    ∙ (λ i. same_role mine (own.side i) && kept.entry.key_said)
    ∙ ap (λ b. b && kept.entry.key_said) (same_role_refl mine)
    in
    let heard : has_heard_of k kinds.Key x (other_role mine) ≡ is_some kept.key =
    sym (some-mapped (datagram_bytes me.session) (k.heard kinds.Key x (other_role mine)))
    ∙ ap (λ o. is_some o) (h.heard kinds.Key x (other_role mine) recent ∙ ap (option_and_then (heard_by kinds.Key (other_role mine))) found)
    ∙ (λ i. is_some (if same_role (other_role mine) (other_role (own.side i)) then kept.key else None))
    ∙ ap (λ b. is_some (if b then kept.key else None)) (same_role_refl (other_role mine))
    in
    λ i.
    is_open kept
    && ((party_on x (other_role (sym own.side i)) == party)
    && (nat_le (x.round + answer_deadline) (this_round k) && nat_le (this_round k) (x.round + sym life i))
    && said i
    && not (heard i))

owed-all : (me : Member) (k : Knowledge) (l : Ledger) (party : ℕ) (ks : List Kept) → Recalls me k l → AreFound (entries_in l) ks
    → list_any (λ kept. is_open kept && known.is_owed me k party kept.entry.x) ks ≡ list_any (is_owed l.shape.life party (this_round k)) ks
owed-all me k l party [] h found = refl
owed-all me k l party (kept ∷ ks) h found = λ i. owed-one me k l party kept h found.0 i || owed-all me k l party ks h found.1 i

pub owes-known : (me : Member) (k : Knowledge) (l : Ledger) (party : ℕ) → Recalls me k l → IsDistinct same_exchange (kept_in l)
    → owes_by l party (this_round k) ≡ owes me k party
owes-known me k l party h distinct =
    let same : list_any (known.is_owed me k party) k.opens ≡ list_any (is_owed l.shape.life party (this_round k)) (entries_in l) =
    ap (list_any (known.is_owed me k party)) h.opens
    ∙ any-chosen is_open (known.is_owed me k party) (entries_in l)
    ∙ owed-all me k l party (entries_in l) h (found-each (entries_in l) distinct)
    in
    λ i. is_third (h.shape i) && sym same i

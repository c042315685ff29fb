-- What is packed contains the one list that is needed.
use Rattle.std.proofs.Common.{◌≡◌, ℕ, ◌<◌, ◌≤◌, Bool, true, false, List, [], ◌∷◌, length, refl, sym, ap, ◌∙◌, subst, arith, cond}
use Rattle.std.specs.Prelude.{Option, Some, None, filter, option_map, option_and_then, ◌==◌, nat_lt}
use Rattle.std.specs.Option.{option_map_or}
use Rattle.std.proofs.lemmas.Bool.{both_ways, eq-eqb, eqb-true, ltb-true, lt-ltb}
use Rattle.std.proofs.lemmas.Option.{option_and_then_some, same_Some}
use Rattle.bar_terms.specs.Table.{Table, Lists, no_lists, digests_of}
use Rattle.bar_wire.specs.Bodies.{is_manifest_of}
use Rattle.bar_wire.specs.Datagram.{Datagram, Body, Manifest}
use Rattle.bar_rules.specs.Member.{Session}
use Rattle.bar_rules.specs.Values.{datagram_of}
use Rattle.bar_rules.specs.Judge.Verdict.{Shown, verdict}
use Rattle.bar_laws.specs.Verdicts.{ShownStaysShown}
use Rattle.bar_judge.specs.TableFile.{RoundList, list_in, list_of_signed, if_after, list_after, lists_of}
use Rattle.bar_judge.proofs.TableSizes.{list_signed}
use Rattle.bar_proof.specs.Needs.{is_shown, needs, only, needed}
use Rattle.bar_proof.specs.ProofFile.{is_of_round, manifests_for}
use Rattle.bar_proof.specs.Laws.{NeededIsEnough, PackedIsShown}

-- ---- a manifest and its list

-- a manifest that gives a list
pub record Gives (s : Session) (last : ℕ) (manifest : List ℕ) (entry : RoundList) : Type 0 where
  pub later : last < entry.0
  pub again : (low : ℕ) → low < entry.0 → list_after s low manifest ≡ Some entry
  pub named : (round : ℕ) → is_of_round s round manifest ≡ (entry.0 == round)

list-named : (b : Body) (entry : RoundList) (round : ℕ) → list_in b ≡ Some entry → is_manifest_of round b ≡ (entry.0 == round)
list-named (Manifest r digests) entry round e = (let same : (r, digests) ≡ entry = same_Some (r, digests) entry e in ap (λ (z : RoundList). z.0 == round) same)
list-named b entry round e = cc

after-is : (last : ℕ) (any entry : RoundList) → if_after last any ≡ Some entry → (any ≡ entry) × (last < entry.0)
after-is last any entry e = go (nat_lt last any.0) refl e
  where
    go : (b : Bool) → nat_lt last any.0 ≡ b → cond b (Some any) None ≡ Some entry → (any ≡ entry) × (last < entry.0)
    go true h e =
        let same : any ≡ entry = same_Some any entry e in
        let low : last < any.0 = ltb-true last any.0 h in (same, subst (λ (z : RoundList). last < z.0) same low)
    go false h e = cc

after-low : (low : ℕ) (entry : RoundList) → low < entry.0 → if_after low entry ≡ Some entry
after-low low entry h = ap (λ b. cond b (Some entry) None) (lt-ltb low entry.0 h)

gives : (s : Session) (last : ℕ) (manifest : List ℕ) (entry : RoundList) → list_after s last manifest ≡ Some entry → Gives s last manifest entry
gives s last manifest entry listed =
    option_and_then_some (if_after last) (option_and_then (list_of_signed s) (datagram_of s manifest)) entry listed (λ any any_is after.
    let a = after-is last any entry after in
    let is : option_and_then (list_of_signed s) (datagram_of s manifest) ≡ Some entry = any_is ∙ ap Some a.0 in
    option_and_then_some (list_of_signed s) (datagram_of s manifest) entry is (λ d read signed.
    record {
      later = a.1;
      again = λ low h. ap (option_and_then (if_after low)) is ∙ after-low low entry h;
      named = λ round. ap (λ o. option_map_or (λ (z : Datagram). is_manifest_of round z.message.body) o false) read ∙ list-named d.message.body entry round (list_signed s d entry signed);
    }))

-- ---- the manifests of one round

-- the lists of one round
of_round : ℕ → Lists → Lists
of_round round lists = filter (λ (e : RoundList). e.0 == round) lists

-- the parts of the given lists
pub record Splits (s : Session) (last : ℕ) (manifest : List ℕ) (manifests : List (List ℕ)) (lists : Lists) : Type 0 where
  pub entry : RoundList
  pub rest : Lists
  pub first : list_after s last manifest ≡ Some entry
  pub rest_are : lists_of s entry.0 manifests ≡ Some rest
  pub is : lists ≡ entry ∷ rest

mapped-is : (entry : RoundList) (o : Option Lists) (lists : Lists) → option_map (λ others. entry ∷ others) o ≡ Some lists
    → (others : Lists) × (o ≡ Some others) × (lists ≡ entry ∷ others)
mapped-is entry None lists e = cc
mapped-is entry (Some others) lists e = (others, refl, sym (same_Some (entry ∷ others) lists e))

pub splits : (s : Session) (last : ℕ) (manifest : List ℕ) (manifests : List (List ℕ)) (lists : Lists) → lists_of s last (manifest ∷ manifests) ≡ Some lists
    → Splits s last manifest manifests lists
splits s last manifest manifests lists are =
    option_and_then_some (λ (entry : RoundList). option_map (λ others. entry ∷ others) (lists_of s entry.0 manifests)) (list_after s last manifest) lists are (λ entry first more.
    let m = mapped-is entry (lists_of s entry.0 manifests) lists more in
    record { entry = entry; rest = m.0; first = first; rest_are = m.1; is = m.2 })

chosen : (s : Session) (round last low : ℕ) (manifests : List (List ℕ)) (lists : Lists) → low ≤ last → lists_of s last manifests ≡ Some lists
    → lists_of s low (filter (is_of_round s round) manifests) ≡ Some (of_round round lists)
unfolding of_round
chosen s round last low [] lists below are = ap (λ l. Some (filter (λ (e : RoundList). e.0 == round) l)) (same_Some [] lists are)
chosen s round last low (manifest ∷ manifests) lists below are =
    let p = splits s last manifest manifests lists are in
    let g = gives s last manifest p.entry p.first in
    let first_low : low < p.entry.0 = omega (arith, below, g.later) in
    subst (λ l. lists_of s low (filter (is_of_round s round) (manifest ∷ manifests)) ≡ Some (filter (λ (e : RoundList). e.0 == round) l)) (sym p.is)
    (go (p.entry.0 == round) p g (g.named round) first_low (chosen s round p.entry.0 p.entry.0 manifests p.rest (omega arith) p.rest_are)
    (chosen s round p.entry.0 low manifests p.rest (omega (arith, first_low)) p.rest_are))
  where
    go : (b : Bool) → (p : Splits s last manifest manifests lists) → Gives s last manifest p.entry → is_of_round s round manifest ≡ b → low < p.entry.0
        → lists_of s p.entry.0 (filter (is_of_round s round) manifests) ≡ Some (filter (λ (e : RoundList). e.0 == round) p.rest)
        → lists_of s low (filter (is_of_round s round) manifests) ≡ Some (filter (λ (e : RoundList). e.0 == round) p.rest)
        → lists_of s low (filter (is_of_round s round) (manifest ∷ manifests)) ≡ Some (cond b (p.entry ∷ filter (λ (e : RoundList). e.0 == round) p.rest) (filter (λ (e : RoundList). e.0 == round) p.rest))
    go true p g named first_low kept left = rw (named, g.again low first_low, kept) refl
    go false p g named first_low kept left = rw named left

-- ---- the table of one round's list

only-step : (table : Table) (lists : Lists) (e : RoundList) (round q : ℕ) (a b c : Bool) → (e.0 == round) ≡ a → (q == round) ≡ b → (e.0 == q) ≡ c
    → digests_of (of_round round lists) q ≡ only (digests_of lists) round q
    → digests_of (cond a (e ∷ of_round round lists) (of_round round lists)) q ≡ cond b (cond c (Some e.1) (digests_of lists q)) None
only-step table lists e round q true true true h k l rest = rw l refl
only-step table lists e round q true true false h k l rest =
    let r : e.0 ≡ round = eqb-true _ _ h in
    let p : q ≡ round = eqb-true _ _ k in
    absurd (both_ways (e.0 == q) l (eq-eqb e.0 q (r ∙ sym p)))
only-step table lists e round q true false true h k l rest =
    let r : e.0 ≡ round = eqb-true _ _ h in
    let p : e.0 ≡ q = eqb-true _ _ l in
    absurd (both_ways (q == round) k (eq-eqb q round (sym p ∙ r)))
only-step table lists e round q true false false h k l rest = rw l (rest ∙ ap (λ b. cond b (digests_of lists q) None) k)
only-step table lists e round q false true true h k l rest =
    let p : q ≡ round = eqb-true _ _ k in
    let r : e.0 ≡ q = eqb-true _ _ l in
    absurd (both_ways (e.0 == round) h (eq-eqb e.0 round (r ∙ p)))
only-step table lists e round q false true false h k l rest = rest ∙ ap (λ b. cond b (digests_of lists q) None) k
only-step table lists e round q false false c h k l rest = rest ∙ ap (λ b. cond b (digests_of lists q) None) k

only-of : (lists : Lists) (round q : ℕ) → digests_of (of_round round lists) q ≡ only (digests_of lists) round q
unfolding of_round
only-of [] round q = go (q == round)
  where
    go : (b : Bool) → ◌≡◌ {A = Option (List (List ℕ))} None (cond b None None)
    go true = refl
    go false = refl
only-of (e ∷ lists) round q = only-step no_lists lists e round q (e.0 == round) (q == round) (e.0 == q) refl refl refl (only-of lists round q)

-- ---- one at most

none-before : (s : Session) (round last : ℕ) (manifests : List (List ℕ)) (lists : Lists) → round ≤ last → lists_of s last manifests ≡ Some lists
    → filter (is_of_round s round) manifests ≡ []
none-before s round last [] lists below are = refl
none-before s round last (manifest ∷ manifests) lists below are =
    let p = splits s last manifest manifests lists are in
    let g = gives s last manifest p.entry p.first in
    let higher : round < p.entry.0 = omega (arith, below, g.later) in
    go (p.entry.0 == round) (g.named round) (λ same. let e : p.entry.0 ≡ round = eqb-true _ _ same in absurd (omega (arith, e, higher)))
    (none-before s round p.entry.0 manifests p.rest (omega (arith, higher)) p.rest_are)
  where
    go : (b : Bool) → is_of_round s round manifest ≡ b → (b ≡ true → ⊥) → filter (is_of_round s round) manifests ≡ []
        → filter (is_of_round s round) (manifest ∷ manifests) ≡ []
    go true named clash rest = absurd (clash refl)
    go false named clash rest = rw named rest

pub few-of : (s : Session) (round last : ℕ) (manifests : List (List ℕ)) (lists : Lists) → lists_of s last manifests ≡ Some lists
    → length (filter (is_of_round s round) manifests) ≤ 1
few-of s round last [] lists are = omega arith
few-of s round last (manifest ∷ manifests) lists are =
    let p = splits s last manifest manifests lists are in
    let g = gives s last manifest p.entry p.first in
    go (p.entry.0 == round) (g.named round)
    (λ same. let e : p.entry.0 ≡ round = eqb-true _ _ same in none-before s round p.entry.0 manifests p.rest (omega (arith, e)) p.rest_are)
    (few-of s round p.entry.0 manifests p.rest p.rest_are)
  where
    go : (b : Bool) → is_of_round s round manifest ≡ b → (b ≡ true → filter (is_of_round s round) manifests ≡ [])
        → length (filter (is_of_round s round) manifests) ≤ 1 → length (filter (is_of_round s round) (manifest ∷ manifests)) ≤ 1
    go true named none rest = rw (named, none refl) (omega arith)
    go false named none rest = rw named rest

-- ---- the law

-- what is packed gives the table that is needed
packed-table : (s : Session) (manifests : List (List ℕ)) (lists : Lists) (o : Option ℕ) → lists_of s 0 manifests ≡ Some lists
    → (own : Lists) × (lists_of s 0 (manifests_for s o manifests) ≡ Some own) × (digests_of own ≡ needed (digests_of lists) o)
packed-table s manifests lists None are = ([], refl, refl)
packed-table s manifests lists (Some round) are =
    (of_round round lists, chosen s round 0 0 manifests lists (omega arith) are, λ i q. only-of lists round q i)

pub packed-shown : ShownStaysShown → NeededIsEnough → PackedIsShown
packed-shown law enough s manifests lists evidence party fault are shown =
    let need : Option ℕ = needs s (digests_of lists) evidence in
    let own = packed-table s manifests lists need are in
    let told : verdict s (digests_of own.0) evidence ≡ Shown party fault =
    ap (λ t. verdict s t evidence) own.2 ∙ enough s (digests_of lists) evidence party fault shown in
    record {
      lists = own.0;
      lists_are = own.1;
      shown = told;
      stays = λ more extends. law s (digests_of own.0) more evidence party fault extends told;
      few = few need;
      without = λ e. ap (λ (o : Option ℕ). manifests_for s o manifests) (unneeded e);
    }
  where
    few : (o : Option ℕ) → length (manifests_for s o manifests) ≤ 1
    few None = omega arith
    few (Some round) = few-of s round 0 manifests lists are

    unneeded : is_shown (verdict s no_lists evidence) ≡ true → needs s (digests_of lists) evidence ≡ None
    unneeded e = rw e refl
